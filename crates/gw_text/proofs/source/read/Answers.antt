use Rattle.std.proofs.Common.{◌≡◌, ◌∙◌, ℕ, List, [], map, ap, rules}
use Rattle.std.specs.Borrow.{Bor}
use Rattle.gw_text.specs.Sources.{label_view}
use Rattle.gw_text.proofs.SourceLines.{faults_behind, labels_behind, instructions_behind}
use Rattle.gw_text.proofs.source.read.Goals as goal

abbrev no_line : Bor (List ℕ)
no_line = record { ref_ptr = (0, 0); now = [] }

pub loop-index-preserved : goal.loop-index-preserved
loop-index-preserved c =
    let names : c.deref.result.now ≡ c.in_ok-names.field-0.labels.items = search rules in
    record {
      faults = faults_behind c.args.lines.now c.loop-index.index no_line _ c.loop-index-test.true c.in_ok-names.ensures.faultless
          c.loop-index.invariant.faults;
      labels =
          labels_behind c.args.lines.now c.loop-index.index no_line _ (map label_view c.loop-index.labels.items)
          (map label_view c.define.new.labels.items) _
          (map (λ t. t.now) c.deref.result.now) c.loop-index.instructions.items c.add.new.instructions.items
          c.in_ok-names.field-0.instruction
          c.loop-index-test.true c.in_ok-define.ensures
          (ap (λ (ns : List (Bor (List ℕ))). map (λ (t : Bor (List ℕ)). t.now) ns) names ∙ c.in_ok-names.ensures.labels)
          (search rules) c.in_ok-add.ensures c.in_ok-names.ensures.instruction c.loop-index.invariant.labels;
      written =
          instructions_behind c.args.lines.now c.loop-index.index no_line c.loop-index.instructions.items
          c.add.new.instructions.items c.in_ok-names.field-0.instruction _
          c.loop-index-test.true c.in_ok-add.ensures c.in_ok-names.ensures.instruction c.loop-index.invariant.written;
    }
