use Rattle.std.proofs.Common.{◌∙◌, ℕ, List, Option, ap, inl, inr, is_some, refl, subst, sym}
use Rattle.std.specs.Borrow.{Bor}
use Rattle.std.specs.List.{list_any}
use Rattle.gw_io.specs.Tries.{inner_of, has_failed, unended_reads}
use Rattle.gw_answers.specs.declared.policies.PolicySource.{PolicySource}
use Rattle.gw_run.specs.Forwarding.{ForwardsNamed}
use Rattle.gw_run.specs.PortInputs.{ForwardsFiles}
use Rattle.gw_cli.specs.Asked.{shown_by}
use Rattle.gw_cli.proofs.running.run_observed.Goals as goal

pub returns-then-names_file : goal.returns-then-names_file
returns-then-names_file g c =
    let run = c.args.run.now in
    let waits = g.G.Gate.waits in
    inr (
      ap (list_any is_some) (sym c.as_slice-files.ensures.value) ∙ sym c.names_file.ensures ∙ c.if-names_file.true,
      refl,
      subst
          (λ b. ForwardsFiles run.limits run.sources.items run.inputs.items b (shown_by run)
          (g.W.Write.contents (inner_of c.args.output.now)) (g.W.Write.contents (inner_of c.forward_files.new.output))
          (has_failed c.forward_files.new.output) c.forward_files.result)
          c.requires.waits
          (subst
          (λ (files : List (Option (Bor (List ℕ)))). ForwardsFiles run.limits run.sources.items files waits (shown_by run)
          (g.W.Write.contents (inner_of c.args.output.now)) (g.W.Write.contents (inner_of c.forward_files.new.output))
          (has_failed c.forward_files.new.output) c.forward_files.result)
          c.as_slice-files.ensures.value
          (subst
          (λ (sources : List PolicySource). ForwardsFiles run.limits sources c.as_slice-files.result.now waits (shown_by run)
          (g.W.Write.contents (inner_of c.args.output.now)) (g.W.Write.contents (inner_of c.forward_files.new.output))
          (has_failed c.forward_files.new.output) c.forward_files.result)
          c.as_slice-sources.ensures.value
          (subst
          (λ shown. ForwardsFiles run.limits c.as_slice-sources.result.now c.as_slice-files.result.now waits shown
          (g.W.Write.contents (inner_of c.args.output.now)) (g.W.Write.contents (inner_of c.forward_files.new.output))
          (has_failed c.forward_files.new.output) c.forward_files.result)
          c.shown-shown.ensures c.forward_files.ensures))),
    )

pub returns : goal.returns
returns g c =
    let run = c.args.run.now in
    let waits = g.G.Gate.waits in
    let taking = c.asked_taking-taking.result in
    inl (
      taking,
      ap (list_any is_some) (sym c.as_slice-files.ensures.value) ∙ sym c.names_file.ensures ∙ c.if-names_file.false,
      subst
          (λ b. ForwardsNamed taking run.limits run.sources.items b (shown_by run)
          (g.I.Read.remaining (inner_of c.args.input.now)) (g.I.Read.remaining (inner_of c.forward_named.new.input))
          (has_failed c.forward_named.new.input) (unended_reads c.args.input.now c.forward_named.new.input)
          (g.W.Write.contents (inner_of c.args.output.now)) (g.W.Write.contents (inner_of c.forward_named.new.output))
          (has_failed c.forward_named.new.output) c.forward_named.result)
          c.requires.waits
          (subst
          (λ (sources : List PolicySource). ForwardsNamed taking run.limits sources waits (shown_by run)
          (g.I.Read.remaining (inner_of c.args.input.now)) (g.I.Read.remaining (inner_of c.forward_named.new.input))
          (has_failed c.forward_named.new.input) (unended_reads c.args.input.now c.forward_named.new.input)
          (g.W.Write.contents (inner_of c.args.output.now)) (g.W.Write.contents (inner_of c.forward_named.new.output))
          (has_failed c.forward_named.new.output) c.forward_named.result)
          c.as_slice-sources.ensures.value
          (subst
          (λ shown. ForwardsNamed taking run.limits c.as_slice-sources.result.now waits shown
          (g.I.Read.remaining (inner_of c.args.input.now)) (g.I.Read.remaining (inner_of c.forward_named.new.input))
          (has_failed c.forward_named.new.input) (unended_reads c.args.input.now c.forward_named.new.input)
          (g.W.Write.contents (inner_of c.args.output.now)) (g.W.Write.contents (inner_of c.forward_named.new.output))
          (has_failed c.forward_named.new.output) c.forward_named.result)
          c.shown-shown.ensures c.forward_named.ensures)),
    )
