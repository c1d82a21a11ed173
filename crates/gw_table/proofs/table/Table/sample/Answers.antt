use Rattle.std.proofs.Common.{◌≡◌, ◌≢◌, arith, rules, sym, ◌∙◌}
use Rattle.gw_table.specs.Table.{is_pass}
use Rattle.gw_table.proofs.Asked.{None_there, Is_there, is_sample, passes_there, next_has_none}
use Rattle.gw_table.proofs.PartsAt.{index_fits}
use Rattle.gw_table.proofs.table.Table.sample.Goals as goal
use Rattle.gw_table.proofs.table.Table.sample.Goals.{then-passes+in_ok-witness+in_default, else-passes}

pub returns-in-Some : goal.returns-in-Some
returns-in-Some c =
    let so : is_pass c.action_at.result ≡ c.args.passes = search rules in
    let there : Is_there c.args.self.now c.args.question.now c.loop-index.index c.in-Some.witness = search rules in
    rw c.part_at.ensures (is_sample c.args.self.now c.args.question.now c.loop-index.index c.action_at.result c.action_at.ensures
    c.args.passes so c.in-Some.witness there)

pub loop-index-preserved : goal.loop-index-preserved
loop-index-preserved c =
    let table = c.args.self.now in
    let question = c.args.question.now in
    let index = c.loop-index.index in
    let passes = c.args.passes in
    elim c.if-passes.branch [
      | then-passes+in_ok-witness+in_default w ↦ (let none : None_there table question index = search rules in
          next_has_none table question index passes c.loop-index.invariant
          (λ octets port asked is. absurd (none octets port asked is)))
      | else-passes w ↦ (let apart : is_pass c.action_at.result ≢ passes = search rules in
          next_has_none table question index passes c.loop-index.invariant
          (λ octets port asked is e. apart
          (sym (passes_there table question index c.action_at.result c.action_at.ensures octets port is) ∙ e)))
    ]

pub returns : goal.returns
returns c =
    λ octets port asked. (let fits = index_fits c.args.self.now octets port in
    c.loop-index.invariant octets port asked (omega (arith, fits, c.part_count-index-end.ensures.count, c.loop-index-test.false)))
