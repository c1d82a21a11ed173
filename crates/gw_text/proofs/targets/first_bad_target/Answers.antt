use Rattle.std.proofs.Common.{sym, ◌∙◌}
use Rattle.gw_text.specs.Sources.{place_in}
use Rattle.gw_text.proofs.FirstFaults.{instruction_here, instruction_behind}
use Rattle.gw_text.proofs.targets.first_bad_target.Goals as goal

pub returns-in-Some : goal.returns-in-Some
returns-in-Some c =
    sym (instruction_here (place_in c.args.places.now) c.args.instructions.now c.loop-place.place
    c.index-instructions-place.result c.in-Some.refusal
    c.loop-place-test.true c.index-instructions-place.is (sym c.bad_target.ensures ∙ c.in-Some.is))
    ∙ c.loop-place.invariant

pub loop-place-preserved : goal.loop-place-preserved
loop-place-preserved c =
    sym (instruction_behind (place_in c.args.places.now) c.args.instructions.now c.loop-place.place
    c.index-instructions-place.result
    c.loop-place-test.true c.index-instructions-place.is (sym c.bad_target.ensures ∙ c.in_default.is))
    ∙ c.loop-place.invariant
