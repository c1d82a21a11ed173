use Rattle.std.proofs.Common.{sym, ◌∙◌, ℕ, List, []}
use Rattle.std.specs.Borrow.{Bor}
use Rattle.gw_text.specs.Assembly.{target_fault}
use Rattle.gw_text.specs.Sources.{instruction_view, place_in}
use Rattle.gw_text.proofs.FirstFaults.{fault_here, fault_behind}
use Rattle.gw_text.proofs.targets.bad_target.Goals as goal

abbrev no_name : Bor (List ℕ)
no_name = record { ref_ptr = (0, 0); now = [] }

pub returns-in-Some : goal.returns-in-Some
returns-in-Some c =
    sym (fault_here (target_fault (place_in c.args.places.now) c.args.place (instruction_view c.args.instruction.now))
    c.deref-name-items.result.now c.loop-name.name-index
    no_name c.in-Some.refusal c.loop-name-test.true (sym c.refuse_target.ensures ∙ c.in-Some.is))
    ∙ c.loop-name.invariant

pub loop-name-preserved : goal.loop-name-preserved
loop-name-preserved c =
    sym (fault_behind (target_fault (place_in c.args.places.now) c.args.place (instruction_view c.args.instruction.now))
    c.deref-name-items.result.now c.loop-name.name-index
    no_name c.loop-name-test.true (sym c.refuse_target.ensures ∙ c.in_default.is))
    ∙ c.loop-name.invariant
