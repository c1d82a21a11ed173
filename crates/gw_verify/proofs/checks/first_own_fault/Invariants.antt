use Rattle.gw_verify.specs.Flow.{forms_of}
use Rattle.gw_verify.specs.OwnFault.{NoOwnFaultBelow}
use Rattle.gw_verify.proofs.checks.first_own_fault.Given as goal

abbrev pub invariant-loop-place : goal.invariant-loop-place
invariant-loop-place l = NoOwnFaultBelow (forms_of l.code) l.place
