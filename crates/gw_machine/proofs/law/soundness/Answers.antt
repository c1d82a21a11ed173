use Rattle.std.proofs.Common.{refl}
use Rattle.gw_verify.specs.Flow.{program_forms}
use Rattle.gw_machine.proofs.Reached.{has_loaded, stands_inside, accepted_loads}
use Rattle.gw_machine.proofs.law.soundness.Goals as goal

pub returns-clause-loads : goal.returns-clause-loads
returns-clause-loads c = λ code octets port none m insn word r here loads.
    rw (has_loaded code octets port r.0 m insn word none r.1 here loads).1 refl

pub returns-clause-accepted_loads : goal.returns-clause-accepted_loads
returns-clause-accepted_loads c = λ code octets port accepted.
    returns-clause-loads c code octets port (accepted_loads (program_forms code) accepted)

pub returns-clause-accepted_places : goal.returns-clause-accepted_places
returns-clause-accepted_places c = λ code octets port accepted m r.
    stands_inside code octets port (c.accepted_is_orderly.ensures (program_forms code) accepted) r.0 m r.1
