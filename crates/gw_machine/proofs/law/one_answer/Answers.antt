use Rattle.gw_verify.specs.Flow.{program_forms}
use Rattle.gw_machine.specs.Answers.{answer_of, steps_of}
use Rattle.gw_machine.proofs.Totals.{only_answer, returns_of, runs_below, steps_bound}
use Rattle.gw_machine.proofs.law.one_answer.Goals as goal

pub returns-clause-returns : goal.returns-clause-returns
returns-clause-returns c = λ code octets port answer n accepted.
    only_answer code octets port accepted (c.accepted_is_orderly.ensures (program_forms code) accepted) answer n

pub returns-clause-steps : goal.returns-clause-steps
returns-clause-steps c = λ code octets port accepted.
    let orderly = c.accepted_is_orderly.ensures (program_forms code) accepted in
    steps_bound code octets port accepted orderly (answer_of code octets port) (steps_of code octets port)
    (returns_of code octets port accepted orderly)

pub returns-clause-running : goal.returns-clause-running
returns-clause-running c = λ code octets port m n accepted r.
    runs_below code octets port accepted (c.accepted_is_orderly.ensures (program_forms code) accepted) n m r
