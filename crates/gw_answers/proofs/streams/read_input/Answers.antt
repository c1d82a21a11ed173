use Rattle.std.proofs.Common.{inl, inr, arith}
use Rattle.std.proofs.lemmas.Result.{err_from_is_err_and}
use Rattle.gw_answers.proofs.streams.read_input.Goals as goal

pub returns-in_err-read-clause-refused : goal.returns-in_err-read-clause-refused
returns-in_err-read-clause-refused g c =
    let p = err_from_is_err_and c.from_residual.result c.from_residual.ensures.1 in
    rw (p.1, p.2) (elim c.in_err-read.ensures.fault [
      | inl failed ↦ failed
      | inr none ↦ absurd (omega (none, c.pieces.invariant.enough, c.pieces-test.true, arith))
    ])
