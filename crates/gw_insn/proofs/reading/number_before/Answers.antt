use Rattle.std.proofs.Common.{refl}
use Rattle.gw_insn.proofs.Numbers.{number_alone}
use Rattle.gw_insn.proofs.reading.number_before.Goals as goal

pub returns-in_err-n-clause-none : goal.returns-in_err-n-clause-none
returns-in_err-n-clause-none c = rw c.from_residual.ensures (λ n rest h. c.in_err-n.ensures.none n _ h)

pub returns-in_err-after_mark-clause-none : goal.returns-in_err-after_mark-clause-none
returns-in_err-after_mark-clause-none c =
    rw c.from_residual-in_err-after_mark.ensures
    (λ n rest h. c.in_err-after_mark.ensures.none rest (number_alone refl c.in_ok-n.ensures.found h).1)
