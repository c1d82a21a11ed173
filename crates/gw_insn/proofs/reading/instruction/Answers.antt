use Rattle.gw_insn.proofs.Items.{lacks_jt, lacks_jf, lacks_k}
use Rattle.gw_insn.proofs.reading.instruction.Goals as goal

pub returns-in_err-code-clause-none : goal.returns-in_err-code-clause-none
returns-in_err-code-clause-none c =
    rw c.from_residual.ensures (λ r after h. c.in_err-code.ensures.none r.code h.after_code h.code)

pub returns-in_err-jt-clause-none : goal.returns-in_err-jt-clause-none
returns-in_err-jt-clause-none c =
    rw c.from_residual-in_err-jt.ensures (lacks_jt c.in_ok-code.ensures.found c.in_err-jt.ensures.none)

pub returns-in_err-jf-clause-none : goal.returns-in_err-jf-clause-none
returns-in_err-jf-clause-none c =
    rw c.from_residual-in_err-jf.ensures (lacks_jf c.in_ok-code.ensures.found c.in_ok-jt.ensures.found c.in_err-jf.ensures.none)

pub returns-in_err-k-clause-none : goal.returns-in_err-k-clause-none
returns-in_err-k-clause-none c =
    rw c.from_residual-in_err-k.ensures
    (lacks_k c.in_ok-code.ensures.found c.in_ok-jt.ensures.found c.in_ok-jf.ensures.found c.in_err-k.ensures.none)
