use Rattle.gw_insn.proofs.Items.{lacks_comma}
use Rattle.gw_insn.proofs.reading.item.Goals as goal

pub returns-in_err-raw-clause-none : goal.returns-in_err-raw-clause-none
returns-in_err-raw-clause-none c = rw c.from_residual.ensures (λ r rest h. c.in_err-raw.ensures.none r h.end h.instruction)

pub returns-in-None-2-clause-none : goal.returns-in-None-2-clause-none
returns-in-None-2-clause-none c = lacks_comma c.if-is_last.false c.in_ok-raw.ensures.found c.in-None.ensures.none
