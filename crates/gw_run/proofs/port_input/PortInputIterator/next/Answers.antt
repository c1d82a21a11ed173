use Rattle.std.proofs.Common.{subst, sym}
use Rattle.gw_run.specs.PortInputs.{GivesNext}
use Rattle.gw_run.specs.declared.port_input.PortInput.TheVariants.{Streamed}
use Rattle.gw_run.proofs.TraceInputs.{streamed_next}
use Rattle.gw_run.proofs.port_input.PortInputIterator.next.Goals as goal

pub returns-in-Streamed-clause-steps : goal.returns-in-Streamed-clause-steps
returns-in-Streamed-clause-steps g c =
    subst (λ old. GivesNext g.R.Read.remaining old c.next-in-Streamed.result
    (Streamed c.in-Streamed.field-0 c.next-in-Streamed.new.self)) (sym c.in-Streamed.is)
    (streamed_next g.R.Read.remaining c.in-Streamed.field-0 _ c.next-in-Streamed.new.self c.next-in-Streamed.result
    c.next-in-Streamed.ensures.steps)
