use Rattle.std.proofs.Common.{inr, refl}
use Rattle.gw_run.proofs.egress_command.log_egress.Goals as goal

pub returns-in-Err : goal.returns-in-Err
returns-in-Err g c batches before stands opened =
    inr (c.in-Err.fault, c.in-Err.ensures.part batches before stands opened, refl)
