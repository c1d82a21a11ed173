use Rattle.std.proofs.Common.{◌≡◌, ◌++◌, length}
use Rattle.gw_run.specs.Logs.{log_frames}
use Rattle.gw_run.proofs.log.log_frames.Given as goal

abbrev pub invariant-lines : goal.invariant-lines
invariant-lines l = l.frames.items ++ log_frames l.rest ≡ log_frames l.log

abbrev pub decreases-lines : goal.decreases-lines
decreases-lines l = length l.rest
