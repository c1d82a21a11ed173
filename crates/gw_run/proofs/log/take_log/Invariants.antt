use Rattle.std.proofs.Common.{◌≡◌, ◌<◌, ◌++◌, ℕ, length, slice_index_or}
use Rattle.gw_judge.specs.Interfaces.{port_named}
use Rattle.gw_run.specs.Logs.{taken_at}
use Rattle.gw_run.proofs.log.take_log.Given as goal

abbrev pub invariant-lines : goal.invariant-lines
invariant-lines l =
    (length l.lists ≡ length l.initial.lists)
    × ((k : ℕ) (d : _) → k < length l.initial.lists
    → (slice_index_or l.lists k d).items ++ taken_at (port_named l.names) k l.rest
    ≡ (slice_index_or l.initial.lists k d).items ++ taken_at (port_named l.names) k l.log)

abbrev pub decreases-lines : goal.decreases-lines
decreases-lines l = length l.rest
