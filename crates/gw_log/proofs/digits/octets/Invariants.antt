-- the octets so far, and those of the digits that are left
use Rattle.std.proofs.Common.{◌≡◌, ◌++◌, ◌+◌, ◌*◌, ◌≤◌, length}
use Rattle.gw_log.specs.LogFrames.{pairs}
use Rattle.gw_log.proofs.digits.octets.Given as goal

abbrev pub invariant-loop-left : goal.invariant-loop-left
invariant-loop-left g l = record {
  spelled : l.octets.items ++ pairs l.left ≡ pairs l.digits;
  few : 2 * length l.octets.items + length l.left ≤ 2 * g.row.N;
}

abbrev pub decreases-loop-left : goal.decreases-loop-left
decreases-loop-left g l = length l.left
