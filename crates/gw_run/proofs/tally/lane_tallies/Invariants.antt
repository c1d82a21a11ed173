use Rattle.std.proofs.Common.{◌≡◌, ◌≤◌, ◌<◌, ℕ, get_or, length, vec_capacity, vec_len}
use Rattle.gw_ports.specs.declared.closing.LaneLeft.{LaneLeft}
use Rattle.gw_run.specs.declared.tally.LaneTally.{LaneTally}
use Rattle.gw_run.specs.Tallies.{IsSaidOf}
use Rattle.gw_run.proofs.tally.lane_tallies.Given as goal

abbrev pub invariant-loop-lane : goal.invariant-loop-lane
invariant-loop-lane l = (vec_len l.tallies ≡ l.lane-index) × (length l.lane-items ≤ vec_capacity l.tallies)
    × ((k : ℕ) (d : LaneTally) (e : LaneLeft) → k < length l.tallies.items
    → IsSaidOf l.report l.losses (get_or l.lane-items k e) (get_or l.tallies.items k d))
