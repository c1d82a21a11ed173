use Rattle.std.proofs.Common.{◌≡◌, ◌+◌, ◌++◌, List, length, vec_capacity, vec_len}
use Rattle.gw_ledger.specs.declared.outcome.FrameCopy.{FrameCopy}
use Rattle.rtrb.specs.Ring.{known_items}
use Rattle.gw_lanes.proofs.lane.finish.Given as goal

-- what was popped stands behind what the vector had, and what waits still follows it
abbrev pub invariant-loop : goal.invariant-loop
invariant-loop l =
    (vec_capacity l.left ≡ vec_capacity l.initial.left) × (vec_len l.left ≡ vec_len l.initial.left + l.counter)
    × (length (known_items l.consumer) + l.counter ≡ l.waiting)
    × ((popped : List FrameCopy) × (l.left.items ≡ l.initial.left.items ++ popped)
    × (popped ++ known_items l.consumer ≡ known_items l.initial.consumer))
