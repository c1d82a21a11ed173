use Rattle.std.proofs.Common.{◌≡◌, ℕ, ◌+◌, ◌≤◌, ◌++◌, List, drop, length, map, vec_capacity, vec_len}
use Rattle.std.specs.Vec.Iter.{into_iter_items}
use Rattle.gw_ports.specs.Closing.{AreRooms, Finishes, Lane, heads, lanes_to}
use Rattle.gw_ports.specs.declared.closing.LaneLeft.{LaneLeft}
use Rattle.gw_ports.proofs.Rooms.{Passed, row_behind}
use Rattle.gw_ports.proofs.closing.finish.finish_from.Given as goal

-- the columns below the egress port gave their first lane, and the lanes to the others have room; once these are finished, all
-- are
abbrev pub invariant-loop-from : goal.invariant-loop-from
invariant-loop-from l =
    Passed l.egress (map into_iter_items l.initial.columns) (map into_iter_items l.columns)
    × (into_iter_items l.from-iterator ≡ drop l.egress l.fn.row.items)
    × (l.egress + length (into_iter_items l.from-iterator) ≡ length l.fn.row.items)
    × ((ingress : ℕ) × (others : List Lane)
    × AreRooms (row_behind ingress l.egress l.fn.row.items (heads (map into_iter_items l.initial.columns)) ++ others)
    (into_iter_items l.rooms))
    × ((ingress : ℕ) (rooms lefts : List LaneLeft)
    → Finishes (row_behind ingress l.egress l.fn.row.items (heads (map into_iter_items l.initial.columns)))
    (into_iter_items l.rooms) rooms l.lanes.items lefts
    → Finishes (lanes_to ingress 0 l.fn.row.items (heads (map into_iter_items l.initial.columns)))
    (into_iter_items l.initial.rooms) rooms l.initial.lanes.items lefts)
    × (vec_len l.lanes + length (into_iter_items l.rooms) ≤ vec_capacity l.lanes)
