use Rattle.std.proofs.Common.{ℕ, ◌+◌, ◌≤◌, List, length, map, vec_capacity, vec_len}
use Rattle.std.specs.Vec.Iter.{into_iter_items}
use Rattle.gw_ports.specs.Closing.{AreRooms, Finishes, Match, lanes_of, rows_of}
use Rattle.gw_ports.specs.declared.closing.LaneLeft.{LaneLeft}
use Rattle.gw_ports.proofs.closing.finish.finish_all.Given as goal

-- the lanes from the ports that are left have room; once these are finished, all are
abbrev pub invariant-loop-port : goal.invariant-loop-port
invariant-loop-port l =
    (ingress : ℕ)
    × Match (rows_of (into_iter_items l.port-iterator)) (map into_iter_items l.columns.items)
    × AreRooms (lanes_of ingress (rows_of (into_iter_items l.port-iterator)) (map into_iter_items l.columns.items))
    (into_iter_items l.rooms)
    × ((rooms lefts : List LaneLeft)
    → Finishes (lanes_of ingress (rows_of (into_iter_items l.port-iterator)) (map into_iter_items l.columns.items))
    (into_iter_items l.rooms) rooms l.lanes.items lefts
    → Finishes (lanes_of 0 (rows_of l.fn.ins.items) (map into_iter_items l.initial.columns.items))
    (into_iter_items l.initial.rooms) rooms l.initial.lanes.items lefts)
    × (vec_len l.lanes + length (into_iter_items l.rooms) ≤ vec_capacity l.lanes)
