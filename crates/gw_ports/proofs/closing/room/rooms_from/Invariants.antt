use Rattle.std.proofs.Common.{◌≡◌}
use Rattle.gw_ports.specs.Closing.{IsRoomOf, column_at}
use Rattle.gw_ports.proofs.Rooms.{RowDone}
use Rattle.gw_ports.proofs.closing.room.rooms_from.Given as goal

-- the ends are as they were, and the lanes to the egress ports so far have room
abbrev pub invariant-loop-egress : goal.invariant-loop-egress
invariant-loop-egress l =
    (l.from ≡ l.initial.from) × (l.outs ≡ l.initial.outs)
    × RowDone IsRoomOf l.ingress l.egress l.initial.from.lanes (column_at l.ingress l.initial.outs) l.initial.rooms.items
    l.rooms.items
