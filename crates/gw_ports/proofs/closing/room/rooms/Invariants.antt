use Rattle.std.proofs.Common.{◌≡◌, drop}
use Rattle.gw_ports.specs.Closing.{IsRoomOf, Match, columns_of, lanes_of, rows_of}
use Rattle.gw_ports.proofs.Rooms.{AllDone, columns_from}
use Rattle.gw_ports.proofs.closing.room.rooms.Given as goal

-- the ends are as they were, and the lanes from the ports so far have room
abbrev pub invariant-loop-ingress : goal.invariant-loop-ingress
invariant-loop-ingress l =
    (l.ins ≡ l.initial.ins) × (l.outs ≡ l.initial.outs)
    × Match (drop l.ingress (rows_of l.initial.ins)) (columns_from l.ingress l.initial.outs)
    × AllDone IsRoomOf l.ingress (lanes_of 0 (rows_of l.initial.ins) (columns_of l.initial.outs))
    (drop l.ingress (rows_of l.initial.ins))
    (columns_from l.ingress l.initial.outs) l.rooms.items
