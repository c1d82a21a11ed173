use Rattle.std.proofs.Common.{◌≡◌, ◌*◌, ◌^◌, ◌≤◌, map, min, slice_set, sum, take}
use Rattle.gw_ports.proofs.running.room.most_copies.Given as goal

abbrev pub invariant-loop-port : goal.invariant-loop-port
invariant-loop-port l =
    (l.copies ≡ sum (take l.port (slice_set (map (λ size. min size l.limits.frames) l.sizes) l.egress 0)))
    × (l.copies ≤ l.port * 2 ^ 32)
