use Rattle.std.proofs.Common.{◌≡◌, length, map, min, vec_capacity}
use Rattle.gw_ports.specs.Reports.{sum_of_others}
use Rattle.gw_ports.proofs.Room.{HasLists}
use Rattle.gw_ports.proofs.running.room.copy_lists.Given as goal

abbrev pub invariant-loop-egress : goal.invariant-loop-egress
invariant-loop-egress l =
    HasLists (λ k list. sum_of_others k (map (λ size. min size l.limits.frames) l.sizes) ≡ vec_capacity list) (length l.sizes)
    l.egress l.lists
