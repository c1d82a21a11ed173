use Rattle.std.proofs.Common.{◌≡◌, length, min, slice_index, vec_capacity}
use Rattle.gw_ports.proofs.Room.{HasLists}
use Rattle.gw_ports.proofs.running.room.outcome_lists.Given as goal

abbrev pub invariant-loop-port : goal.invariant-loop-port
invariant-loop-port l =
    HasLists (λ k list. vec_capacity list ≡ min (slice_index l.sizes k) l.limits.frames) (length l.sizes) l.port l.lists
