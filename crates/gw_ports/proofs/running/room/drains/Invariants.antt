use Rattle.std.proofs.Common.{◌≡◌, ◌+◌, ◌≤◌, ◌++◌, length, map, vec_capacity, vec_len}
use Rattle.std.specs.Vec.Iter.{into_iter_items}
use Rattle.gw_ports.proofs.running.room.drains.Given as goal

abbrev pub invariant-loop-port : goal.invariant-loop-port
invariant-loop-port g l =
    (map (λ t. t.port) l.drains.items ++ into_iter_items l.port-iterator ≡ l.fn.outs.items)
    × (map (λ t. t.out) l.drains.items ++ into_iter_items l.sinks ≡ l.fn.out.items)
    × (vec_len l.drains + length (into_iter_items l.port-iterator) ≤ vec_capacity l.drains)
