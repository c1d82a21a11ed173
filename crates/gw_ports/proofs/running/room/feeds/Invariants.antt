use Rattle.std.proofs.Common.{◌≡◌, ◌+◌, ◌≤◌, ◌++◌, length, map, vec_capacity, vec_len}
use Rattle.std.specs.List.{All}
use Rattle.std.specs.Vec.Iter.{into_iter_items}
use Rattle.gw_ports.proofs.running.room.feeds.Given as goal

abbrev pub invariant-loop-port : goal.invariant-loop-port
invariant-loop-port g l =
    (map (λ o. o.port) l.feeds.items ++ into_iter_items l.port-iterator ≡ l.fn.ins.items)
    × (map (λ o. o.input) l.feeds.items ++ into_iter_items l.inputs ≡ l.fn.inputs.items)
    × (map (λ o. o.outcomes) l.feeds.items ++ into_iter_items l.sinks ≡ l.fn.outcomes.items)
    × All (λ o. o.waits ≡ l.fn.waits) l.feeds.items
    × (vec_len l.feeds + length (into_iter_items l.port-iterator) ≤ vec_capacity l.feeds)
