use Rattle.std.specs.Vec.Iter.{into_iter_items}
use Rattle.gw_ports.proofs.Gathering.{Gathers}
use Rattle.gw_ports.proofs.running.gathering.IngressPorts.gather.Given as goal

abbrev pub invariant-loop-one : goal.invariant-loop-one
invariant-loop-one g l =
    Gathers (λ one. one.port) l.fn.done.items l.gathered.ports (into_iter_items l.one-iterator)
    × Gathers (λ one. one.input) l.fn.done.items l.gathered.inputs (into_iter_items l.one-iterator)
    × Gathers (λ one. one.outcomes) l.fn.done.items l.gathered.outcomes (into_iter_items l.one-iterator)
    × Gathers (λ one. one.stop) l.fn.done.items l.gathered.stops (into_iter_items l.one-iterator)
