use Rattle.std.specs.Vec.Iter.{into_iter_items}
use Rattle.gw_ports.proofs.Gathering.{Gathers}
use Rattle.gw_ports.proofs.running.gathering.EgressPorts.gather.Given as goal

abbrev pub invariant-loop-one : goal.invariant-loop-one
invariant-loop-one g l =
    Gathers (λ one. one.port) l.fn.drained.items l.gathered.ports (into_iter_items l.one-iterator)
    × Gathers (λ one. one.out) l.fn.drained.items l.gathered.out (into_iter_items l.one-iterator)
