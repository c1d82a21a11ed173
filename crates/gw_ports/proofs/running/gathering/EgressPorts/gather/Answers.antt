use Rattle.gw_ports.specs.declared.running.drain.Drain.{Drain}
use Rattle.gw_ports.proofs.Gathering.{gathered}
use Rattle.gw_ports.proofs.running.gathering.EgressPorts.gather.Goals as goal

pub returns-clause-ports : goal.returns-clause-ports
returns-clause-ports g c =
    gathered (λ (one : Drain g.row.C.Denot). one.port) c.args.drained.items c.loop-one.gathered.ports
    c.loop-one.one-iterator c.loop-one.invariant.0 c.in-None.ensures.steps.0

pub returns-clause-out : goal.returns-clause-out
returns-clause-out g c =
    gathered (λ (one : Drain g.row.C.Denot). one.out) c.args.drained.items c.loop-one.gathered.out
    c.loop-one.one-iterator c.loop-one.invariant.1 c.in-None.ensures.steps.0
