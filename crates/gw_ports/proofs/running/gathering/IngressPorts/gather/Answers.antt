use Rattle.gw_ports.specs.declared.running.feed.Done.{Done}
use Rattle.gw_ports.proofs.Gathering.{gathered}
use Rattle.gw_ports.proofs.running.gathering.IngressPorts.gather.Goals as goal

pub returns-clause-ports : goal.returns-clause-ports
returns-clause-ports g c =
    gathered (λ (one : Done g.row.I.Denot g.row.O.Denot). one.port) c.args.done.items c.loop-one.gathered.ports
    c.loop-one.one-iterator c.loop-one.invariant.0 c.in-None.ensures.steps.0

pub returns-clause-inputs : goal.returns-clause-inputs
returns-clause-inputs g c =
    gathered (λ (one : Done g.row.I.Denot g.row.O.Denot). one.input) c.args.done.items c.loop-one.gathered.inputs
    c.loop-one.one-iterator c.loop-one.invariant.1 c.in-None.ensures.steps.0

pub returns-clause-outcomes : goal.returns-clause-outcomes
returns-clause-outcomes g c =
    gathered (λ (one : Done g.row.I.Denot g.row.O.Denot). one.outcomes) c.args.done.items c.loop-one.gathered.outcomes
    c.loop-one.one-iterator c.loop-one.invariant.2 c.in-None.ensures.steps.0

pub returns-clause-stops : goal.returns-clause-stops
returns-clause-stops g c =
    gathered (λ (one : Done g.row.I.Denot g.row.O.Denot). one.stop) c.args.done.items c.loop-one.gathered.stops
    c.loop-one.one-iterator c.loop-one.invariant.3 c.in-None.ensures.steps.0
