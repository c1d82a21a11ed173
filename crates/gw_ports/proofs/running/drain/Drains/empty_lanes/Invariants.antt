use Rattle.gw_ports.specs.Running.{AllHaveDrained}
use Rattle.gw_ports.proofs.running.drain.Drains.empty_lanes.Given as goal

abbrev pub invariant-loop : goal.invariant-loop
invariant-loop g l = AllHaveDrained g.C.Sink.takes l.fn.self l.drains
