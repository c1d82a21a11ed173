use Rattle.std.proofs.Common.{◌≡◌}
use Rattle.j1939_gateway.specs.PortEnds.{end_out}
use Rattle.example_calling.proofs.replacing.drain.Given as goal

abbrev pub invariant-loop-step : goal.invariant-loop-step
invariant-loop-step l = end_out l.port ≡ end_out l.initial.port
