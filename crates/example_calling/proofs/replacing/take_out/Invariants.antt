use Rattle.std.proofs.Common.{◌≡◌, map}
use Rattle.j1939_gateway.specs.PortEnds.{end_out}
use Rattle.example_calling.proofs.replacing.take_out.Given as goal

abbrev pub invariant-loop-port : goal.invariant-loop-port
invariant-loop-port l = map end_out l.outs ≡ map end_out l.initial.outs
