use Rattle.gw_ports.specs.Making.{AreOfOneGateway}
use Rattle.test_libraries.proofs.ports.assert_met.Given as goal

abbrev pub invariant-loop-index : goal.invariant-loop-index
invariant-loop-index g l = AreOfOneGateway l.parts.operator l.parts.ins.items l.parts.outs.items
