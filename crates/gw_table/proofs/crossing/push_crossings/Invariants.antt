use Rattle.gw_table.specs.Crossings.{AreBegun}
use Rattle.gw_table.proofs.crossing.push_crossings.Given as goal

abbrev pub invariant-loop-difference : goal.invariant-loop-difference
invariant-loop-difference l = AreBegun l.changes l.egress l.difference-items l.difference-index l.found.items
