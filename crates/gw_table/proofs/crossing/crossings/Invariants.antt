use Rattle.gw_table.specs.Crossings.{AreCrossingsBelow}
use Rattle.gw_table.proofs.crossing.crossings.Given as goal

abbrev pub invariant-loop-egress : goal.invariant-loop-egress
invariant-loop-egress l = AreCrossingsBelow l.changes l.egress l.found.items
