use Rattle.gw_table.specs.PartIndices.{AreListed}
use Rattle.gw_table.proofs.difference.differences_at.Given as goal

abbrev pub invariant-loop-index : goal.invariant-loop-index
invariant-loop-index l = AreListed l.fn.ingress l.old l.new l.index 0 l.found.items
