use Rattle.gw_table.specs.PartIndices.{AreListed}
use Rattle.gw_table.proofs.difference.push_row.Given as goal

abbrev pub invariant-loop-with : goal.invariant-loop-with
invariant-loop-with l = AreListed l.fn.ingress l.old l.new l.index l.with l.found.items
