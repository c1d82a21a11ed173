use Rattle.gw_table.proofs.Asked.{Before}
use Rattle.gw_table.proofs.table.Table.sample.Given as goal

abbrev pub invariant-loop-index : goal.invariant-loop-index
invariant-loop-index l = Before l.self l.question 0 l.passes l.index
