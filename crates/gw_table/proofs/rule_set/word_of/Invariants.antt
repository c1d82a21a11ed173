use Rattle.gw_table.proofs.Holding.{SettledBelow}
use Rattle.gw_table.proofs.rule_set.word_of.Given as goal

abbrev pub invariant-loop-i : goal.invariant-loop-i
invariant-loop-i l = SettledBelow l.property l.rules l.word l.i l.bits
