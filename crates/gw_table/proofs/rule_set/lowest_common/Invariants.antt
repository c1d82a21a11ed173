use Rattle.gw_table.proofs.RuleBits.{NoneBelow}
use Rattle.gw_table.proofs.rule_set.lowest_common.Given as goal

abbrev pub invariant-loop-word : goal.invariant-loop-word
invariant-loop-word l = NoneBelow l.a l.b l.c l.d l.word
