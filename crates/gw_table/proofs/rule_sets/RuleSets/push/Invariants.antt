use Rattle.std.proofs.Common.{◌≡◌}
use Rattle.gw_table.proofs.Listed.{IsBegun}
use Rattle.gw_table.proofs.rule_sets.RuleSets.push.Given as goal

abbrev pub invariant-loop-word : goal.invariant-loop-word
invariant-loop-word l = record {
  words : l.self.words ≡ l.fn.self.words;
  begun : IsBegun l.property l.rules l.fn.self.bits.items l.self.bits.items l.word;
}
