use Rattle.std.proofs.Common.{◌≡◌}
use Rattle.gw_table.specs.RuleSets.{Follows}
use Rattle.gw_table.specs.Sections.{property_of}
use Rattle.gw_table.proofs.rule_sets.RuleSets.append.Given as goal

abbrev pub invariant-loop-number : goal.invariant-loop-number
invariant-loop-number l = record {
  words : l.self.words ≡ l.fn.self.words;
  follows : Follows (property_of l.section) l.number l.rules l.fn.self.words l.fn.self.bits.items l.self.bits.items;
}
