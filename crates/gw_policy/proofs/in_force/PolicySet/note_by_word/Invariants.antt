use Rattle.std.proofs.Common.{◌≡◌}
use Rattle.gw_policy.specs.Cached.{AreByWord}
use Rattle.gw_policy.proofs.in_force.PolicySet.note_by_word.Given as goal

abbrev pub invariant-loop-port : goal.invariant-loop-port
invariant-loop-port l = record {
  same : l.self ≡ l.initial.self;
  by_word : AreByWord l.self l.by_word;
}
