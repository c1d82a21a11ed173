use Rattle.std.proofs.Common.{◌≡◌}
use Rattle.gw_policy.specs.Batches.{HasGroups}
use Rattle.gw_policy.proofs.in_force.PolicySet.note_groups.Given as goal

abbrev pub invariant-loop-port : goal.invariant-loop-port
invariant-loop-port l = record {
  same : l.self ≡ l.initial.self;
  groups : HasGroups l.port l.self l.groups l.leaders;
}
