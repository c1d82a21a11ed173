use Rattle.std.proofs.Common.{true}
use Rattle.gw_ledger.specs.Ports.{ports_below}
use Rattle.gw_policy.specs.Batches.{HasGroups, PortPolicies}
use Rattle.gw_policy.proofs.in_force.each_alone.Given as goal

abbrev pub invariant-loop-port : goal.invariant-loop-port
invariant-loop-port l = (set : PortPolicies) → HasGroups l.port set l.groups (ports_below 16 (λ _. true))
