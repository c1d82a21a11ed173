use Rattle.gw_policy.specs.Batches.{passes, policy_at}
use Rattle.gw_policy.proofs.EgressPorts.{Gathered}
use Rattle.gw_policy.proofs.in_force.PolicySet.judge.Given as goal

abbrev pub invariant-loop-leader : goal.invariant-loop-leader
invariant-loop-leader l =
    Gathered l.leader-iterator l.initial.leader-iterator l.self-inside.groups l.asked
    (λ port. passes (policy_at port l.self) l.frame l.from) l.egress
