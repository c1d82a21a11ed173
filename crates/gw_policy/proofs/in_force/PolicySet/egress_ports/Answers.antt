use Rattle.gw_policy.specs.Batches.{passes, policy_at}
use Rattle.gw_policy.proofs.EgressPorts.{others_within, sent_elsewhere}
use Rattle.gw_policy.proofs.in_force.PolicySet.egress_ports.Goals as goal

pub judge-requires-clause-within : goal.judge-requires-clause-within
judge-requires-clause-within c = others_within c.args.ports c.args.from c.others.result c.others.ensures

pub returns : goal.returns
returns c =
    sent_elsewhere c.args.ports c.args.from c.others.result c.others.ensures c.requires c.judge.result
    (λ port. passes (policy_at port c.args.self.now) c.args.frame.now c.args.from) c.judge.ensures
