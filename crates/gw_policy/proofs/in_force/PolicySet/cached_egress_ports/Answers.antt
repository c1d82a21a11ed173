use Rattle.gw_policy.specs.Batches.{passes, policy_at}
use Rattle.gw_policy.proofs.EgressPorts.{others_within, sent_elsewhere}
use Rattle.gw_policy.proofs.in_force.PolicySet.cached_egress_ports.Goals as goal

pub recall-requires-clause-within : goal.recall-requires-clause-within
recall-requires-clause-within c = others_within c.args.ports c.args.from c.others.result c.others.ensures

pub returns-clause-ports : goal.returns-clause-ports
returns-clause-ports c =
    sent_elsewhere c.args.ports c.args.from c.others.result c.others.ensures c.requires.fits c.recall.result
    (λ port. passes (policy_at port c.args.self.now) c.args.frame.now c.args.from) c.recall.ensures.ports
