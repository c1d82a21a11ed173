use Rattle.gw_policy.proofs.EgressPorts.{others_below}
use Rattle.gw_policy.proofs.in_force.others.Goals as goal

pub returns : goal.returns
returns c =
    others_below c.args.ports c.args.from c.below-there.result c.without.result c.requires c.below-there.ensures
    c.without.ensures
