use Rattle.std.specs.Vec.Iter.{into_iter_items}
use Rattle.gw_ports.proofs.Dealing.{Dealt}
use Rattle.gw_ports.proofs.parts.deal.deal_from.Given as goal

abbrev pub invariant-loop-egress : goal.invariant-loop-egress
invariant-loop-egress l = Dealt l.ingress l.egress l.lanes.items l.initial.outs l.outs (into_iter_items l.initial.froms)
    (into_iter_items l.froms) (into_iter_items l.tos)
