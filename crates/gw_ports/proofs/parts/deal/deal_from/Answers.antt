use Rattle.std.proofs.Common.{◌≡◌, ◌∙◌, sym, ap, get_or, ◌∷◌, Some, None, map, List}
use Rattle.std.specs.Vec.Iter.{into_iter_items}
use Rattle.gw_lanes.specs.Ends.{Inlet, Outlet, new_outlet}
use Rattle.gw_ports.specs.Making.{egress_with}
use Rattle.gw_ports.proofs.Dealing.{next_dealt}
use Rattle.gw_ports.proofs.parts.deal.deal_from.Goals as goal
use Rattle.gw_ports.proofs.parts.deal.deal_from.Goals.{then-egress-from+in_ok-push+in_ok-add}
use Rattle.gw_ports.proofs.parts.deal.deal_from.Goals.{else-egress-from+in_ok-push-2+in_ok-add-2}

pub loop-egress-preserved : goal.loop-egress-preserved
loop-egress-preserved c =
    let inv = c.loop-egress.invariant in
    let below = c.loop-egress-test.true in
    let at = c.loop-egress in
    let after = c.if-egress-from in
    elim c.if-egress-from.branch [
      | then-egress-from+in_ok-push+in_ok-add w ↦
          let same : into_iter_items after.froms ≡ into_iter_items at.froms = ap into_iter_items w.froms-is in
          next_dealt c.args.ingress at.egress at.lanes.items after.lanes.items None c.args.outs.now at.outs after.outs
          w.index-outs-egress.result w.add.new.self
          (into_iter_items c.args.froms.now) (into_iter_items at.froms) (into_iter_items after.froms) (into_iter_items at.tos)
          (into_iter_items after.tos)
          inv below (w.if-egress-from.true ∙ c.from.ensures, same)
          (ap into_iter_items w.tos-is ∙ inv.paired ∙ ap (λ (l : List Inlet). map new_outlet l) (sym same))
          w.index-outs-egress.is w.in_ok-add.ensures (ap (λ v. v.items) w.lanes-is ∙ w.in_ok-push.ensures.items) w.outs-is
      | else-egress-from+in_ok-push-2+in_ok-add-2 w ↦
          let i = w.next_lane-from.result.0 in
          let from : into_iter_items at.froms ≡ i ∷ into_iter_items after.froms = w.next_lane-from.ensures.from
          ∙ ap (λ l. i ∷ into_iter_items l) (sym w.froms-is) in
          let to : w.next_lane-from.result.1 ≡ new_outlet i = w.next_lane-from.ensures.to in
          let b = w.index-outs-egress-else-egress-from.result in
          next_dealt c.args.ingress at.egress at.lanes.items after.lanes.items (Some i) c.args.outs.now at.outs after.outs b
          w.add-else-egress-from.new.self
          (into_iter_items c.args.froms.now) (into_iter_items at.froms) (into_iter_items after.froms) (into_iter_items at.tos)
          (into_iter_items after.tos)
          inv below (λ e. w.if-egress-from.false (e ∙ sym c.from.ensures), from)
          (ap into_iter_items w.tos-is ∙ w.next_lane-from.ensures.paired
          ∙ ap (λ l. map new_outlet (into_iter_items l)) (sym w.froms-is))
          w.index-outs-egress-else-egress-from.is
          (w.in_ok-add-2.ensures ∙ ap (λ (o : Outlet). egress_with (get_or at.outs at.egress b) (Some o)) to)
          (ap (λ v. v.items) w.lanes-is ∙ w.in_ok-push-2.ensures.items) w.outs-is
    ]
