use Rattle.std.proofs.Common.{◌≡◌, ◌++◌, ◌<◌, List, Option, length, map, take, drop, arith, sym, subst, ap, ◌∙◌}
use Rattle.std.proofs.lemmas.List.{length-set, with_items_is}
use Rattle.gw_ledger.specs.declared.ledger.OutLedger.{OutLedger}
use Rattle.gw_lanes.specs.Ends.{Outlet, Ring}
use Rattle.gw_ports.specs.Ends.{EndOut, HasLanes, CountsSent, end_out, lane_at, ring_from}
use Rattle.gw_ports.specs.Sending.{PopsFrom, sent_with}
use Rattle.gw_ports.proofs.Placing.{pops_keep_lanes}
use Rattle.gw_ports.proofs.Counting.{one_more_sent}
use Rattle.gw_ports.proofs.OneGateway.{rings_stay_below}
use Rattle.gw_ports.proofs.port_out.PortOut.next_from.Goals as goal

-- The copy left the lane of the ingress port that was asked for, and is counted there.
pub invariant_of-self-2 : goal.invariant_of-self-2
invariant_of-self-2 c =
    let inside = c.self.inside in
    let old = inside.lanes.items in
    let new = c.dequeue.new.lanes in
    let copy = c.in_ok-copy.copy in
    let port = c.args.ingress in
    let pops : PopsFrom port old copy new =
    subst (λ n. PopsFrom n old copy new) c.from.ensures
    (subst (λ (l : List (Option Outlet)). PopsFrom c.from.result l copy new) c.deref_mut.ensures.value c.in_ok-copy.ensures) in
    let size : length new ≡ length old = ap length pops.others ∙ length-set old port (lane_at new port) in
    let items : take inside.lanes.len (new ++ drop (length new) old) ≡ new =
    with_items_is inside.lanes new (size ∙ sym inside.lanes.ok.0) in
    let below : port < 16 = let most = c.self.invariant.0.most in let there = pops.there in omega arith in
    let ledger : c.add_sent.new.self ≡ sent_with inside.ledger port =
    let sent = c.add_sent.ensures in λ i. record { sent = sent i } in (
      subst (λ (l : List (Option Outlet)). HasLanes inside.port l) (sym items)
          (pops_keep_lanes inside.port port copy old new pops c.self.invariant.0),
      subst (λ (l : List (Option Outlet)). CountsSent c.add_sent.new.self l) (sym items)
          (subst (λ (l : OutLedger). CountsSent l new) (sym ledger)
          (one_more_sent inside.ledger old new port copy c.self.invariant.1 pops below)),
      c.self.invariant.2,
    )

-- Taking leaves each lane its ring.
pub returns-clause-end : goal.returns-clause-end
returns-clause-end c =
    let inside = c.self.inside in
    let old = inside.lanes.items in
    let new = c.dequeue.new.lanes in
    let copy = c.in_ok-copy.copy in
    let pops : PopsFrom c.from.result old copy new =
    subst (λ (l : List (Option Outlet)). PopsFrom c.from.result l copy new) c.deref_mut.ensures.value c.in_ok-copy.ensures in
    let size : length new ≡ length old = ap length pops.others ∙ length-set old c.from.result (lane_at new c.from.result) in
    let items : take inside.lanes.len (new ++ drop (length new) old) ≡ new =
    with_items_is inside.lanes new (size ∙ sym inside.lanes.ok.0) in
    let rings = ap (λ (l : List (Option Outlet)). map ring_from l) items ∙ rings_stay_below _ _ old new pops in
    let P : List (Option Ring) → EndOut = λ r. record { port = inside.port; rings = r } in
    ap P rings ∙ ap end_out c.self.view_is
