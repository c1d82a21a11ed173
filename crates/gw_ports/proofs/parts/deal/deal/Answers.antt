use Rattle.std.proofs.Common.{◌≡◌, ℕ, ◌∙◌, ◌<◌, ◌+◌, ◌∷◌, ◌++◌, [], List, length, map, take, drop, get_or}
use Rattle.std.proofs.Common.{Option, option_map, All, append-nil, sym, ap, subst, arith}
use Rattle.std.proofs.lemmas.List.{length-map, nil_from_length, with_items_is}
use Rattle.std.specs.Vec.Iter.{into_iter_items}
use Rattle.gw_board.specs.Ends.{known_of}
use Rattle.gw_lanes.specs.Ends.{Inlet, new_outlet}
use Rattle.gw_ports.specs.Ends.{Ingress, Egress, HasLanes, lane_at}
use Rattle.gw_ports.specs.Making.{IsNewIngress, IsNewLane, known_at, egress_with}
use Rattle.gw_ports.proofs.Counting.{nothing_placed}
use Rattle.gw_ports.proofs.DealingAll.{DealtAll, as_made, one_more_port, all_dealt}
use Rattle.gw_ports.proofs.parts.deal.deal.Goals as goal

pub deal_from-requires-clause-outs : goal.deal_from-requires-clause-outs
deal_from-requires-clause-outs c =
    subst (λ (o : List Egress). (k : ℕ) (d : Egress) → k < length o → ((get_or o k d).port ≡ k)
    × (length (get_or o k d).lanes ≡ c.loop-watch.port)) (sym c.deref_mut.ensures.value)
    (as_made _ _ _ _ _ _ _ _ _ _ c.loop-watch.invariant)

pub new-requires-clause-empty : goal.new-requires-clause-empty
new-requires-clause-empty c =
    let l = c.args.limits in
    nothing_placed l.lane c.in_ok-lanes.lanes.items (c.in_ok-lanes.ensures.taken l.lane c.loop-watch.invariant.new).0

pub loop-watch-preserved : goal.loop-watch-preserved
loop-watch-preserved c =
    let inv = c.loop-watch.invariant in
    let l = c.args.limits in
    let port = c.loop-watch.port in
    let a = c.new.result in
    let outs = c.loop-watch.port_outs.items in
    let outs' = c.deal_from.new.outs in
    let row = c.in_ok-lanes.lanes.items in
    let value = c.deref_mut.ensures.value in
    let made = c.new.ensures.made in
    let taken = c.in_ok-lanes.ensures.taken l.lane inv.new in
    let lanes : a.lanes ≡ row = ap (λ t. t.lanes) made in
    let size : length outs' ≡ length outs = c.deal_from.ensures.size ∙ ap length value in
    let whole : length row ≡ l.ports = let n = c.in_ok-lanes.ensures.lanes.0 in let k = c.in_ok-lanes.lanes.ok.0 in let v =
    ap length value in let p = inv.outs_size in omega arith in
    let items : take c.loop-watch.port_outs.len (outs' ++ drop (length outs') outs) ≡ outs' =
    with_items_is c.loop-watch.port_outs outs' (size ∙ sym c.loop-watch.port_outs.ok.0) in
    let new : IsNewIngress l.ports l.frames l.lane port a = record {
      number = ap (λ t. t.port) made;
      most = ap (λ t. t.frames) made ∙ c.frames.ensures.frames;
      claims = c.new.ensures.claims;
      ledger = ap (λ t. t.ledger) made;
      lanes = (
        ap length lanes ∙ whole,
        subst (λ (r : List (Option Inlet)). HasLanes port r) (sym lanes) c.in_ok-lanes.ensures.lanes.1,
      );
      empty = subst (λ (r : List (Option Inlet)). All (IsNewLane l.lane) r) (sym lanes) taken.0;
    } in
    let left_over : length (into_iter_items c.deal_from.new.froms) + length outs ≡ length (into_iter_items c.loop-watch.froms)
    + 1 =
    subst (λ (o : List Egress). length (into_iter_items c.deal_from.new.froms) + length o
    ≡ length (into_iter_items c.loop-watch.froms) + 1) value c.in_ok-lanes.ensures.left in
    let dealt : (k : ℕ) (d : Egress) → k < length outs
    → get_or outs' k d ≡ egress_with (get_or outs k d) (option_map new_outlet (lane_at row k)) =
    subst (λ (o : List Egress). (k : ℕ) (d : Egress) → k < length o
    → get_or outs' k d ≡ egress_with (get_or o k d) (option_map new_outlet (lane_at row k))) value
    c.in_ok-lanes.ensures.dealt in
    let rest = map known_of (into_iter_items c.next.new.self) in
    let go = one_more_port _ _ _ _ _ _ _ _ _ _ (known_of c.in-Some.watch) rest a outs'
    (into_iter_items c.deal_from.new.froms) (into_iter_items c.deal_from.new.tos)
    inv (ap (λ l. map known_of l) c.in-Some.ensures.steps.0) (ap (λ t. known_at t) made) new size
    c.in_ok-lanes.ensures.paired taken.1 left_over
    (λ k d below. dealt k d below
    ∙ ap (λ (r : List (Option Inlet)). egress_with (get_or outs k d) (option_map new_outlet (lane_at r k))) (sym lanes)) in
    subst (λ (t : List Ingress). DealtAll l.ports l.frames l.lane (port + 1) (map known_of c.args.watches.items)
    rest t (take c.loop-watch.port_outs.len (outs' ++ drop (length outs') outs))
    (into_iter_items c.deal_from.new.froms) (into_iter_items c.deal_from.new.tos)) (sym c.in_ok-push.ensures.items)
    (subst (λ (o : List Egress). DealtAll l.ports l.frames l.lane (port + 1) (map known_of c.args.watches.items)
    rest (c.loop-watch.port_ins.items ++ a ∷ []) o (into_iter_items c.deal_from.new.froms)
    (into_iter_items c.deal_from.new.tos)) (sym items) go)

pub returns-clause-known : goal.returns-clause-known
returns-clause-known c =
    let known = map known_at c.loop-watch.port_ins.items in
    let rest = into_iter_items c.loop-watch.watch-iterator in
    let e = c.in-None.ensures.steps.0 in
    let k = c.loop-watch.watch-iterator.rest.ok.0 in
    let none : rest ≡ [] = nil_from_length rest (omega arith) in
    sym (append-nil known) ∙ ap (λ l. known ++ map known_of l) (sym none) ∙ c.loop-watch.invariant.known

pub returns-clause-ends : goal.returns-clause-ends
returns-clause-ends c =
    let rest = into_iter_items c.loop-watch.watch-iterator in
    let e = c.in-None.ensures.steps.0 in
    let k = c.loop-watch.watch-iterator.rest.ok.0 in
    let m = length-map rest known_of in
    let none : length (map known_of rest) ≡ 0 = omega arith in
    all_dealt _ _ _ _ _ _ _ _ _ _ c.loop-watch.invariant none
