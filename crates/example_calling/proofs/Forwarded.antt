-- From what the threads did to the report of the gateway.
use Rattle.std.proofs.Common.{◌≡◌, ◌∙◌, inl, inr, ℕ, List, [], ◌∷◌, ◌++◌, length, map, get_or}
use Rattle.std.proofs.Common.{Option, Some, None, IsSome, option_map, Result, Ok, Err, IfOk, sym, ap, subst, refl, arith}
use Rattle.std.specs.List.{All, fold}
use Rattle.std.specs.Option.{option_map_or}
use mathlib.Core.List.{IsPrefix}
use Rattle.j1939_gateway.specs.BoardEnds.{Publishing}
use Rattle.j1939_gateway.specs.BoardRefusals.{Refuses}
use Rattle.j1939_gateway.specs.Lists.{longer}
use Rattle.j1939_gateway.specs.Holders.{HoldsAfter}
use Rattle.j1939_gateway.specs.InLedger.{InLedger}
use Rattle.j1939_gateway.specs.Ledgers.{ledger_with}
use Rattle.j1939_gateway.specs.FrameCopy.{FrameCopy}
use Rattle.j1939_gateway.specs.Outcome.{Outcome}
use Rattle.j1939_gateway.specs.LaneLeft.{LaneLeft}
use Rattle.j1939_gateway.specs.LaneEnds.{Inlet, Outlet, Ring, new_outlet}
use Rattle.j1939_gateway.specs.Batches.{Pair}
use Rattle.j1939_gateway.specs.PortEnds.{Ingress, Egress, EndIn, EndOut, HasLanes, end_in, lane_at, ring_from, ring_to}
use Rattle.j1939_gateway.specs.Making.{IsNewIngress, IsNewLane, lanes_from, new_egress, nothing_counted}
use Rattle.j1939_gateway.specs.Closing.{AreLeft, Closes, lanes_of}
use Rattle.j1939_gateway.specs.PortRuns.{Offers}
use Rattle.j1939_gateway.specs.Reports.{AreJudged, LosesOnFullLanes, copies_to}
use Rattle.j1939_gateway.proofs.Callers.{are_judged, as_many_outcomes, lost_when_full, new_holds, none_placed, outcomes_counted}
use Rattle.j1939_gateway.proofs.Callers.{placed_list, placed_to}
use Rattle.example_calling.specs.declared.fault.Fault.{Fault}
use Rattle.example_calling.specs.declared.fault.Fault.TheVariants.{Record, Listing, Program, Table, OutOfMemory, NotMade}
use Rattle.example_calling.specs.declared.fault.Fault.TheVariants.{NotPublished, NotTaken, NotClosed, NoThread, WriteFailed}
use Rattle.example_calling.specs.declared.threads.Ends.{Ends}
use Rattle.example_calling.specs.declared.threads.Forwarded.{Forwarded}
use Rattle.example_calling.specs.declared.threads.Idle.{Idle}
use Rattle.example_calling.specs.Threads.{two_ports, AreApart, AreLanes, CanStart, HaveRun, IsClosingFault}
use Rattle.example_calling.specs.Threads.{IsForwarded, IsForwardingFault, IsOpen, IsOpenFault, IsRunFault, RefusesNextOf}

-- the lanes of each of two ports

some_of : {A : Type 0} (lane : Option A) → IsSome lane → (x : A) × (lane ≡ Some x)
some_of None none = absurd (cc none)
some_of (Some x) some = (x, refl)

lanes_of_port_0 : {A : Type 0} (lanes : List (Option A)) → length lanes ≡ 2 → HasLanes 0 lanes
    → (x : A) × (lanes ≡ None ∷ Some x ∷ [])
lanes_of_port_0 [] two has = absurd (omega arith)
lanes_of_port_0 (a ∷ []) two has = absurd (omega arith)
lanes_of_port_0 {A} (a ∷ b ∷ []) two has =
    let other = some_of b (has.others 1 (omega arith) (λ e. omega arith)) in
    (other.0, ap (λ (o : Option A). o ∷ b ∷ []) has.none ∙ ap (λ (o : Option A). None ∷ o ∷ []) other.1)
lanes_of_port_0 (a ∷ b ∷ c ∷ lanes) two has = absurd (omega arith)

lanes_of_port_1 : {A : Type 0} (lanes : List (Option A)) → length lanes ≡ 2 → HasLanes 1 lanes
    → (x : A) × (lanes ≡ Some x ∷ None ∷ [])
lanes_of_port_1 [] two has = absurd (omega arith)
lanes_of_port_1 (a ∷ []) two has = absurd (omega arith)
lanes_of_port_1 {A} (a ∷ b ∷ []) two has =
    let other = some_of a (has.others 0 (omega arith) (λ e. omega arith)) in
    (other.0, ap (λ (o : Option A). o ∷ b ∷ []) other.1 ∙ ap (λ (o : Option A). Some other.0 ∷ o ∷ []) has.none)
lanes_of_port_1 (a ∷ b ∷ c ∷ lanes) two has = absurd (omega arith)

-- the same, by their rings

inlet_by_ring : (lanes : List (Option Inlet)) (ring : Ring) → map ring_to lanes ≡ None ∷ Some ring ∷ []
    → (x : Inlet) × (lanes ≡ None ∷ Some x ∷ [])
inlet_by_ring [] ring is = absurd (cc is)
inlet_by_ring (Some x ∷ lanes) ring is = absurd (cc is)
inlet_by_ring (None ∷ []) ring is = absurd (cc is)
inlet_by_ring (None ∷ None ∷ lanes) ring is = absurd (cc is)
inlet_by_ring (None ∷ Some x ∷ []) ring is = (x, refl)
inlet_by_ring (None ∷ Some x ∷ y ∷ lanes) ring is = absurd (cc is)

outlet_by_ring : (lanes : List (Option Outlet)) (ring : Ring) → map ring_from lanes ≡ Some ring ∷ None ∷ []
    → (x : Outlet) × (lanes ≡ Some x ∷ None ∷ [])
outlet_by_ring [] ring is = absurd (cc is)
outlet_by_ring (None ∷ lanes) ring is = absurd (cc is)
outlet_by_ring (Some x ∷ []) ring is = absurd (cc is)
outlet_by_ring (Some x ∷ Some y ∷ lanes) ring is = absurd (cc is)
outlet_by_ring (Some x ∷ None ∷ []) ring is = (x, refl)
outlet_by_ring (Some x ∷ None ∷ y ∷ lanes) ring is = absurd (cc is)

-- what is left of the two lanes

none_left : (taken left : List FrameCopy) → taken ++ left ≡ [] → left ≡ []
none_left [] left is = is
none_left (copy ∷ taken) left is = absurd (cc is)

abbrev taken_first : List (Option Outlet) → List FrameCopy
taken_first l = option_map_or (λ (o : Outlet). o.taken) (lane_at l 0) []

abbrev inlets_of : Inlet → Inlet → List (List (Option Inlet))
inlets_of x y = (None ∷ Some x ∷ []) ∷ (Some y ∷ None ∷ []) ∷ []

abbrev outlets_of : Outlet → Outlet → List (List (Option Outlet))
outlets_of u v = (None ∷ Some v ∷ []) ∷ (Some u ∷ None ∷ []) ∷ []

left_are : (x y : Inlet) (u v : Outlet) (lefts : List LaneLeft) → AreLeft (lanes_of 0 (inlets_of x y) (outlets_of u v)) lefts
    → y.placed ≡ [] → AreLanes x.placed u.taken lefts
left_are x y u v [] are none = absurd are
left_are x y u v (there ∷ []) are none = absurd are.1
left_are x y u v (there ∷ back ∷ []) are none = (
  are.0.ingress,
  are.0.egress,
  are.0.copies,
  are.1.0.ingress,
  are.1.0.egress,
  none_left v.taken back.left.items (are.1.0.copies ∙ none),
)
left_are x y u v (there ∷ back ∷ more ∷ lefts) are none = absurd are.1.1

-- refusals

pub open_refused : (first second : List Pair) (frames : List (List ℕ)) (fault : Fault) → IsOpenFault first fault
    → IsForwardingFault first second frames fault
open_refused first second frames (Record why) refuses = absurd refuses
open_refused first second frames (Listing why) refuses = absurd refuses
open_refused first second frames (Program why place) refuses = absurd refuses
open_refused first second frames (Table why) refuses = absurd refuses
open_refused first second frames OutOfMemory refuses = absurd refuses
open_refused first second frames (NotMade why) refuses = tt
open_refused first second frames (NotPublished why) refuses = (refuses.0, refuses.1, inl refuses.2)
open_refused first second frames (NotTaken why) refuses = absurd refuses
open_refused first second frames (NotClosed why) refuses = absurd refuses
open_refused first second frames NoThread refuses = absurd refuses
open_refused first second frames WriteFailed refuses = absurd refuses

pub closing_refused : (first second : List Pair) (frames : List (List ℕ)) (fault : Fault) → IsClosingFault fault
    → IsForwardingFault first second frames fault
closing_refused first second frames (Record why) refuses = absurd refuses
closing_refused first second frames (Listing why) refuses = absurd refuses
closing_refused first second frames (Program why place) refuses = absurd refuses
closing_refused first second frames (Table why) refuses = absurd refuses
closing_refused first second frames OutOfMemory refuses = tt
closing_refused first second frames (NotMade why) refuses = absurd refuses
closing_refused first second frames (NotPublished why) refuses = absurd refuses
closing_refused first second frames (NotTaken why) refuses = absurd refuses
closing_refused first second frames (NotClosed why) refuses = tt
closing_refused first second frames NoThread refuses = absurd refuses
closing_refused first second frames WriteFailed refuses = absurd refuses

module _ (first second : List Pair) (frames : List (List ℕ)) (operator : Publishing) (ins : List Ingress)
    (outs : List Egress) (ends : Ends) (idle : Idle) (opened : IsOpen (first ∷ []) operator ins outs)
    (apart : AreApart operator ins outs frames ends idle) where
  -- the ports before they run

  new_at_0 : IsNewIngress 2 8 4 0 apart.untold
  new_at_0 =
      subst (λ (l : List Ingress). IsNewIngress 2 8 4 0 (get_or l 0 apart.untold)) apart.ins_are
      (opened.ends.ingress 0 apart.untold (let n = opened.ends.enough_ins in omega arith))

  new_at_1 : IsNewIngress 2 8 4 1 idle.port_in
  new_at_1 =
      subst (λ (l : List Ingress). IsNewIngress 2 8 4 1 (get_or l 1 idle.port_in)) apart.ins_are
      (opened.ends.ingress 1 idle.port_in (let n = opened.ends.enough_ins in omega arith))

  knows_nothing : apart.untold.known ≡ []
  knows_nothing =
      subst (λ (l : List Ingress). (get_or l 0 apart.untold).known ≡ []) apart.ins_are
      (opened.known 0 apart.untold (let n = opened.ends.enough_ins in omega arith)).1

  told_is : ends.feed.port ≡ record apart.untold { known = first ∷ [] }
  told_is =
      apart.told
      ∙ ap (λ (l : List (List Pair)). record apart.untold { known = longer l operator.published }) knows_nothing
      ∙ ap (λ (o : Publishing). record apart.untold { known = longer [] o.published }) opened.published

  pub can_start : CanStart ends
  can_start = (
    record {
      ready = (
        subst (λ (i : Ingress). HoldsAfter i.claims []) (sym told_is) new_at_0.claims,
        ap (λ (i : Ingress). i.ledger) told_is ∙ new_at_0.ledger,
      );
      none_yet = apart.none_yet.0;
      room = apart.room;
    },
    apart.none_yet.1,
  )

  pub run_refused : (fault : Fault) → IsRunFault ends.operator ends.feed second fault
      → IsForwardingFault first second frames fault
  run_refused (Record why) refuses = absurd refuses
  run_refused (Listing why) refuses = absurd refuses
  run_refused (Program why place) refuses = absurd refuses
  run_refused (Table why) refuses = absurd refuses
  run_refused OutOfMemory refuses = absurd refuses
  run_refused (NotMade why) refuses = absurd refuses
  run_refused (NotPublished why) refuses = (
    operator.board,
    refuses.0,
    inr (subst (λ (o : Publishing). Refuses o second why refuses.0) (apart.operator_is ∙ opened.published) refuses.1),
  )
  run_refused (NotTaken why) refuses =
      subst (λ n. RefusesNextOf (length frames) n why) (ap (λ (i : Ingress). i.frames) told_is ∙ new_at_0.most)
      (subst (λ (l : List (List ℕ)). RefusesNextOf (length l) ends.feed.port.frames why) apart.frames_are refuses)
  run_refused (NotClosed why) refuses = absurd refuses
  run_refused NoThread refuses = tt
  run_refused WriteFailed refuses = absurd refuses

  module _ (after : Ends) (ran : HaveRun ends second after) where
    both : after.operator.published ≡ first ∷ second ∷ []
    both =
        ap (λ (o : Publishing). o.published) ran.met.published
        ∙ ap (λ (o : Publishing). o.published ++ second ∷ []) (apart.operator_is ∙ opened.published)

    offers : Offers [] ends.feed.port frames after.feed.outcomes.items after.feed.port
    offers =
        subst (λ (l : List (List ℕ)). Offers [] ends.feed.port l after.feed.outcomes.items after.feed.port)
        apart.frames_are ran.met.offered.offers

    own : ends.feed.port.port ≡ 0
    own = ap (λ (i : Ingress). i.port) told_is ∙ new_at_0.number

    empty : All (IsNewLane 4) ends.feed.port.lanes
    empty =
        subst (λ (l : List (Option Inlet)). All (IsNewLane 4) l) (sym (ap (λ (i : Ingress). i.lanes) told_is)) new_at_0.empty

    lost : LosesOnFullLanes two_ports.lane after.feed.outcomes.items
    lost = λ k egress d below loses.
        let least =
        lost_when_full 4 egress 0 [] ends.feed.port frames after.feed.outcomes.items after.feed.port offers
        (new_holds 4 ends.feed.port.lanes empty egress) k d below loses in
        omega arith

    -- the lanes after they ran

    out_at_0 : idle.port_out ≡ new_egress 0 (lanes_from 0 (apart.untold ∷ idle.port_in ∷ []))
    out_at_0 =
        subst (λ (l : List Egress). get_or l 0 idle.port_out ≡ new_egress 0 (lanes_from 0 ins)) apart.outs_are
        (opened.ends.egress 0 idle.port_out (let n = opened.ends.enough_outs in omega arith))
        ∙ ap (λ (l : List Ingress). new_egress 0 (lanes_from 0 l)) apart.ins_are

    out_at_1 : ends.drain.port ≡ new_egress 1 (lanes_from 1 (apart.untold ∷ idle.port_in ∷ []))
    out_at_1 =
        subst (λ (l : List Egress). get_or l 1 ends.drain.port ≡ new_egress 1 (lanes_from 1 ins)) apart.outs_are
        (opened.ends.egress 1 ends.drain.port (let n = opened.ends.enough_outs in omega arith))
        ∙ ap (λ (l : List Ingress). new_egress 1 (lanes_from 1 l)) apart.ins_are

    lanes_0 : (x : Inlet) × (apart.untold.lanes ≡ None ∷ Some x ∷ [])
    lanes_0 = lanes_of_port_0 apart.untold.lanes new_at_0.lanes.0 new_at_0.lanes.1

    lanes_1 : (y : Inlet) × (idle.port_in.lanes ≡ Some y ∷ None ∷ [])
    lanes_1 = lanes_of_port_1 idle.port_in.lanes new_at_1.lanes.0 new_at_1.lanes.1

    inlet : (x : Inlet) × (after.feed.port.lanes ≡ None ∷ Some x ∷ [])
    inlet =
        inlet_by_ring after.feed.port.lanes lanes_0.0.ring
        (ap (λ (e : EndIn). e.rings) (ran.met.offered.same ∙ ap end_in apart.told) ∙ ap (map ring_to) lanes_0.1)

    unused : idle.port_out.lanes ≡ None ∷ Some (new_outlet lanes_1.0) ∷ []
    unused =
        ap (λ (e : Egress). e.lanes) out_at_0
        ∙ ap (λ (l : List (Option Inlet)). option_map new_outlet (lane_at l 0)
        ∷ option_map new_outlet (lane_at idle.port_in.lanes 0) ∷ []) lanes_0.1
        ∙ ap (λ (l : List (Option Inlet)). None ∷ option_map new_outlet (lane_at l 0) ∷ []) lanes_1.1

    before : ends.drain.port.lanes ≡ Some (new_outlet lanes_0.0) ∷ None ∷ []
    before =
        ap (λ (e : Egress). e.lanes) out_at_1
        ∙ ap (λ (l : List (Option Inlet)). option_map new_outlet (lane_at l 1)
        ∷ option_map new_outlet (lane_at idle.port_in.lanes 1) ∷ []) lanes_0.1
        ∙ ap (λ (l : List (Option Inlet)). Some (new_outlet lanes_0.0) ∷ option_map new_outlet (lane_at l 1) ∷ []) lanes_1.1

    outlet : (u : Outlet) × (after.drain.port.lanes ≡ Some u ∷ None ∷ [])
    outlet =
        outlet_by_ring after.drain.port.lanes lanes_0.0.ring
        (ap (λ (e : EndOut). e.rings) ran.sent.same ∙ ap (map ring_from) before)

    placed : inlet.0.placed ≡ copies_to 0 1 frames after.feed.outcomes.items
    placed =
        sym (ap (λ (l : List (Option Inlet)). placed_list (lane_at l 1)) inlet.1)
        ∙ placed_to 1 [] ends.feed.port frames after.feed.outcomes.items after.feed.port offers
        ∙ ap (λ (l : List FrameCopy). l ++ copies_to ends.feed.port.port 1 frames after.feed.outcomes.items)
        (none_placed 4 ends.feed.port.lanes empty 1)
        ∙ ap (λ n. copies_to n 1 frames after.feed.outcomes.items) own

    taken : outlet.0.taken ≡ after.drain.copies.items
    taken =
        sym (ap taken_first outlet.1) ∙ ran.sent.sent
        ∙ ap (λ (l : List (Option Outlet)). taken_first l ++ after.drain.copies.items) before

    not_placed : lanes_1.0.placed ≡ []
    not_placed =
        sym (ap (λ (l : List (Option Inlet)). placed_list (lane_at l 0)) lanes_1.1)
        ∙ none_placed 4 idle.port_in.lanes new_at_1.empty 0

    pub forwarded_are : (forwarded : Forwarded)
        → Closes after.operator (after.feed.port ∷ idle.port_in ∷ []) (idle.port_out ∷ after.drain.port ∷ []) forwarded.report
        → forwarded.outcomes.items ≡ after.feed.outcomes.items → forwarded.copies.items ≡ after.drain.copies.items
        → IsForwarded first second frames forwarded
    forwarded_are forwarded closed same_outcomes same_copies =
        let many = as_many_outcomes [] ends.feed.port frames after.feed.outcomes.items after.feed.port offers in
        let begins : IsPrefix after.feed.port.known (first ∷ second ∷ []) =
        subst (λ (l : List (List Pair)). IsPrefix after.feed.port.known l) both
        (closed.known 0 after.feed.port (omega arith)) in
        let knows = ap (λ (i : Ingress). length i.known) told_is in
        let judged =
        are_judged 2 0 (first ∷ second ∷ []) ends.feed.port frames after.feed.outcomes.items after.feed.port
        (record {
          own = own;
          lanes = ap (λ (i : Ingress). length i.lanes) told_is ∙ new_at_0.lanes.0;
          number = ap (λ (i : Ingress). i.ledger.taken) told_is ∙ ap (λ (l : InLedger). l.taken) new_at_0.ledger;
          knows = omega arith;
        })
        offers begins in
        let left =
        left_are inlet.0 lanes_1.0 outlet.0 (new_outlet lanes_1.0) forwarded.report.lanes.items
        (subst (λ (l : List (Option Outlet)).
        AreLeft (lanes_of 0 (inlets_of inlet.0 lanes_1.0) ((None ∷ Some (new_outlet lanes_1.0) ∷ []) ∷ l ∷ []))
        forwarded.report.lanes.items) outlet.1
        (subst (λ (l : List (Option Outlet)).
        AreLeft (lanes_of 0 (inlets_of inlet.0 lanes_1.0) (l ∷ after.drain.port.lanes ∷ []))
        forwarded.report.lanes.items) unused
        (subst (λ (l : List (Option Inlet)).
        AreLeft (lanes_of 0 ((None ∷ Some inlet.0 ∷ []) ∷ l ∷ []) (idle.port_out.lanes ∷ after.drain.port.lanes ∷ []))
        forwarded.report.lanes.items) lanes_1.1
        (subst (λ (l : List (Option Inlet)).
        AreLeft (lanes_of 0 (l ∷ idle.port_in.lanes ∷ []) (idle.port_out.lanes ∷ after.drain.port.lanes ∷ []))
        forwarded.report.lanes.items) inlet.1 closed.left)))) not_placed in
        let counted =
        outcomes_counted [] ends.feed.port frames after.feed.outcomes.items after.feed.port offers in
        record {
          whole = ap length same_outcomes ∙ many;
          judged =
              subst (λ (os : List Outcome). AreJudged 2 0 (first ∷ second ∷ []) frames os) (sym same_outcomes) judged;
          lost = subst (λ (os : List Outcome). LosesOnFullLanes two_ports.lane os) (sym same_outcomes) lost;
          counted =
              closed.taken
              ∙ ap (λ (l : InLedger). l ∷ idle.port_in.ledger ∷ []) (counted
              ∙ ap (λ (l : InLedger). fold ledger_with l after.feed.outcomes.items)
              (ap (λ (i : Ingress). i.ledger) told_is ∙ new_at_0.ledger)
              ∙ ap (λ (os : List Outcome). fold ledger_with nothing_counted os) (sym same_outcomes))
              ∙ ap (λ (l : InLedger). fold ledger_with nothing_counted forwarded.outcomes.items ∷ l ∷ []) new_at_1.ledger;
          lanes =
              subst (λ (os : List Outcome).
              AreLanes (copies_to 0 1 frames os) forwarded.copies.items forwarded.report.lanes.items) (sym same_outcomes)
              (subst (λ (c : List FrameCopy).
              AreLanes (copies_to 0 1 frames after.feed.outcomes.items) c forwarded.report.lanes.items)
              (taken ∙ sym same_copies)
              (subst (λ (p : List FrameCopy). AreLanes p outlet.0.taken forwarded.report.lanes.items) placed left));
          published = closed.front_is ∙ ap length both;
          balances = closed.balances;
        }

    pub forwarded_if : (closed : Result Forwarded Fault)
        → IfOk closed (λ f. Closes after.operator (after.feed.port ∷ idle.port_in ∷ [])
        (idle.port_out ∷ after.drain.port ∷ []) f.report)
        → IfOk closed (λ f. f.outcomes.items ≡ after.feed.outcomes.items)
        → IfOk closed (λ f. f.copies.items ≡ after.drain.copies.items)
        → IfOk closed (IsForwarded first second frames)
    forwarded_if (Ok forwarded) closed outcomes copies = forwarded_are forwarded closed outcomes copies
    forwarded_if (Err fault) closed outcomes copies = tt
