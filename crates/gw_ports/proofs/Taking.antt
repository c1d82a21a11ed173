-- Copies that leave at a port, many at once.
use Rattle.std.proofs.Common.{◌≡◌, ◌∙◌, ℕ, zero, suc, ◌<◌, List, [], ◌∷◌, ◌++◌, length, map}
use Rattle.std.proofs.Common.{slice_set, Option, Some, None, IsSome, append-nil, append_assoc, ap, arith, refl, subst, sym}
use Rattle.std.proofs.lemmas.Bool.{false≢true}
use Rattle.std.proofs.lemmas.List.{get_or-set_same, length-set, set-get_or, set-set}
use Rattle.gw_ledger.specs.declared.ledger.OutLedger.{OutLedger}
use Rattle.gw_ledger.specs.declared.outcome.FrameCopy.{FrameCopy}
use Rattle.gw_lanes.specs.Ends.{Outlet, Ring}
use Rattle.gw_ports.specs.Ends.{CountsSent, Egress, EndOut, HasLanes, end_out, lane_at, ring_from}
use Rattle.gw_ports.specs.Sending.{Takes, sent_many, sent_with, taken_off}
use Rattle.gw_ports.specs.Running.{HasDrained, AllHaveDrained, drains_of}
use Rattle.gw_ports.specs.declared.running.drain.Drain.{Drain}
use Rattle.gw_ports.specs.declared.running.drain.Drains.{Drains}
use Rattle.gw_ports.proofs.Counting.{one_more_sent}
use Rattle.gw_ports.proofs.OneGateway.{rings_stay_below}
use Rattle.gw_ports.proofs.Placing.{pops_keep_lanes}
use Rattle.gw_ports.proofs.Runs.{pairwise_on, pairwise_same}
use Rattle.gw_ports.proofs.Sinks.{handed_on}

-- ---- what is counted

sent_first : (ledger : OutLedger) (ingress copies : ℕ)
    → sent_many (sent_with ledger ingress) ingress copies ≡ sent_many ledger ingress (suc copies)
sent_first ledger ingress zero = refl
sent_first ledger ingress (suc copies) = ap (λ l. sent_with l ingress) (sent_first ledger ingress copies)

-- ---- one after another

-- the port once copies were taken from a lane, and counted
abbrev pub after : Egress → ℕ → List FrameCopy → Egress
after old ingress copies = record {
  port = old.port;
  lanes = slice_set old.lanes ingress (taken_off (lane_at old.lanes ingress) copies);
  ledger = sent_many old.ledger ingress (length copies);
}

-- the port with other lanes and another ledger
abbrev pub end_with : Egress → List (Option Outlet) → OutLedger → Egress
end_with old lanes ledger = record { port = old.port; lanes = lanes; ledger = ledger }

taken_first : (copies : List FrameCopy) (old : Egress) (ingress : ℕ) (lane : Outlet) → ingress < length old.lanes
    → lane_at old.lanes ingress ≡ Some lane
    → Takes old copies
    (end_with old (slice_set old.lanes ingress (Some (record lane { taken = lane.taken ++ copies })))
    (sent_many old.ledger ingress (length copies)))
taken_first [] old ingress lane inside is =
    ap (λ lanes. end_with old lanes old.ledger)
    (ap (λ (l : List FrameCopy). slice_set old.lanes ingress (Some (record lane { taken = l }))) (append-nil lane.taken)
    ∙ ap (λ (l : Option Outlet). slice_set old.lanes ingress l) (sym is) ∙ set-get_or old.lanes ingress None)
taken_first (copy ∷ copies) old ingress lane inside is =
    let next_lane : Outlet = record lane { taken = lane.taken ++ copy ∷ [] } in
    let next_lanes : List (Option Outlet) = slice_set old.lanes ingress (Some next_lane) in
    let next : Egress = end_with old next_lanes (sent_with old.ledger ingress) in
    let there : lane_at next_lanes ingress ≡ Some next_lane = get_or-set_same old.lanes ingress (Some next_lane) None inside in (
      ingress,
      next,
      record {
        port = refl;
        lanes = record {
          there = inside;
          lane = record { before = lane; was = is; is = there };
          others = ap (λ (l : Option Outlet). slice_set old.lanes ingress l) (sym there);
        };
        ledger = refl;
      },
      subst (λ (e : Egress). Takes next copies e)
          (ap
          (λ lanes. end_with old lanes (sent_many (sent_with old.ledger ingress) ingress (length copies)))
          (set-set old.lanes ingress (Some next_lane) (Some (record lane { taken = (lane.taken ++ copy ∷ []) ++ copies }))
          ∙ ap (λ (l : List FrameCopy). slice_set old.lanes ingress (Some (record lane { taken = l })))
          (append_assoc lane.taken (copy ∷ []) copies))
          ∙ ap (end_with old (slice_set old.lanes ingress (Some (record lane { taken = lane.taken ++ copy ∷ copies }))))
          (sent_first old.ledger ingress (length copies)))
          (taken_first copies next ingress next_lane
          (subst (λ n. ingress < n) (sym (length-set old.lanes ingress (Some next_lane))) inside)
          there),
    )

-- copies that were taken from a lane at once left one after another
pub takes_many : (copies : List FrameCopy) (old : Egress) (ingress : ℕ)
    → (0 < length copies → (ingress < length old.lanes) × IsSome (lane_at old.lanes ingress))
    → Takes old copies (after old ingress copies)
takes_many [] old ingress there =
    ap (λ lanes. end_with old lanes old.ledger) (unchanged (lane_at old.lanes ingress) refl)
  where
    unchanged : (lane : Option Outlet) → lane_at old.lanes ingress ≡ lane
        → slice_set old.lanes ingress (taken_off lane []) ≡ old.lanes
    unchanged None is = ap (λ (l : Option Outlet). slice_set old.lanes ingress l) (sym is) ∙ set-get_or old.lanes ingress None
    unchanged (Some lane) is =
        ap (λ (l : List FrameCopy). slice_set old.lanes ingress (Some (record lane { taken = l }))) (append-nil lane.taken)
        ∙ ap (λ (l : Option Outlet). slice_set old.lanes ingress l) (sym is) ∙ set-get_or old.lanes ingress None
takes_many (copy ∷ copies) old ingress there =
    by (lane_at old.lanes ingress) refl (there (omega arith)).1
  where
    by : (lane : Option Outlet) → lane_at old.lanes ingress ≡ lane → IsSome lane
        → Takes old (copy ∷ copies)
        (end_with old (slice_set old.lanes ingress (taken_off lane (copy ∷ copies)))
        (sent_many old.ledger ingress (length (copy ∷ copies))))
    by None is some = absurd (false≢true some)
    by (Some lane) is some = taken_first (copy ∷ copies) old ingress lane (there (omega arith)).0 is

-- ---- what stays

pub takes_keep : (copies : List FrameCopy) (old new : Egress) → Takes old copies new → HasLanes old.port old.lanes
    → CountsSent old.ledger old.lanes
    → HasLanes new.port new.lanes × CountsSent new.ledger new.lanes × (end_out new ≡ end_out old)
takes_keep [] old new same lanes counts = (
  subst (λ (e : Egress). HasLanes e.port e.lanes) (sym same) lanes,
  subst (λ (e : Egress). CountsSent e.ledger e.lanes) (sym same) counts,
  ap end_out same,
)
takes_keep (copy ∷ copies) old new takes lanes counts =
    let ingress = takes.0 in
    let next = takes.1 in
    let sends = takes.2 in
    let below : ingress < 16 = omega (arith, lanes.most, sends.lanes.there) in
    let P : List (Option Ring) → EndOut = λ rings. record { port = old.port; rings = rings } in
    let later =
    takes_keep copies next new takes.3
    (subst (λ own. HasLanes own next.lanes) (sym sends.port)
    (pops_keep_lanes old.port ingress copy old.lanes next.lanes sends.lanes lanes))
    (subst (λ l. CountsSent l next.lanes) (sym sends.ledger)
    (one_more_sent old.ledger old.lanes next.lanes ingress copy counts sends.lanes below)) in (
      later.0,
      later.1,
      later.2
          ∙ ap (λ port. record { port = port; rings = map ring_from next.lanes }) sends.port
          ∙ ap P (rings_stay_below _ _ old.lanes next.lanes sends.lanes),
    )

-- ---- one list behind another

pub takes_on : (copies more : List FrameCopy) (old now new : Egress) → Takes old copies now → Takes now more new
    → Takes old (copies ++ more) new
takes_on [] more old now new same takes = subst (λ (e : Egress). Takes e more new) same takes
takes_on (copy ∷ copies) more old now new first takes =
    (first.0, first.1, first.2, takes_on copies more first.1 now new first.3 takes)

-- more copies left, and were handed out
pub drained_on : {C : Type 0} (takes : C → FrameCopy → C → Type 0) (before now new : Drain C) → HasDrained takes before now
    → HasDrained takes now new → HasDrained takes before new
drained_on takes before now new first next = record {
  copies = first.copies ++ next.copies;
  took = record {
    takes = takes_on first.copies next.copies before.port now.port new.port first.took.takes next.took.takes;
    same = next.took.same ∙ first.took.same;
  };
  handed = handed_on takes before.out first.copies next.copies now.out new.out first.handed next.handed;
}

-- no copy did
pub drained_nothing : {C : Type 0} (takes : C → FrameCopy → C → Type 0) (drain : Drain C) → HasDrained takes drain drain
drained_nothing takes drain = record { copies = []; took = record { takes = refl; same = refl }; handed = refl }

-- the same of the ports of a thread
pub drains_on : {C : Type 0} (takes : C → FrameCopy → C → Type 0) (before now new : Drains C) → AllHaveDrained takes before now
    → AllHaveDrained takes now new → AllHaveDrained takes before new
drains_on takes before now new =
    pairwise_on (HasDrained takes) (drained_on takes) (drains_of before) (drains_of now) (drains_of new)

pub drains_same : {C : Type 0} (takes : C → FrameCopy → C → Type 0) (drains : Drains C) → AllHaveDrained takes drains drains
drains_same takes drains = pairwise_same (HasDrained takes) (drained_nothing takes) (drains_of drains)
