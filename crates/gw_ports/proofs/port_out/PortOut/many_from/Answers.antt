use Rattle.std.proofs.Common.{◌≡◌, ◌++◌, ◌<◌, List, Option, length, take, drop, slice_set, IsSome, arith, sym, subst, ap, ◌∙◌}
use Rattle.std.proofs.lemmas.List.{length-set, length-take-le, with_items_is}
use Rattle.gw_ledger.specs.declared.ledger.OutLedger.{OutLedger}
use Rattle.gw_ledger.specs.declared.outcome.FrameCopy.{FrameCopy}
use Rattle.gw_lanes.specs.Ends.{Outlet}
use Rattle.gw_ports.specs.Ends.{CountsSent, Egress, HasLanes, end_out, lane_at}
use Rattle.gw_ports.specs.Sending.{Takes, sent_many, taken_off}
use Rattle.gw_ports.proofs.Taking.{after, takes_keep, takes_many, end_with}
use Rattle.gw_ports.proofs.port_out.PortOut.many_from.Goals.{After-add_sent}
use Rattle.gw_ports.proofs.port_out.PortOut.many_from.Goals as goal

module _ (c : After-add_sent) where
  abbrev before : Egress
  before = record { port = c.self.inside.port; lanes = c.self.inside.lanes.items; ledger = c.self.inside.ledger }

  abbrev copies : List FrameCopy
  copies = take c.dequeue_many-count.result c.dequeue_many-count.new.copies

  many : length copies ≡ c.dequeue_many-count.result
  many = length-take-le c.dequeue_many-count.result c.dequeue_many-count.new.copies c.dequeue_many-count.ensures.fits.0

  lanes : c.dequeue_many-count.new.lanes
      ≡ slice_set before.lanes c.args.ingress (taken_off (lane_at before.lanes c.args.ingress) copies)
  lanes =
      c.dequeue_many-count.ensures.taken
      ∙ ap (λ (l : List (Option Outlet)). slice_set l c.from.result (taken_off (lane_at l c.from.result) copies))
      c.deref_mut.ensures.value
      ∙ ap (λ n. slice_set before.lanes n (taken_off (lane_at before.lanes n) copies)) c.from.ensures

  -- what is written back is the list of the lanes
  items : take c.self.inside.lanes.len
      (c.dequeue_many-count.new.lanes ++ drop (length c.dequeue_many-count.new.lanes) before.lanes)
      ≡ (after before c.args.ingress copies).lanes
  items =
      with_items_is c.self.inside.lanes c.dequeue_many-count.new.lanes
      (ap length lanes ∙ length-set before.lanes c.args.ingress _ ∙ sym c.self.inside.lanes.ok.0) ∙ lanes

  ledger : c.add_sent.new.ledger ≡ (after before c.args.ingress copies).ledger
  ledger = c.add_sent.ensures ∙ ap (sent_many before.ledger c.args.ingress) (sym many)

  takes : Takes before copies (after before c.args.ingress copies)
  takes = takes_many copies before c.args.ingress
      (λ some.
      subst (λ n. (n < length before.lanes) × IsSome (lane_at before.lanes n)) c.from.ensures
      (subst (λ (l : List (Option Outlet)). (c.from.result < length l) × IsSome (lane_at l c.from.result))
      c.deref_mut.ensures.value
      (c.dequeue_many-count.ensures.there (omega (arith, many, some)))))

  kept : HasLanes before.port (after before c.args.ingress copies).lanes
      × CountsSent (after before c.args.ingress copies).ledger (after before c.args.ingress copies).lanes
      × (end_out (after before c.args.ingress copies) ≡ end_out before)
  kept = takes_keep copies before (after before c.args.ingress copies) takes c.self.invariant.0 c.self.invariant.1

  now : end_with before (take c.self.inside.lanes.len
      (c.dequeue_many-count.new.lanes ++ drop (length c.dequeue_many-count.new.lanes) before.lanes)) c.add_sent.new.ledger
      ≡ after before c.args.ingress copies
  now = λ i. end_with before (items i) (ledger i)

pub invariant_of-self : goal.invariant_of-self
invariant_of-self c = (
  subst (λ (l : List (Option Outlet)). HasLanes c.self.inside.port l) (sym (items c)) (kept c).0,
  subst (λ (l : List (Option Outlet)). CountsSent c.add_sent.new.ledger l) (sym (items c))
      (subst (λ (l : OutLedger). CountsSent l (after (before c) c.args.ingress (copies c)).lanes) (sym (ledger c)) (kept c).1),
  c.self.invariant.2,
)

pub returns-clause-end : goal.returns-clause-end
returns-clause-end c = ap end_out (now c) ∙ (kept c).2 ∙ ap end_out c.self.view_is

pub returns-clause-sent : goal.returns-clause-sent
returns-clause-sent c =
    subst (λ (e : Egress). Takes c.args.self.now (copies c) e) (sym (now c))
    (subst (λ (e : Egress). Takes e (copies c) (after (before c) c.args.ingress (copies c))) c.self.view_is (takes c))
