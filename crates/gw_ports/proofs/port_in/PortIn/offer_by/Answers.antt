use Rattle.std.proofs.Common.{◌≡◌, ◌<◌, ◌≤◌, ◌∙◌, ◌++◌, ℕ, false, List, length, map, take, drop}
use Rattle.std.proofs.Common.{reverse, Option}
use Rattle.std.proofs.Common.{IsTrue, IsSome, sym, ap, subst, refl, arith}
use Rattle.std.proofs.lemmas.List.{with_items_is}
use Rattle.gw_policy.specs.Allowed.{allowed_ports}
use Rattle.gw_claims.specs.Claims.{is_local}
use Rattle.gw_claims.specs.Holders.{HoldsAfter}
use Rattle.gw_ledger.specs.Ports.{has_port}
use Rattle.gw_ledger.specs.declared.outcome.FrameCopy.{FrameCopy}
use Rattle.gw_lanes.specs.Ends.{Inlet}
use Rattle.gw_ports.specs.Ends.{Ingress, end_in, lane_at, ring_to, HasLanes, CountsPlaced}
use Rattle.gw_ports.specs.Placing.{PlacesCopies}
use Rattle.gw_ports.specs.Offers.{Offered}
use Rattle.gw_ports.proofs.Judging.{allowed_elsewhere}
use Rattle.gw_ports.proofs.Placing.{keeps_lanes, placed_inside}
use Rattle.gw_ports.proofs.OneGateway.{rings_stay, same_end}
use Rattle.gw_ports.proofs.Summing.{copies_placed}
use Rattle.gw_ports.proofs.port_in.PortIn.offer_by.Goals as goal

-- A port to which the frame is allowed is another port of the gateway, so it has a lane.
pub enqueue-placed-requires-clause-there : goal.enqueue-placed-requires-clause-there
enqueue-placed-requires-clause-there g c = λ port has.
    let inside = c.self.inside in
    let ports = c.len-ports.result in
    let local = c.is_local-local.result in
    let batches = reverse c.judge.new.watch.batches in
    let allowed : c.in-Ok.allowed ≡ allowed_ports ports local batches inside.port c.args.frame = c.in-Ok.ensures.judged.1 in
    let elsewhere =
    allowed_elsewhere ports inside.port local batches c.args.frame port
    (subst (λ (l : List ℕ). IsTrue (has_port port l)) allowed has) in
    let below : port < length inside.lanes.items =
    let size = c.len-ports.ensures in let lt = elsewhere.0 in let ok = inside.lanes.ok.0 in omega arith in
    subst (λ (l : List (Option Inlet)). IsSome (lane_at l port)) (sym c.deref_mut.ensures.value)
    (c.self.invariant.0.others port below elsewhere.1)

-- Placing keeps the lanes, and each copy placed is counted.
pub invariant_of-self-2 : goal.invariant_of-self-2
invariant_of-self-2 g c =
    let inside = c.self.inside in
    let old = inside.lanes.items in
    let new = c.enqueue-placed.new.lanes in
    let placed = c.enqueue-placed.result in
    let copy : FrameCopy = record { from = inside.port; number = inside.ledger.taken; frame = c.args.frame } in
    let done =
    subst (λ (l : List (Option Inlet)). PlacesCopies c.in-Ok.allowed copy placed l new) c.deref_mut.ensures.value
    c.enqueue-placed.ensures.placed in
    let items : take inside.lanes.len (new ++ drop (length new) old) ≡ new =
    with_items_is inside.lanes new (done.size ∙ sym inside.lanes.ok.0) in
    let few : length old ≤ 16 = c.self.invariant.0.most in
    let ports = c.len-ports.result in
    let batches = reverse c.judge.new.watch.batches in
    let allowed : c.in-Ok.allowed ≡ allowed_ports ports c.is_local-local.result batches inside.port c.args.frame =
    c.in-Ok.ensures.judged.1 in
    let inside_only : (port : ℕ) → length old ≤ port → has_port port placed ≡ false =
    placed_inside (length old) c.in-Ok.allowed copy placed old new done
    (λ port has.
    let elsewhere =
    allowed_elsewhere ports inside.port c.is_local-local.result batches c.args.frame port
    (subst (λ (l : List ℕ). IsTrue (has_port port l)) allowed has) in
    let size = c.len-ports.ensures in let lt = elsewhere.0 in let ok = inside.lanes.ok.0 in omega arith) in
    let more = copies_placed c.in-Ok.allowed copy placed old new done c.count.ensures.set few inside_only in
    let counted : CountsPlaced c.count.new.ledger new =
    let before = c.self.invariant.2 in let added = ap (λ l. l.placed) c.count.ensures.added in omega arith in (
      subst (λ (l : List (Option Inlet)). HasLanes inside.port l) (sym items)
          (keeps_lanes inside.port c.in-Ok.allowed copy placed old new done c.self.invariant.0),
      c.count.ensures.counted,
      subst (λ (l : List (Option Inlet)). CountsPlaced c.count.new.ledger l) (sym items) counted,
    )

pub returns-clause-offered : goal.returns-clause-offered
returns-clause-offered g c = λ heard.
    let inside = c.self.inside in
    let old = inside.lanes.items in
    let new = c.enqueue-placed.new.lanes in
    let placed = c.enqueue-placed.result in
    let known = c.judge.new.watch.batches in
    let local = c.is_local-local.result in
    let allowed = c.in-Ok.allowed in
    let frame = c.args.frame in
    let copy : FrameCopy = record { from = inside.port; number = inside.ledger.taken; frame = frame } in
    let done =
    subst (λ (l : List (Option Inlet)). PlacesCopies allowed copy placed l new) c.deref_mut.ensures.value
    c.enqueue-placed.ensures.placed in
    let items : take inside.lanes.len (new ++ drop (length new) old) ≡ new =
    with_items_is inside.lanes new (done.size ∙ sym inside.lanes.ok.0) in
    let size : c.len-ports.result ≡ length old = let e = c.len-ports.ensures in let ok = inside.lanes.ok.0 in omega arith in
    subst
    (λ (a : Ingress). HoldsAfter a.claims heard → Offered heard a frame
    record { number = inside.ledger.taken; front = c.len.result; local = local; allowed = allowed; placed = placed }
    record {
      port = inside.port;
      board = c.judge.new.watch.board;
      known = known;
      claims = c.hear.new.self;
      frames = inside.frames;
      lanes = take inside.lanes.len (new ++ drop (length new) old);
      ledger = c.count.new.ledger;
    })
    c.self.view_is
    (λ holds. record {
      same = (refl, c.judge.ensures.board, refl);
      later = c.in-Ok.ensures.judged.0;
      front = c.len.ensures.value;
      number = refl;
      local = c.is_local-local.ensures.heard heard holds;
      allowed =
          subst (λ n. allowed ≡ allowed_ports n (is_local heard frame) (reverse known) inside.port frame) size
          (subst (λ b. allowed ≡ allowed_ports c.len-ports.result b (reverse known) inside.port frame)
          (c.is_local-local.ensures.heard heard holds) c.in-Ok.ensures.judged.1);
      claims = c.hear.ensures.heard heard holds;
      placed = subst (λ (l : List (Option Inlet)). PlacesCopies allowed copy placed old l) (sym items) done;
      ledger = c.count.ensures.added;
    })

-- Placing leaves each lane its ring.
pub returns-clause-end : goal.returns-clause-end
returns-clause-end g c =
    let inside = c.self.inside in
    let old = inside.lanes.items in
    let new = c.enqueue-placed.new.lanes in
    let copy : FrameCopy = record { from = inside.port; number = inside.ledger.taken; frame = c.args.frame } in
    let done =
    subst (λ (l : List (Option Inlet)). PlacesCopies c.in-Ok.allowed copy c.enqueue-placed.result l new)
    c.deref_mut.ensures.value c.enqueue-placed.ensures.placed in
    let items : take inside.lanes.len (new ++ drop (length new) old) ≡ new =
    with_items_is inside.lanes new (done.size ∙ sym inside.lanes.ok.0) in
    let rings = ap (λ (l : List (Option Inlet)). map ring_to l) items ∙ rings_stay _ _ _ old new done in
    same_end inside.port _ _ _ _ c.judge.ensures.board rings ∙ ap end_in c.self.view_is
