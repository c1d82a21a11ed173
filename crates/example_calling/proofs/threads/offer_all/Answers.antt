use Rattle.std.proofs.Common.{◌≡◌, ◌<◌, ◌∙◌, ◌+◌, ℕ, ◌++◌, ◌∷◌, [], List, Err, length, take, arith, ap, sym, subst}
use Rattle.std.proofs.lemmas.List.{take_all, take_more}
use Rattle.j1939_gateway.specs.Holders.{HoldsAfter}
use Rattle.j1939_gateway.specs.Outcome.{Outcome}
use Rattle.j1939_gateway.specs.Offers.{Offered}
use Rattle.j1939_gateway.specs.PortRuns.{Offers}
use Rattle.j1939_gateway.proofs.Callers.{heard_after, heard_more, offers_more}
use Rattle.example_calling.proofs.Forwarding.{refused_next}
use Rattle.example_calling.proofs.threads.offer_all.Goals as goal

-- One frame more was offered, where the one before left the port.
pub loop-frame-preserved : goal.loop-frame-preserved
loop-frame-preserved c =
    let at = c.loop-frame in
    let start = c.args.feed.port in
    let all = c.deref-frame-items.result.now in
    let frame = c.frame-item.result in
    let new = c.offer.new.self in
    let inside : at.frame-index < length all = let t = c.loop-frame-test.true in omega arith in
    let so_far = take at.frame-index all in
    let more : take (at.frame-index + 1) all ≡ so_far ++ frame ∷ [] =
    take_more all at.frame-index frame inside ∙ ap (λ x. so_far ++ x ∷ []) (sym c.frame-item.is) in
    let inv = at.invariant in
    let offered : Offered (heard_after [] so_far) at.port frame c.in-Ok.outcome new =
    c.in-Ok.ensures.offered (heard_after [] so_far) inv.0 in
    let taken = ap (λ l. l.taken) offered.ledger in
    let one = c.push_reserved.ensures.len in (
      subst (λ (l : List (List ℕ)). HoldsAfter new.claims (heard_after [] l)) (sym more)
          (subst (λ (h : List (List ℕ)). HoldsAfter new.claims h) (sym (heard_more [] so_far frame)) offered.claims),
      subst (λ (l : List (List ℕ)). Offers [] start l c.push_reserved.new.self.items new) (sym more)
          (subst (λ (os : List Outcome). Offers [] start (so_far ++ frame ∷ []) os new) (sym c.push_reserved.ensures.items)
          (offers_more [] start so_far at.outcomes.items at.port frame c.in-Ok.outcome new inv.1 offered)),
      c.in-Ok.ensures.end ∙ inv.2,
      offered.same.2 ∙ inv.3,
      (let t = inv.4 in omega arith),
      (let t = inv.5 in omega arith),
      c.push_reserved.ensures.capacity ∙ inv.6,
    )

pub push_reserved-requires : goal.push_reserved-requires
push_reserved-requires c =
    let inv = c.loop-frame.invariant in
    let many = inv.5 in
    let room = inv.6 in
    let enough = c.requires.room in
    let size = c.args.feed.frames.ok.0 in
    let all = ap length c.deref-frame-items.ensures.value in
    let test = c.loop-frame-test.true in
    omega arith

pub returns-in-Err-clause-refused : goal.returns-in-Err-clause-refused
returns-in-Err-clause-refused c =
    let at = c.loop-frame in
    let inv = at.invariant in
    let taken = inv.4 in
    let all = ap length c.deref-frame-items.ensures.value in
    let test = c.loop-frame-test.true in
    refused_next c.in-Err.why (length c.args.feed.frames.items) c.args.feed.port.frames at.port.ledger.taken (omega arith)
    (λ is. c.in-Err.ensures.spent.0 (ap (λ w. Err w) is) ∙ inv.3)

pub returns-clause-offered : goal.returns-clause-offered
returns-clause-offered c =
    let at = c.loop-frame in
    let inv = at.invariant in
    let all = c.deref-frame-items.result.now in
    let whole : take at.frame-index all ≡ c.args.feed.frames.items =
    take_all at.frame-index all (let t = c.loop-frame-test.false in omega arith) ∙ c.deref-frame-items.ensures.value in
    record {
      offers =
          subst (λ (l : List (List ℕ)). Offers [] c.args.feed.port l at.outcomes.items at.port) whole inv.1;
      same = inv.2;
    }
