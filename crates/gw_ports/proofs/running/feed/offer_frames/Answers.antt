use Rattle.std.proofs.Common.{◌≡◌, ◌∙◌, ◌-◌, ℕ, ◌++◌, ◌∷◌, [], List, Err, rules, length, length-append, min, arith, ap}
use Rattle.std.proofs.Common.{refl, subst, sym}
use Rattle.std.specs.Iterator.{size}
use Rattle.gw_claims.specs.Holders.{HoldsAfter}
use Rattle.gw_ports.specs.Ends.{Ingress}
use Rattle.gw_ports.specs.Offers.{IsPlaced, Offered}
use Rattle.gw_ports.specs.Running.{Offers}
use Rattle.gw_ports.proofs.Runs.{all_push, heard_after, heard_more, offers_more, yields_more}
use Rattle.gw_ports.proofs.Sinks.{handed_more}
use Rattle.gw_ports.proofs.running.feed.offer_frames.Goals as goal

-- No frame was offered.
pub loop-frame-init : goal.loop-frame-init
loop-frame-init g c =
    let asks = c.requires in
    let none = ap (λ l. l.taken) asks.new.1 in
    record {
      claims = asks.new.0;
      list = [];
      offers = refl;
      handed = refl;
      same = refl;
      most = refl;
      taken = none;
      left = omega arith;
      room = λ finite. let room = asks.room finite in omega arith;
      all = λ waits k d below. absurd (omega arith);
    }

-- The sink has room for the outcome of each frame that the port can take.
pub take-requires : goal.take-requires
take-requires g c = λ finite.
    let inv = c.loop-frame.invariant in
    let room = inv.room finite in
    let goes = c.in-Some.ensures.goes.on c.loop-frame.iterator.1 in
    let few = goes.2 in
    let left = inv.left in
    let inside = c.in-Ok.ensures.inside in
    let taken = inv.taken in
    let most = inv.most in
    omega arith

-- One frame more was offered, where the one before left the port.
pub loop-frame-preserved : goal.loop-frame-preserved
loop-frame-preserved g c =
    let at = c.loop-frame in
    let start = c.args.feed in
    let new = c.offer_one-offered.new.port in
    let frame = c.in-Some.frame in
    let frames = at.yielded in
    let outcome = c.in-Ok.outcome in
    let inv = at.invariant in
    let offered : Offered (heard_after [] frames) at.port frame outcome new =
    c.in-Ok.ensures.offered (heard_after [] frames) inv.claims in
    let many = length-append frames (frame ∷ []) in
    let few = (c.in-Some.ensures.goes.on at.iterator.1).2 in
    let left = inv.left in
    let inside = c.in-Ok.ensures.inside in
    let taken = inv.taken in
    let counted = ap (λ l. l.taken) offered.ledger in
    let most = inv.most in
    let rest : ℕ = min (size (g.I.Iterator.remaining start.input)) start.port.frames - length (frames ++ frame ∷ []) in
    record {
      claims = subst (λ (h : List (List ℕ)). HoldsAfter new.claims h) (sym (heard_more [] frames frame)) offered.claims;
      list = inv.list ++ outcome ∷ [];
      offers = offers_more [] start.port frames inv.list at.port frame outcome new inv.offers offered;
      handed =
          handed_more g.O.Sink.takes start.outcomes inv.list at.outcomes outcome c.take.new.self inv.handed c.take.ensures.taken;
      same = c.in-Ok.ensures.end ∙ inv.same;
      most = offered.same.2 ∙ inv.most;
      taken = omega arith;
      left = omega arith;
      room = c.take.ensures.left rest (λ finite. let room = inv.room finite in omega arith);
      all = λ waits.
          all_push IsPlaced inv.list (inv.list ++ outcome ∷ []) outcome refl (inv.all waits) (c.in-Ok.ensures.all waits);
    }

-- The refused frame left the port as it was.
pub returns-in-Err : goal.returns-in-Err
returns-in-Err g c =
    let at = c.loop-frame in
    let start = c.args.feed.port in
    let inv = at.invariant in
    let same = c.in-Err.ensures.unchanged in
    record {
      outcomes = inv.list;
      did = record {
        frames = at.yielded;
        gave = (
          c.in-Some.frame,
          yields_more g.I.Iterator.next_gives c.args.feed.input at.yielded at.input c.in-Some.frame c.next.new.self (search rules)
              c.in-Some.ensures.steps,
        );
        offers = subst (λ (p : Ingress). Offers [] start at.yielded inv.list p) (sym same) inv.offers;
        same = c.in-Err.ensures.end ∙ inv.same;
        spent = λ is. subst (λ (p : Ingress). p.ledger.taken ≡ p.frames) (sym same)
            (c.in-Err.ensures.spent.0 (ap (λ w. Err w) (cc is)));
        all = inv.all;
      };
      handed = inv.handed;
    }

-- All frames were offered.
pub returns : goal.returns
returns g c =
    let inv = c.loop-frame.invariant in
    record {
      outcomes = inv.list;
      did = record {
        frames = c.loop-frame.yielded;
        gave = (c.loop-frame.input, search rules, c.in_default.ensures.steps);
        offers = inv.offers;
        same = inv.same;
        spent = λ is. absurd (cc is);
        all = inv.all;
      };
      handed = inv.handed;
    }
