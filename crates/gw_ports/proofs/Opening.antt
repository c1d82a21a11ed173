-- A new gateway's ends that know the first batch.
use Rattle.std.proofs.Common.{◌≡◌, ◌∙◌, ℕ, suc, ◌<◌, List, [], ◌∷◌, length, map, get_or, option_map, sym, ap, subst, refl, arith}
use Rattle.std.proofs.Common.{Option}
use Rattle.std.specs.List.{All}
use Rattle.std.proofs.lemmas.List.{get_or-map, length-map}
use Rattle.gw_board.specs.Ends.{Board, Publishing}
use Rattle.gw_ledger.specs.Bounds.{Bounds}
use Rattle.gw_policy.specs.Batches.{Pair}
use Rattle.gw_lanes.specs.Ends.{new_outlet}
use Rattle.gw_ports.specs.Ends.{Ingress, Egress, EndIn, EndOut, end_in, end_out, lane_to}
use Rattle.gw_ports.specs.Making.{AreEnds, AreNewEnds, AreOfOneGateway, IsNewIngress, new_egress}
use Rattle.gw_ports.specs.Running.{Drained, Fed, Feeding, HasTaken, IsDone, IsReady, Pairwise}
use Rattle.gw_ports.specs.declared.running.feed.Feed.{Feed}

map_same : {B : Type 0} (f : Ingress → B) (ins now : List Ingress) → length now ≡ length ins
    → ((k : ℕ) (d : Ingress) → k < length ins → f (get_or now k d) ≡ f (get_or ins k d)) → map f now ≡ map f ins
map_same f [] [] size each = refl
map_same f [] (n ∷ now) size each = absurd (omega arith)
map_same f (i ∷ ins) [] size each = absurd (omega arith)
map_same f (i ∷ ins) (n ∷ now) size each =
    ap (λ x. x ∷ map f now) (each 0 i (omega arith))
    ∙ ap (λ l. f i ∷ l) (map_same f ins now (omega arith) (λ k d below. each (suc k) d (omega arith)))

still_new : (ports frames room port : ℕ) (told : List (List Pair)) (i : Ingress) → IsNewIngress ports frames room port i
    → IsNewIngress ports frames room port (record i { known = told })
still_new ports frames room port told i new = record {
  number = new.number;
  most = new.most;
  claims = new.claims;
  ledger = new.ledger;
  lanes = new.lanes;
  empty = new.empty;
}

-- what the ports know is no part of what is new
pub new_ends_know : (ports frames room : ℕ) (told : List (List Pair)) (ins now : List Ingress) (outs : List Egress)
    → AreNewEnds ports frames room ins outs → length now ≡ length ins
    → ((k : ℕ) (d : Ingress) → k < length ins → get_or now k d ≡ record (get_or ins k d) { known = told })
    → AreNewEnds ports frames room now outs
new_ends_know ports frames room told ins now outs new size told_at = record {
  enough_ins = size ∙ new.enough_ins;
  enough_outs = new.enough_outs;
  ingress = λ k d below.
      subst (λ (i : Ingress). IsNewIngress ports frames room k i) (sym (told_at k d (omega arith)))
      (still_new ports frames room k told (get_or ins k d) (new.ingress k d (omega arith)));
  egress = λ k d below.
      new.egress k d below
      ∙ ap (λ l. new_egress k l)
      (sym (map_same (λ i. option_map new_outlet (lane_to k i)) ins now size
      (λ j e inside. ap (λ i. option_map new_outlet (lane_to k i)) (told_at j e inside))));
}

-- the ports that are to offer frames are those of the gateway, with their inputs

pub ready_ports : {S O : Type 0} (limits : Bounds) (ins : List Ingress) (outs : List Egress) (feeds : List (Feed S O))
    → AreNewEnds limits.ports limits.frames limits.lane ins outs → map (λ o. o.port) feeds ≡ ins
    → All (λ o. IsReady o.port × (o.port.frames ≡ limits.frames)) feeds
ready_ports {S} {O} limits ins outs feeds new is k d below =
    let port : Feed S O → Ingress = λ o. o.port in
    let size = length-map feeds port in
    let all = ap length is in
    let at : (get_or feeds k d).port ≡ get_or ins k d.port =
    sym (get_or-map port feeds k d d.port below) ∙ ap (λ l. get_or l k d.port) is in
    let made = new.ingress k d.port (omega arith) in
    subst (λ (i : Ingress). IsReady i × (i.frames ≡ limits.frames)) (sym at) ((made.claims, made.ledger), made.most)

-- of what the ports are given, each has its own
pub given_is : {F A : Type 0} (of_feed : F → A) (given : List A) (feeds : List F) → map of_feed feeds ≡ given
    → (k : ℕ) (d : F) → k < length feeds → of_feed (get_or feeds k d) ≡ get_or given k (of_feed d)
given_is {F} {A} of_feed given feeds is k d below =
    sym (get_or-map of_feed feeds k d (of_feed d) below) ∙ ap (λ (l : List A). get_or l k (of_feed d)) is

-- the threads hand back the ends that they were given

pub ends_after_offers : {S : Type 0} (steps : S → Option (List ℕ) → S → Type 0) (feeds : List (Feeding S)) (done : List (Fed S))
    → Pairwise (IsDone steps) feeds done
    → map end_in (map (λ one. one.port) done) ≡ map end_in (map (λ o. o.port) feeds)
ends_after_offers steps [] [] pairs = refl
ends_after_offers steps [] (one ∷ done) pairs = absurd pairs
ends_after_offers steps (o ∷ feeds) [] pairs = absurd pairs
ends_after_offers {S} steps (o ∷ feeds) (one ∷ done) pairs =
    ap (λ e. e ∷ map end_in (map (λ (d : Fed S). d.port) done)) pairs.0.same
    ∙ ap (λ l. end_in o.port ∷ l) (ends_after_offers steps feeds done pairs.1)

pub ends_after_takes : (outs : List Egress) (drained : List Drained) → Pairwise HasTaken outs drained
    → map end_out (map (λ one. one.port) drained) ≡ map end_out outs
ends_after_takes [] [] pairs = refl
ends_after_takes [] (one ∷ drained) pairs = absurd pairs
ends_after_takes (e ∷ outs) [] pairs = absurd pairs
ends_after_takes (e ∷ outs) (one ∷ drained) pairs =
    ap (λ x. x ∷ map end_out (map (λ (x : Drained). x.port) drained)) pairs.0.same
    ∙ ap (λ l. end_out e ∷ l) (ends_after_takes outs drained pairs.1)

pub same_gateway : (operator now : Publishing) (ins ins' : List Ingress) (outs outs' : List Egress)
    → AreOfOneGateway operator ins outs → (now.board ≡ operator.board) × (now.ports ≡ operator.ports)
    → map end_in ins' ≡ map end_in ins → map end_out outs' ≡ map end_out outs → AreOfOneGateway now ins' outs'
same_gateway operator now ins ins' outs outs' one same same_ins same_outs =
    subst (λ (b : Board). AreEnds b now.ports (map end_in ins') (map end_out outs')) (sym same.0)
    (subst (λ n. AreEnds operator.board n (map end_in ins') (map end_out outs')) (sym same.1)
    (subst (λ (l : List EndIn). AreEnds operator.board operator.ports l (map end_out outs')) (sym same_ins)
    (subst (λ (l : List EndOut). AreEnds operator.board operator.ports (map end_in ins) l) (sym same_outs) one)))
