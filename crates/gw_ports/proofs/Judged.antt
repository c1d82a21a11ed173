-- The outcomes of a port's frames, in plain data.
use Rattle.std.proofs.Common.{◌≡◌, ◌∙◌, ℕ, zero, suc, ◌+◌, ◌<◌, ◌≤◌, Bool, true, false, IsTrue, MatchBool, List, [], ◌∷◌}
use Rattle.std.proofs.Common.{true≢false, length, get_or, reverse, take, Option, sym, ap, subst, refl, arith}
use Rattle.std.proofs.lemmas.List.{get_or_append_left, take-append-le, take_at}
use Rattle.std.specs.List.{fold}
use mathlib.Core.List.{IsPrefix, reverse_aux}
use Rattle.gw_board.proofs.Callers.{prefix_length, prefix_self, prefix_trans}
use Rattle.gw_claims.specs.Claims.{is_local}
use Rattle.gw_policy.specs.Allowed.{allowed_ports}
use Rattle.gw_policy.specs.Batches.{Pair}
use Rattle.gw_ledger.specs.Ledgers.{ledger_with}
use Rattle.gw_ledger.specs.Ports.{has_port, IsPartOf}
use Rattle.gw_ledger.specs.declared.ledger.InLedger.{InLedger}
use Rattle.gw_ledger.specs.declared.outcome.FrameCopy.{FrameCopy}
use Rattle.gw_ledger.specs.declared.outcome.Outcome.{Outcome}
use Rattle.gw_lanes.specs.Ends.{Inlet}
use Rattle.gw_ports.specs.Ends.{Ingress}
use Rattle.gw_ports.specs.Offers.{Offered}
use Rattle.gw_ports.specs.Placing.{PlacesCopies}
use Rattle.gw_ports.specs.Running.{Offers}
use Rattle.gw_ports.specs.Reports.{AreJudged, IsJudged}

-- copies are placed at ports to which the frame is allowed
placed_is_part : (allowed : List ℕ) (copy : FrameCopy) (placed : List ℕ) (old new : List (Option Inlet))
    → PlacesCopies allowed copy placed old new → IsPartOf placed allowed
placed_is_part allowed copy placed old new places = record {
  ports = λ port there. first (has_port port placed) _ _ _ (places.ports port) there;
}
  where
    first : (b : Bool) (P Q R : Type 0) → MatchBool b (P × Q) R → IsTrue b → P
    first true P Q R both there = both.0
    first false P Q R other there = absurd (true≢false (sym there))

-- what is known only grows while frames are offered
pub known_grows : (heard : List (List ℕ)) (old : Ingress) (frames : List (List ℕ)) (outcomes : List Outcome) (new : Ingress)
    → Offers heard old frames outcomes new → IsPrefix old.known new.known
known_grows heard old [] [] new same =
    subst (λ (i : Ingress). IsPrefix old.known i.known) (sym same) (prefix_self old.known)
known_grows heard old [] (o ∷ outcomes) new offers = absurd offers
known_grows heard old (f ∷ frames) [] new offers = absurd offers
known_grows heard old (f ∷ frames) (o ∷ outcomes) new offers =
    prefix_trans old.known offers.0.known new.known offers.1.later
    (known_grows (f ∷ heard) offers.0 frames outcomes new offers.2)

-- an outcome for each frame that was taken
pub as_many_outcomes : (heard : List (List ℕ)) (old : Ingress) (frames : List (List ℕ)) (outcomes : List Outcome)
    (new : Ingress) → Offers heard old frames outcomes new → length outcomes ≡ length frames
as_many_outcomes heard old [] [] new same = refl
as_many_outcomes heard old [] (o ∷ outcomes) new offers = absurd offers
as_many_outcomes heard old (f ∷ frames) [] new offers = absurd offers
as_many_outcomes heard old (f ∷ frames) (o ∷ outcomes) new offers =
    ap suc (as_many_outcomes (f ∷ heard) offers.0 frames outcomes new offers.2)

-- the ledger counts the outcomes
pub outcomes_counted : (heard : List (List ℕ)) (old : Ingress) (frames : List (List ℕ)) (outcomes : List Outcome)
    (new : Ingress) → Offers heard old frames outcomes new → new.ledger ≡ fold ledger_with old.ledger outcomes
outcomes_counted heard old [] [] new same = ap (λ (i : Ingress). i.ledger) same
outcomes_counted heard old [] (o ∷ outcomes) new offers = absurd offers
outcomes_counted heard old (f ∷ frames) [] new offers = absurd offers
outcomes_counted heard old (f ∷ frames) (o ∷ outcomes) new offers =
    outcomes_counted (f ∷ heard) offers.0 frames outcomes new offers.2
    ∙ ap (λ (l : InLedger). fold ledger_with l outcomes) offers.1.ledger

-- as many frames were taken as there are outcomes, and the most of them stays
pub frames_taken : (heard : List (List ℕ)) (old : Ingress) (frames : List (List ℕ)) (outcomes : List Outcome) (new : Ingress)
    → Offers heard old frames outcomes new
    → (new.ledger.taken ≡ old.ledger.taken + length outcomes) × (new.frames ≡ old.frames)
frames_taken heard old [] [] new same =
    ((let e = ap (λ (i : Ingress). i.ledger.taken) same in omega arith), ap (λ (i : Ingress). i.frames) same)
frames_taken heard old [] (o ∷ outcomes) new offers = absurd offers
frames_taken heard old (f ∷ frames) [] new offers = absurd offers
frames_taken heard old (f ∷ frames) (o ∷ outcomes) new offers =
    let rest = frames_taken (f ∷ heard) offers.0 frames outcomes new offers.2 in
    let taken = rest.0 in
    let one = ap (λ (l : InLedger). l.taken) offers.1.ledger in
    ((omega arith), rest.1 ∙ offers.1.same.2)

-- no outcome has a front below what was known before
fronts_at_least : (heard : List (List ℕ)) (old : Ingress) (frames : List (List ℕ)) (outcomes : List Outcome) (new : Ingress)
    → Offers heard old frames outcomes new → (k : ℕ) (d : Outcome) → k < length outcomes
    → length old.known ≤ (get_or outcomes k d).front
fronts_at_least heard old [] [] new same k d below = absurd (omega arith)
fronts_at_least heard old [] (o ∷ outcomes) new offers k d below = absurd offers
fronts_at_least heard old (f ∷ frames) [] new offers k d below = absurd offers
fronts_at_least heard old (f ∷ frames) (o ∷ outcomes) new offers zero d below =
    let grows = prefix_length old.known offers.0.known offers.1.later in
    let front = offers.1.front in
    omega arith
fronts_at_least heard old (f ∷ frames) (o ∷ outcomes) new offers (suc k) d below =
    let grows = prefix_length old.known offers.0.known offers.1.later in
    let rest = fronts_at_least (f ∷ heard) offers.0 frames outcomes new offers.2 k d (omega arith) in
    omega arith

-- fronts do not fall along a port
pub fronts_rise : (heard : List (List ℕ)) (old : Ingress) (frames : List (List ℕ)) (outcomes : List Outcome) (new : Ingress)
    → Offers heard old frames outcomes new → (j k : ℕ) (d : Outcome) → j ≤ k → k < length outcomes
    → (get_or outcomes j d).front ≤ (get_or outcomes k d).front
fronts_rise heard old [] [] new same j k d le below = absurd (omega arith)
fronts_rise heard old [] (o ∷ outcomes) new offers j k d le below = absurd offers
fronts_rise heard old (f ∷ frames) [] new offers j k d le below = absurd offers
fronts_rise heard old (f ∷ frames) (o ∷ outcomes) new offers zero zero d le below = omega arith
fronts_rise heard old (f ∷ frames) (o ∷ outcomes) new offers zero (suc k) d le below =
    let front = offers.1.front in
    let rest = fronts_at_least (f ∷ heard) offers.0 frames outcomes new offers.2 k d (omega arith) in
    omega arith
fronts_rise heard old (f ∷ frames) (o ∷ outcomes) new offers (suc j) zero d le below = absurd (omega arith)
fronts_rise heard old (f ∷ frames) (o ∷ outcomes) new offers (suc j) (suc k) d le below =
    fronts_rise (f ∷ heard) offers.0 frames outcomes new offers.2 j k d (omega arith) (omega arith)

module _ (ports port : ℕ) (published : List (List Pair)) where
  -- a port that has heard frames, and knows a batch at least
  pub record HasHeard (heard : List (List ℕ)) (ingress : Ingress) : Type 0 where
    pub own : ingress.port ≡ port
    pub lanes : length ingress.lanes ≡ ports
    pub number : ingress.ledger.taken ≡ length heard
    pub knows : 1 ≤ length ingress.known

  heard_one : (heard : List (List ℕ)) (old : Ingress) (octets : List ℕ) (outcome : Outcome) (new : Ingress)
      → HasHeard heard old → Offered heard old octets outcome new → HasHeard (octets ∷ heard) new
  heard_one heard old octets outcome new has offered =
      let number = has.number in
      let taken = ap (λ (l : InLedger). l.taken) offered.ledger in
      let grows = prefix_length old.known new.known offered.later in
      let knows = has.knows in
      record {
        own = offered.same.0 ∙ has.own;
        lanes = offered.placed.size ∙ has.lanes;
        number = omega arith;
        knows = omega arith;
      }

  -- an outcome is judged by what the port knows afterwards, which begins what was published
  pub judged_one : (heard : List (List ℕ)) (old : Ingress) (octets : List ℕ) (outcome : Outcome) (new : Ingress)
      → HasHeard heard old → Offered heard old octets outcome new → IsPrefix new.known published
      → IsJudged ports port published heard octets outcome
  judged_one heard old octets outcome new has offered begins =
      let grows = prefix_length old.known new.known offered.later in
      let most = prefix_length new.known published begins in
      let knows = has.knows in
      let front = offered.front in
      let seen : take outcome.front published ≡ new.known =
      ap (take outcome.front) (sym begins.1) ∙ take_at new.known begins.0 outcome.front (sym front) in
      record {
        number = offered.number ∙ has.number;
        least = omega arith;
        most = omega arith;
        local = offered.local;
        allowed =
            offered.allowed
            ∙ ap (λ n. allowed_ports n (is_local heard octets) (reverse new.known) old.port octets) has.lanes
            ∙ ap (λ p. allowed_ports ports (is_local heard octets) (reverse new.known) p octets) has.own
            ∙ ap (λ b. allowed_ports ports b (reverse new.known) port octets) (sym offered.local)
            ∙ ap (λ (l : List (List Pair)). allowed_ports ports outcome.local (reverse l) port octets) (sym seen);
        placed =
            placed_is_part outcome.allowed (record { from = old.port; number = old.ledger.taken; frame = octets })
            outcome.placed old.lanes new.lanes offered.placed;
      }

  judged_all : (heard : List (List ℕ)) (old : Ingress) (frames : List (List ℕ)) (outcomes : List Outcome) (new : Ingress)
      → HasHeard heard old → Offers heard old frames outcomes new → IsPrefix new.known published
      → (k : ℕ) (d : Outcome) → k < length outcomes
      → IsJudged ports port published (reverse_aux (take k frames) heard) (get_or frames k []) (get_or outcomes k d)
  judged_all heard old [] [] new has same begins k d below = absurd (omega arith)
  judged_all heard old [] (o ∷ outcomes) new has offers begins k d below = absurd offers
  judged_all heard old (f ∷ frames) [] new has offers begins k d below = absurd offers
  judged_all heard old (f ∷ frames) (o ∷ outcomes) new has offers begins zero d below =
      judged_one heard old f o offers.0 has offers.1
      (prefix_trans offers.0.known new.known published (known_grows (f ∷ heard) offers.0 frames outcomes new offers.2) begins)
  judged_all heard old (f ∷ frames) (o ∷ outcomes) new has offers begins (suc k) d below =
      judged_all (f ∷ heard) offers.0 frames outcomes new (heard_one heard old f o offers.0 has offers.1) offers.2 begins k d
      (omega arith)

  -- all outcomes of a port are judged by the batches that begin with those that it knows
  pub are_judged : (old : Ingress) (frames : List (List ℕ)) (outcomes : List Outcome) (new : Ingress) → HasHeard [] old
      → Offers [] old frames outcomes new → IsPrefix new.known published → AreJudged ports port published frames outcomes
  are_judged old frames outcomes new has offers begins =
      let many = as_many_outcomes [] old frames outcomes new offers in
      record {
        few = omega arith;
        judged = judged_all [] old frames outcomes new has offers begins;
        rising = fronts_rise [] old frames outcomes new offers;
      }

  -- more frames that are not offered change nothing
  pub judged_of_more : (frames more : List (List ℕ)) (outcomes : List Outcome) → IsPrefix frames more
      → AreJudged ports port published frames outcomes → AreJudged ports port published more outcomes
  judged_of_more frames more outcomes begins judged =
      let few = judged.few in
      let longer = prefix_length frames more begins in
      record {
        few = omega arith;
        judged = λ k d below.
            subst
            (λ (heard : List (List ℕ)). IsJudged ports port published (reverse heard) (get_or more k []) (get_or outcomes k d))
            (sym (take-append-le k frames begins.0 (omega arith)) ∙ ap (take k) begins.1)
            (subst (λ (octets : List ℕ). IsJudged ports port published (reverse (take k frames)) octets (get_or outcomes k d))
            (sym (get_or_append_left frames begins.0 [] k (omega arith)) ∙ ap (λ (l : List (List ℕ)). get_or l k []) begins.1)
            (judged.judged k d below));
        rising = judged.rising;
      }
