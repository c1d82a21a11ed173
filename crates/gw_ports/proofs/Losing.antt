-- Copies that are lost, in plain data: each was allowed to a port whose lane was full.
use Rattle.std.proofs.Common.{◌≡◌, ℕ, zero, suc, ◌+◌, ◌<◌, ◌≤◌, Bool, true, false, true≢false, cond, IsTrue, MatchBool, IfSome}
use Rattle.std.proofs.Common.{List, [], ◌∷◌, length, get_or, take, Option, Some, None, sym, ap, subst, arith, add-zero}
use Rattle.std.proofs.Common.{length-append}
use Rattle.std.proofs.lemmas.List.Elements.{All-head, All-tail}
use Rattle.std.proofs.lemmas.List.Sums.{sum_by-cons}
use Rattle.std.specs.List.{All, count_by}
use Rattle.gw_ledger.specs.Ports.{has_port}
use Rattle.gw_ledger.specs.declared.outcome.FrameCopy.{FrameCopy}
use Rattle.gw_ledger.specs.declared.outcome.Outcome.{Outcome}
use Rattle.gw_lanes.specs.Ends.{Inlet}
use Rattle.gw_ports.specs.Ends.{Ingress, lane_at}
use Rattle.gw_ports.specs.Making.{IsNewLane}
use Rattle.gw_ports.specs.Offers.{next_copy}
use Rattle.gw_ports.specs.Placing.{Appends, WasFull}
use Rattle.gw_ports.specs.Reports.{Loses}
use Rattle.gw_ports.specs.Running.{Offers}

-- a lane, if there is one, has this much room, and so many copies were placed on it
abbrev pub Holds : ℕ → ℕ → Option Inlet → Type 0
Holds room placed lane = IfSome lane (λ inlet. (inlet.room ≡ room) × (length inlet.placed ≡ placed))

pub new_holds : (room : ℕ) (lanes : List (Option Inlet)) → All (IsNewLane room) lanes → (port : ℕ)
    → Holds room 0 (lane_at lanes port)
new_holds room [] new port = tt
new_holds room (lane ∷ lanes) new zero = one lane (All-head (IsNewLane room) lane lanes new)
  where
    one : (l : Option Inlet) → IsNewLane room l → Holds room 0 l
    one None is = tt
    one (Some inlet) is = (ap (λ (i : Inlet). i.room) is, ap (λ (i : Inlet). length i.placed) is)
new_holds room (lane ∷ lanes) new (suc port) = new_holds room lanes (All-tail (IsNewLane room) lane lanes new) port

one_more : (placed : Bool) (P Q : Type 0) (room n : ℕ) (copy : FrameCopy) (lane lane' : Option Inlet) → Holds room n lane
    → MatchBool placed (P × Appends lane copy lane') ((lane' ≡ lane) × Q) → Holds room (n + cond placed 1 0) lane'
one_more true P Q room n copy lane lane' holds more =
    let was = more.1 in
    let before = subst (λ (l : Option Inlet). Holds room n l) was.was holds in
    let many = before.1 in
    let size = length-append was.before.placed (copy ∷ []) in
    subst (λ (l : Option Inlet). Holds room (n + 1) l) (sym was.is) (before.0, (omega arith))
one_more false P Q room n copy lane lane' holds same =
    subst (λ k. Holds room k lane') (sym (add-zero n)) (subst (λ (l : Option Inlet). Holds room n l) (sym same.0) holds)

full_here : (placed : Bool) (P A : Type 0) (allowed : Bool) (room n : ℕ) (lane : Option Inlet) → Holds room n lane
    → MatchBool placed P (A × (IsTrue allowed → WasFull lane)) → IsTrue allowed × (placed ≡ false) → room ≤ n
full_here true P A allowed room n lane holds places lost = absurd (true≢false lost.1)
full_here false P A allowed room n lane holds places lost =
    let full = places.1 lost.0 in
    let before = subst (λ (l : Option Inlet). Holds room n l) full.was holds in
    let size = before.0 in
    let many = before.1 in
    let least = full.full in
    omega arith

-- a copy is lost once as many were placed, here and before, as the lane has room for
pub lost_when_full : (room egress n : ℕ) (heard : List (List ℕ)) (old : Ingress) (frames : List (List ℕ))
    (outcomes : List Outcome) (new : Ingress) → Offers heard old frames outcomes new
    → Holds room n (lane_at old.lanes egress) → (k : ℕ) (d : Outcome) → k < length outcomes → Loses egress (get_or outcomes k d)
    → room ≤ n + count_by (λ outcome. has_port egress outcome.placed) (take k outcomes)
lost_when_full room egress n heard old [] [] new same holds k d below loses = absurd (omega arith)
lost_when_full room egress n heard old [] (o ∷ outcomes) new offers holds k d below loses = absurd offers
lost_when_full room egress n heard old (f ∷ frames) [] new offers holds k d below loses = absurd offers
lost_when_full room egress n heard old (f ∷ frames) (o ∷ outcomes) new offers holds zero d below loses =
    let full =
    full_here (has_port egress o.placed) _ _ (has_port egress o.allowed) room n (lane_at old.lanes egress) holds
    (offers.1.placed.ports egress) loses in
    omega arith
lost_when_full room egress n heard old (f ∷ frames) (o ∷ outcomes) new offers holds (suc k) d below loses =
    let next = offers.0 in
    let holds' =
    one_more (has_port egress o.placed) _ _ room n (next_copy old f) (lane_at old.lanes egress) (lane_at next.lanes egress) holds
    (offers.1.placed.ports egress) in
    let rest =
    lost_when_full room egress (n + cond (has_port egress o.placed) 1 0) (f ∷ heard) next frames outcomes new offers.2 holds' k d
    (omega arith) loses in
    let first = sum_by-cons (λ (x : Outcome). cond (has_port egress x.placed) 1 0) o (take k outcomes) in
    omega arith
