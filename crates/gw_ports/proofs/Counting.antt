-- What one more frame, one more lane and one more copy keep of the counts.
use Rattle.std.proofs.Common.{◌≡◌, ◌∙◌, ℕ, ◌+◌, ◌-◌, ◌<◌, ◌≤◌, ◌^◌, Bool, true, false, if◌then◌else◌, List, [], ◌∷◌}
use Rattle.std.proofs.Common.{◌++◌, length, get_or, sum_by, Option, Some, None, ⊎_elim, sym, ap, refl, arith, length-append}
use Rattle.std.specs.List.{All}
use Rattle.std.proofs.Math.Nat.{min-eq_left, min-eq_right}
use Rattle.std.proofs.lemmas.Bool.{cases_eq, cases_lt}
use Rattle.std.proofs.lemmas.List.{get_or-set_same, get_or-set_other, get_or_append_left, get_or_past, get_or_push, length-set}
use Rattle.std.proofs.lemmas.List.Elements.{All-head, All-tail}
use Rattle.std.proofs.lemmas.List.Sums.{sum_by-cons}
use Rattle.gw_ledger.specs.Ledgers.{ledger_with, count_after}
use Rattle.gw_ledger.specs.declared.ledger.InLedger.{InLedger}
use Rattle.gw_ledger.specs.declared.ledger.OutLedger.{OutLedger}
use Rattle.gw_ledger.specs.declared.outcome.FrameCopy.{FrameCopy}
use Rattle.gw_ledger.specs.declared.outcome.Outcome.{Outcome}
use Rattle.gw_lanes.specs.Ends.{Inlet, Outlet}
use Rattle.gw_ports.specs.Ends.{lane_at, placed_on, taken_from, count_of, IsCounted, CountsSent}
use Rattle.gw_ports.specs.Making.{IsNewLane}
use Rattle.gw_ports.specs.Sending.{PopsFrom, sent_with}

-- one more frame

one_at_most : (b : Bool) → (if b then 1 else 0) ≤ 1
one_at_most true = omega arith
one_at_most false = omega arith

pub one_more_frame : (ledger : InLedger) (o : Outcome) (frames : ℕ) → IsCounted ledger frames → ledger.taken < frames
    → length o.allowed ≤ 16 → length o.placed ≤ length o.allowed → IsCounted (ledger_with ledger o) frames
one_more_frame ledger o frames counted room few part =
    let taken = counted.taken in
    let local = counted.local in
    let allowed = counted.allowed in
    let parts = counted.parts in
    let one = one_at_most o.local in
    record { taken = omega arith; local = omega arith; allowed = omega arith; parts = omega arith }

-- new lanes

-- nothing was placed on new lanes
pub nothing_placed : (room : ℕ) (lanes : List (Option Inlet)) → All (IsNewLane room) lanes → sum_by placed_on lanes ≡ 0
nothing_placed room [] all = refl
nothing_placed room (lane ∷ lanes) all =
    let sum = sum_by-cons placed_on lane lanes in
    let first = none_on lane (All-head (IsNewLane room) lane lanes all) in
    let rest = nothing_placed room lanes (All-tail (IsNewLane room) lane lanes all) in
    omega arith
  where
    none_on : (l : Option Inlet) → IsNewLane room l → placed_on l ≡ 0
    none_on None new = refl
    none_on (Some inlet) new = ap (λ (i : Inlet). length i.placed) new

-- nothing was sent from a lane that is new
pub one_more_ingress : (ledger : OutLedger) (lanes : List (Option Outlet)) (lane : Option Outlet) → CountsSent ledger lanes
    → taken_from lane ≡ 0 → CountsSent ledger (lanes ++ lane ∷ [])
one_more_ingress ledger lanes lane counts new = record {
  ports = counts.ports;
  sent = λ ingress below. counts.sent ingress below ∙ ap count_of (sym (same ingress));
}
  where
    same : (ingress : ℕ) → taken_from (lane_at (lanes ++ lane ∷ []) ingress) ≡ taken_from (lane_at lanes ingress)
    same ingress = ⊎_elim
        (λ (inside : ingress < length lanes). ap taken_from (get_or_append_left lanes (lane ∷ []) None ingress inside))
        (λ (past : length lanes ≤ ingress).
        let nothing : taken_from (lane_at lanes ingress) ≡ 0 = ap taken_from (get_or_past lanes ingress None past) in
        ⊎_elim
        (λ (last : ingress ≡ length lanes).
        ap (λ n. taken_from (lane_at (lanes ++ lane ∷ []) n)) last
        ∙ ap taken_from (get_or_push lanes lane None (length lanes) refl)
        ∙ new ∙ sym nothing)
        (λ (apart : ingress ≡ length lanes → ⊥).
        let more = length-append lanes (lane ∷ []) in
        ap taken_from (get_or_past (lanes ++ lane ∷ []) ingress None (grind arith)) ∙ sym nothing)
        (cases_eq ingress (length lanes)))
        (cases_lt ingress (length lanes))

-- one more copy

pub count_after-count_of : (copies : ℕ) → count_after (count_of copies) ≡ count_of (copies + 1)
count_after-count_of copies = ⊎_elim
    (λ (room : copies < 2 ^ 64 - 1). ap count_after (min-eq_left (omega arith)))
    (λ (full : 2 ^ 64 - 1 ≤ copies). ap count_after (min-eq_right full) ∙ sym (min-eq_right (omega arith)))
    (cases_lt copies (2 ^ 64 - 1))

-- a copy that was taken is counted at its ingress port
pub one_more_sent : (ledger : OutLedger) (lanes lanes' : List (Option Outlet)) (ingress : ℕ) (copy : FrameCopy)
    → CountsSent ledger lanes → PopsFrom ingress lanes copy lanes' → ingress < 16 → CountsSent (sent_with ledger ingress) lanes'
one_more_sent ledger lanes lanes' ingress copy counts pops below = record {
  ports = length-set ledger.sent ingress next ∙ counts.ports;
  sent = λ other inside. ⊎_elim (here other) (elsewhere other inside) (cases_eq other ingress);
}
  where
    next : ℕ
    next = count_after (get_or ledger.sent ingress 0)

    taken : taken_from (lane_at lanes' ingress) ≡ taken_from (lane_at lanes ingress) + 1
    taken =
        let before = pops.lane.before in
        ap taken_from pops.lane.is ∙ length-append before.taken (copy ∷ []) ∙ ap (λ n. n + 1) (sym (ap taken_from pops.lane.was))

    at_ingress : get_or (sent_with ledger ingress).sent ingress 0 ≡ count_of (taken_from (lane_at lanes' ingress))
    at_ingress =
        let inside : ingress < length ledger.sent = let n = counts.ports in omega arith in
        get_or-set_same ledger.sent ingress next 0 inside ∙ ap count_after (counts.sent ingress below)
        ∙ count_after-count_of (taken_from (lane_at lanes ingress)) ∙ ap count_of (sym taken)

    here : (other : ℕ) → other ≡ ingress → get_or (sent_with ledger ingress).sent other 0
        ≡ count_of (taken_from (lane_at lanes' other))
    here other same =
        ap (λ n. get_or (sent_with ledger ingress).sent n 0) same ∙ at_ingress
        ∙ ap (λ n. count_of (taken_from (lane_at lanes' n))) (sym same)

    elsewhere : (other : ℕ) → other < 16 → (other ≡ ingress → ⊥)
        → get_or (sent_with ledger ingress).sent other 0 ≡ count_of (taken_from (lane_at lanes' other))
    elsewhere other inside apart =
        get_or-set_other ledger.sent ingress other next 0 apart ∙ counts.sent other inside
        ∙ ap (λ l. count_of (taken_from l)) (sym (ap (λ l. lane_at l other) pops.others
        ∙ get_or-set_other lanes ingress other (lane_at lanes' ingress) None apart))
