-- The rule of the number that `left_right` shows: no end found a greater one.
use Rattle.std.proofs.Common.{◌≡◌, ℕ, zero, suc, ◌+◌, ◌≤◌, List, [], ◌∷◌, fold, max, set, sym, refl, subst, arith}
use Rattle.std.proofs.Common.{le_refl, le_trans, zero-le}
use mathlib.Core.Option.{some, some-injective, some-ne-none}
use lib.ListN.{get_elem?}
use Rattle.crossbeam_utils.specs.Register.{Admits, Turns, TurnsAt}
use Rattle.gw_board.specs.declared.count.Count.{Count}
use Rattle.gw_board.specs.declared.count.Visits.{Visits}
use Rattle.gw_board.specs.Ends.{Finds, no_visits}
use Rattle.gw_board.specs.Rules.{FoundBelow}
use Rattle.gw_board.proofs.Lists.{All-push}

found_at : (shown : ℕ) (ends : List Visits) (k : ℕ) (v : Visits) → FoundBelow shown ends → get_elem? ends k ≡ some v
    → v.found ≤ shown
found_at shown [] k v all at = absurd (some-ne-none v (sym at))
found_at shown (x ∷ xs) zero v all at =
    subst (λ (w : Visits). w.found ≤ shown) (some-injective x v at) (all 0 x (omega arith))
found_at shown (x ∷ xs) (suc k) v all at = found_at shown xs k v (λ i d below. all (suc i) d (omega arith)) at

set_below : (shown : ℕ) (ends : List Visits) (k : ℕ) (v : Visits) → FoundBelow shown ends → v.found ≤ shown
    → FoundBelow shown (set ends k v)
set_below shown [] k v all low i d below = absurd (omega arith)
set_below shown (x ∷ xs) zero v all low zero d below = low
set_below shown (x ∷ xs) zero v all low (suc i) d below = all (suc i) d (omega arith)
set_below shown (x ∷ xs) (suc k) v all low zero d below = all 0 d (omega arith)
set_below shown (x ∷ xs) (suc k) v all low (suc i) d below =
    set_below shown xs k v (λ j e less. all (suc j) e (omega arith)) low i d (omega arith)

-- a new end found nothing
pub admits : Admits (λ (c : Count). FoundBelow c.0) no_visits
admits x ends all = All-push (λ (v : Visits). v.found ≤ x.0) ends no_visits all zero-le

-- an end that enters finds what is shown
pub enters : (end : ℕ) (v : Visits)
    → Turns (λ (c : Count). FoundBelow c.0) end v (λ x. x) (λ before count _ after. Finds count.0 before after)
enters end v x ends all at = (
  record { entered = v.entered + 1; found = x.0 },
  set_below x.0 ends end (record { entered = v.entered + 1; found = x.0 }) all (le_refl x.0),
  record { no_fewer = found_at x.0 ends end v all at; once = refl },
)

-- the number that is shown next is no smaller
pub shows : (end : ℕ) (v : Visits) (x y : Count) → x.0 ≤ y.0
    → TurnsAt (λ (c : Count). FoundBelow c.0) end v x y (λ _ _ _ _. Unit {0})
shows end v x y rises ends all at = (
  v,
  set_below y.0 ends end v (λ k d below. le_trans (all k d below) rises) (le_trans (found_at x.0 ends end v all at) rises),
  tt,
)

pub greatest_is_no_smaller : (n : ℕ) (ns : List ℕ) → n ≤ fold max n ns
greatest_is_no_smaller n [] = le_refl n
greatest_is_no_smaller n (m ∷ ms) =
    let first : n ≤ max n m = omega arith in le_trans first (greatest_is_no_smaller (max n m) ms)
