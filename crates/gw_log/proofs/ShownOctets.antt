-- The words of the display that are no octets.
use Rattle.std.proofs.Common.{◌≡◌, ℕ, zero, suc, ◌<◌, Bool, true, false, not, List, [], ◌∷◌, length, take, get_or}
use Rattle.std.proofs.Common.{refl, inl, inr, arith}
use Rattle.std.specs.Prelude.{nat_lt, ◌&&◌, ◌||◌}
use Rattle.std.specs.List.{list_all}
use Rattle.std.proofs.lemmas.Bool.{cases_lt, lt-ltb}
use Rattle.std.proofs.lemmas.List.{length-take}

and_false : (b : Bool) → (b && false) ≡ false
and_false true = refl
and_false false = refl

or_true : (b : Bool) → (b || true) ≡ true
or_true true = refl
or_true false = refl

one_fails : (test : List ℕ → Bool) (words : List (List ℕ)) (n i : ℕ) → i < n → i < length words
    → test (get_or words i []) ≡ false → list_all test (take n words) ≡ false
one_fails test [] n i before within fails = absurd (omega arith)
one_fails test (word ∷ words) zero i before within fails = absurd (omega arith)
one_fails test (word ∷ words) (suc n) zero before within fails = rw fails refl
one_fails test (word ∷ words) (suc n) (suc i) before within fails =
    rw (one_fails test words n i (omega arith) (omega arith) fails) (and_false (test word))

-- where one of the words fails a test, or is not there, they are not as many that pass it
pub too_few : (test : List ℕ → Bool) (words : List (List ℕ)) (n i : ℕ) → i < n → test (get_or words i []) ≡ false
    → (nat_lt (length (take n words)) n || not (list_all test (take n words))) ≡ true
too_few test words n i before fails =
    elim (cases_lt i (length words)) [
      | inl within ↦ rw (one_fails test words n i before within fails) (or_true (nat_lt (length (take n words)) n))
      | inr past ↦ rw (lt-ltb (length (take n words)) n (omega (arith, length-take n words))) refl
    ]
