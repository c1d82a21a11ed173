-- The exchange that adds a batch keeps the rule that the word is the list's length.
use Rattle.std.proofs.Common.{◌≡◌, ℕ, ◌+◌, ◌<◌, ◌≤◌, ◌==◌, Bool, true, false, List, [], ◌∷◌, ◌++◌, length, refl, ap, sym, subst}
use Rattle.std.proofs.Common.{arith, inl, length-append, None}
use Rattle.std.proofs.lemmas.List.{append-nil}
use Rattle.std.proofs.lemmas.Bool.Decides.{nat_tests}
use mathlib.Core.List.{IsPrefix}
use prog.Atomic.{either}
use Rattle.logbook.specs.Pages.{Cell, cell, keeps, no_nib, step, Moves, Goes}
use Rattle.gw_policy.specs.Batches.{Pair}
use Rattle.gw_board.specs.Rules.{IsLengthKept, AddsBatch}
use Rattle.gw_board.proofs.Prefixes.{prefix_whole}

-- clients see nothing of the list, and ask nothing of a step
abbrev pub shown : List (List Pair) → List (List Pair)
shown log = []

abbrev pub moved : List (List Pair) → List (List Pair) → ℕ → Type 0
moved xs ys n = Unit {0}

-- how the step goes on where the list is `log`: it adds the batch where the word is the length that was seen, and nothing else
abbrev pub Continues : List (List Pair) → List Pair → ℕ → List Cell → List (List Pair) → Type 0
Continues seen batch old cells log =
    Goes IsLengthKept shown moved 0 (seen, (no_nib, None)) (λ n. either (n == old) (old + 1) n)
    (AddsBatch (step 0 old (old + 1) batch) (seen, (no_nib, None))) cells log

pub adds_goes : (log seen : List (List Pair)) (batch : List Pair) (old : ℕ) → length seen ≡ old → old < 65535 → length log ≤ 65535
    → IsPrefix seen log → (found : Bool) → (length log == old) ≡ found
    → Continues seen batch old ((length log, true) ∷ (0, true) ∷ []) log
adds_goes log seen batch old len room few begins true is =
    let here : length log ≡ old = grind (arith, nat_tests) in
    let same : seen ≡ log = prefix_whole seen log begins (omega arith) in
    let n : either (length log == old) (old + 1) (length log) ≡ length (log ++ batch ∷ []) =
    rw is (omega (arith, length-append log (batch ∷ []))) in
    let fits : length (log ++ batch ∷ []) ≤ 65535 = omega (arith, length-append log (batch ∷ [])) in (
      keeps,
      batch ∷ [],
      None,
      tt,
      (ap (λ (k : ℕ). (k, true) ∷ (0, true) ∷ []) n, fits),
      inl (refl, refl),
      (rw is (ap (λ w. w ++ batch ∷ []) (sym same)), fits),
    )
adds_goes log seen batch old len room few begins false is =
    let all : log ++ [] ≡ log = append-nil log in
    let n : either (length log == old) (old + 1) (length log) ≡ length (log ++ []) = rw is (ap length (sym all)) in
    let fits : length (log ++ []) ≤ 65535 = omega (arith, ap length all) in (
      keeps,
      [],
      None,
      tt,
      (ap (λ (k : ℕ). (k, true) ∷ (0, true) ∷ []) n, fits),
      inl (refl, refl),
      (rw is (ap length all), fits),
    )

-- whatever the list is, the exchange adds the batch to all that was seen, or finds that the list is longer
pub adds_moves : (seen : List (List Pair)) (batch : List Pair) (old : ℕ) → length seen ≡ old → old < 65535
    → Moves IsLengthKept shown moved 0 (seen, (no_nib, None)) (λ n. either (n == old) (old + 1) n)
    (AddsBatch (step 0 old (old + 1) batch) (seen, (no_nib, None)))
adds_moves seen batch old len room cs log kept begins away =
    let P : List Cell → Type 0 = λ c. (0 < length c) × ((cell c 0).1 ≡ true) × Continues seen batch old c log in
    subst P (sym kept.0)
    (omega arith, refl, adds_goes log seen batch old len room kept.1 begins (length log == old) refl)
