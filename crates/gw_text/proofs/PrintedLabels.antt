-- The labels of a disassembly: each is defined once, at its place.
use Rattle.std.proofs.Common.{◌≡◌, ◌≢◌, ℕ, suc, zero, ◌+◌, ◌^◌, ◌<◌, ◌≤◌, true, false, List, [], ◌∷◌}
use Rattle.std.proofs.Common.{Some, None, refl, arith, rules, ⊎_elim}
use Rattle.std.specs.List.{list_any}
use Rattle.std.specs.Fmt.{decimal}
use Rattle.std.proofs.lemmas.Bool.{cases_lt, false_from_ne_true}
use Rattle.std.proofs.lemmas.Fmt.{decimal_injective}
use Rattle.std.proofs.lemmas.Slice.Eq.{bytes_eq-Decides}
use Rattle.gw_text.specs.AssemblerForms.{same_text}
use Rattle.gw_text.specs.Assembly.{Definition, place_of, defined_again}
use Rattle.gw_text.specs.Disassembly.{label}

-- n labels from a place on, each on its line
abbrev pub labels_from : ℕ → ℕ → List Definition
labels_from s zero = []
labels_from s (suc n) = record { name = label s; place = s; line = s + 1 } ∷ labels_from (s + 1) n

same_name : (a : List ℕ) → same_text a a ≡ true
same_name a = search (rules, bytes_eq-Decides a a)

tail_same : (a b : List ℕ) (c : ℕ) → c ∷ a ≡ c ∷ b → a ≡ b
tail_same a b c e = cc

other_name : (i j : ℕ) → i < 2 ^ 64 → j < 2 ^ 64 → i ≢ j → same_text (label i) (label j) ≡ false
other_name i j low high ne = false_from_ne_true (same_text (label i) (label j)) (λ yes.
    ne (decimal_injective i j low high
    (tail_same (decimal i) (decimal j) 108 (search (rules, bytes_eq-Decides (label i) (label j))))))

-- each of the labels names its own place
pub place_found : (n s t : ℕ) → s ≤ t → t < s + n → s + n < 2 ^ 64 → place_of (labels_from s n) (label t) ≡ Some t
place_found zero s t low high fits = absurd (omega arith)
place_found (suc n) s t low high fits = ⊎_elim
    (λ lt. rw (other_name s t (omega arith) (omega arith) (λ e. absurd (omega arith)))
    (place_found n (s + 1) t (omega arith) (omega arith) (omega arith)))
    (λ ge. let same : t ≡ s = omega arith in rw (same, same_name (label s)))
    (cases_lt s t)

-- no label of the names is that of a place from s on
abbrev Fresh : ℕ → List (List ℕ) → Type 0
Fresh s names = (t : ℕ) → s ≤ t → t < 2 ^ 64 → list_any (same_text (label t)) names ≡ false

-- none of the labels is defined twice
pub defined_once : (n s : ℕ) (names : List (List ℕ)) → s + n < 2 ^ 64 → Fresh s names → defined_again names (labels_from s n)
    ≡ None
defined_once zero s names fits fresh = refl
defined_once (suc n) s names fits fresh =
    rw (fresh s (omega arith) (omega arith))
    (defined_once n (s + 1) (label s ∷ names) (omega arith)
    (λ t low high. rw (other_name t s high (omega arith) (λ e. absurd (omega arith)), fresh t (omega arith) high)))
