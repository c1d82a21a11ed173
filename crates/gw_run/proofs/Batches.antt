-- Items that go through a ring many at once.
use Rattle.std.proofs.Common.{◌≡◌, ◌∙◌, ℕ, ◌+◌, ◌-◌, ◌<◌, ◌≤◌, ◌^◌, Bool, true, false, nat_eq, MatchBool}
use Rattle.std.proofs.Common.{List, [], ◌∷◌, ◌++◌, length, take, drop, length-append, append_assoc, ap, arith, refl, subst, sym}
use Rattle.std.proofs.lemmas.Bool.{eqb-true, eqb-false}
use Rattle.std.proofs.lemmas.List.{length-drop, length-take-le, nil_from_length}
use Rattle.std.proofs.Math.Seq.{take-append_seam}
use Rattle.rtrb.specs.Fifo.{Allowed, EachAllowed}
use Rattle.gw_run.specs.Dealt.{Dealt, EndsWith, MayFollow}

-- all were given, or some are not
pub given_all : (items : List Dealt) (given count : ℕ) → given ≤ count → count ≤ length items
    → MatchBool (nat_eq given count) (drop given (take count items) ≡ []) (0 < length (drop given (take count items)))
given_all items given count below within = by (nat_eq given count) refl
  where
    left : length (drop given (take count items)) ≡ count - given
    left = length-drop given (take count items) ∙ ap (λ n. n - given) (length-take-le count items within)

    by : (all : Bool) → nat_eq given count ≡ all
        → MatchBool all (drop given (take count items) ≡ []) (0 < length (drop given (take count items)))
    by true is = nil_from_length (drop given (take count items)) (let same = eqb-true given count is in omega (arith, left))
    by false is = let other = eqb-false given count is in omega (arith, left, below, other)

-- what a ring's protocol lets through is no more than its bound
pub bounded : (before items : List Dealt) → 0 < length items → Allowed MayFollow before items
    → length (before ++ items) ≤ 2 ^ 64
bounded before [] some allowed = elim some [ ]
bounded before (item ∷ []) some allowed = omega (arith, length-append before (item ∷ []), allowed.0)
bounded before (item ∷ next ∷ items) some allowed =
    subst (λ (l : List Dealt). length l ≤ 2 ^ 64) (append_assoc before (item ∷ []) (next ∷ items))
    (bounded (before ++ item ∷ []) (next ∷ items) (omega arith) allowed.1)

-- and within the bound any item goes through
pub within_bound : (before items : List Dealt) → length before + length items ≤ 2 ^ 64 → EachAllowed MayFollow before items
within_bound before items few i d inside =
    omega (arith, length-append before (take i items), length-take-le i items (omega (arith, inside)), few, inside)

-- the items in front of the last ones
pub in_front : (items first last : List Dealt) → items ≡ first ++ last → take (length items - length last) items ≡ first
in_front items first last is =
    subst (λ (l : List Dealt). take (length l - length last) l ≡ first) (sym is)
    (ap (λ n. take n (first ++ last)) many ∙ take-append_seam first last)
  where
    many : length (first ++ last) - length last ≡ length first
    many = omega (arith, length-append first last)

-- what was given of a ring is the front of what was put there, and of what is to be put there
pub compared : (items received batch known sent batched : List Dealt) → EndsWith received batch
    → take (length received - length batch) received ≡ items → received ++ known ≡ sent
    → (rest : List Dealt) × (items ++ rest ≡ sent ++ batched)
compared items received batch known sent batched ends is same = (
  batch ++ (known ++ batched),
  ap (λ (l : List Dealt). l ++ (batch ++ (known ++ batched))) (sym is ∙ in_front received ends.0 batch ends.1)
      ∙ sym (append_assoc ends.0 batch (known ++ batched))
      ∙ ap (λ (l : List Dealt). l ++ (known ++ batched)) (sym ends.1)
      ∙ sym (append_assoc received known batched)
      ∙ ap (λ (l : List Dealt). l ++ batched) same,
)

-- the next item was given: of a batch, or of one that was taken then
pub given_next : (first batch later : List Dealt) (item : Dealt) (received : List Dealt) → received ≡ first ++ batch
    → batch ≡ item ∷ later → received ≡ (first ++ item ∷ []) ++ later
given_next first batch later item received is next =
    is ∙ ap (λ (l : List Dealt). first ++ l) next ∙ sym (append_assoc first (item ∷ []) later)
