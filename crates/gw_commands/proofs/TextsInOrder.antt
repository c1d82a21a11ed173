-- The texts of the elements of a list, one behind the other.
use Rattle.std.proofs.Common.{◌≡◌, ℕ, ◌+◌, ◌<◌, ◌≤◌, List, [], ◌∷◌, ◌++◌, length, take, get_or, append_assoc}
use Rattle.std.proofs.Common.{refl, ap, sym, ◌∙◌, subst}
use Rattle.std.proofs.lemmas.List.{append-nil, take_more, take_all}
use Rattle.gw_commands.specs.Differences.{Appends, IsTextOf}

-- one more behind those of the elements before
texts_more : {X : Type 0} (IsText : X → List ℕ → Type 0) (xs : List X) (x : X) (texts text : List ℕ) → IsTextOf IsText xs texts
    → IsText x text → IsTextOf IsText (xs ++ x ∷ []) (texts ++ text)
texts_more IsText [] x texts text none is =
    (text, [], is, refl, ap (λ t. t ++ text) none ∙ sym (append-nil text))
texts_more IsText (y ∷ more) x texts text told is =
    let first = told.0 in
    let rest = told.1 in (
      first,
      rest ++ text,
      told.2,
      texts_more IsText more x rest text told.3 is,
      ap (λ t. t ++ text) told.4
          ∙ append_assoc first rest text,
    )

-- no text was put behind another yet
pub none_appended : {X : Type 0} (IsText : X → List ℕ → Type 0) (before : List ℕ) → Appends (IsTextOf IsText []) before before
none_appended IsText before = ([], refl, sym (append-nil before))

-- those of the first elements were, and that of the next one
pub more_appended : {X : Type 0} (IsText : X → List ℕ → Type 0) (xs : List X) (n : ℕ) (x : X) (before now after : List ℕ)
    → n < length xs → x ≡ get_or xs n x → Appends (IsTextOf IsText (take n xs)) before now → Appends (IsText x) now after
    → Appends (IsTextOf IsText (take (n + 1) xs)) before after
more_appended IsText xs n x before now after within at so_far next =
    let texts = so_far.0 in
    let text = next.0 in
    let is = subst (λ y. IsText y text) at next.1 in
    let split = sym (take_more xs n x within) in
    let both = texts_more IsText (take n xs) (get_or xs n x) texts text so_far.1 is in (
      texts ++ text,
      subst (λ ys. IsTextOf IsText ys (texts ++ text)) split both,
      next.2 ∙ ap (λ t. t ++ text) so_far.2 ∙ append_assoc before texts text,
    )

-- those of all elements were
pub all_appended : {X : Type 0} (IsText : X → List ℕ → Type 0) (xs : List X) (n : ℕ) (before now : List ℕ) → length xs ≤ n
    → Appends (IsTextOf IsText (take n xs)) before now → Appends (IsTextOf IsText xs) before now
all_appended IsText xs n before now all told =
    subst (λ ys. Appends (IsTextOf IsText ys) before now) (take_all n xs all) told
