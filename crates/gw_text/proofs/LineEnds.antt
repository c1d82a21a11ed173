-- The lines of a text, one after another.
use Rattle.std.proofs.Common.{◌≡◌, ℕ, ◌+◌, ◌-◌, ◌<◌, ◌≤◌, Bool, true, false, ◌==◌, List, [], ◌∷◌, ◌++◌, length, take}
use Rattle.std.proofs.Common.{drop, refl, sym, ap, ◌∙◌, arith, length-drop, append_assoc}
use Rattle.std.specs.List.{position_or_len, slice_split, onto_first}
use Rattle.std.proofs.lemmas.List.{drop-drop}
use Rattle.std.proofs.lemmas.List.Splits.{slice_split_first}
use Rattle.gw_text.proofs.FormTable.{all_taken}

abbrev is_end : ℕ → Bool
is_end c = c == 10

-- the line that ends at the next line end
pub next_line : (text : List ℕ) (found : List (List ℕ)) (from end : ℕ) (piece : List ℕ) (whole : List (List ℕ))
    → from ≤ length text
    → end ≡ from + position_or_len is_end (drop from text) → end < length text → piece ≡ take (end - from) (drop from text)
    → found ++ slice_split is_end (drop from text) ≡ whole → (found ++ piece ∷ []) ++ slice_split is_end (drop (end + 1) text)
    ≡ whole
next_line text found from end piece whole begins ends within part so =
    let n = position_or_len is_end (drop from text) in
    let long : length (drop from text) ≡ length text - from = length-drop from text in
    let size : end - from ≡ n = omega arith in
    let behind : drop (end + 1) text ≡ drop (n + 1) (drop from text) =
    let e : end + 1 ≡ from + (n + 1) = omega arith in ap (λ k. drop k text) e ∙ sym (drop-drop (n + 1) from text) in
    let cut : slice_split is_end (drop from text) ≡ take n (drop from text) ∷ slice_split is_end (drop (n + 1) (drop from text)) =
    slice_split_first is_end (drop from text) 0 (omega arith) in
    let here : piece ≡ take n (drop from text) = part ∙ ap (λ k. take k (drop from text)) size in
    append_assoc found (piece ∷ []) (slice_split is_end (drop (end + 1) text))
    ∙ ap (λ ls. found ++ ls) (rw (here, behind) (sym cut)) ∙ so

one_part_more : (x : ℕ) (xs : List ℕ) (b : Bool) → is_end x ≡ b
    → (position_or_len is_end xs ≡ length xs → slice_split is_end xs ≡ xs ∷ [])
    → position_or_len is_end (x ∷ xs) ≡ length (x ∷ xs) → slice_split is_end (x ∷ xs) ≡ (x ∷ xs) ∷ []
one_part_more x xs true e more h =
    let here : position_or_len is_end (x ∷ xs) ≡ 0 = rw e in absurd (let none : 0 ≡ length (x ∷ xs) = sym here ∙ h in omega arith)
one_part_more x xs false e more h =
    let behind : position_or_len is_end (x ∷ xs) ≡ 1 + position_or_len is_end xs = rw e in
    let some : 1 + position_or_len is_end xs ≡ length (x ∷ xs) = sym behind ∙ h in
    rw e (ap (onto_first x) (more (omega arith)))

-- a text without a line end is one line
one_part : (xs : List ℕ) → position_or_len is_end xs ≡ length xs → slice_split is_end xs ≡ xs ∷ []
one_part [] h = refl
one_part (x ∷ xs) h = one_part_more x xs (is_end x) refl (one_part xs) h

-- the line behind the last line end
pub last_line : (text : List ℕ) (found : List (List ℕ)) (from end : ℕ) (piece : List ℕ) (whole : List (List ℕ))
    → from ≤ length text
    → end ≡ from + position_or_len is_end (drop from text) → end ≤ length text → length text ≤ end
    → piece ≡ take (length text - from) (drop from text)
    → found ++ slice_split is_end (drop from text) ≡ whole → found ++ piece ∷ [] ≡ whole
last_line text found from end piece whole begins ends within past part so =
    let long : length (drop from text) ≡ length text - from = length-drop from text in
    let here : piece ≡ drop from text = part ∙ ap (λ k. take k (drop from text)) (sym long) ∙ all_taken (drop from text) in
    ap (λ p. found ++ p ∷ []) here ∙ ap (λ ls. found ++ ls) (sym (one_part (drop from text) (omega arith))) ∙ so
