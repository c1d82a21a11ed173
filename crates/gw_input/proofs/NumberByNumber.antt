-- Whoever writes a line for each number: the lines so far, with one more.
use Rattle.std.proofs.Common.{◌≡◌, ℕ, zero, suc, ◌+◌, List, [], ◌∷◌, ◌++◌, flat_map}
use Rattle.std.proofs.Common.{ap, sym, ◌∙◌, add-zero, add-one, zero-add, append_assoc, arith}
use Rattle.std.specs.List.{range_with_len}
use Rattle.std.proofs.lemmas.List.{append-nil}
use Rattle.std.proofs.lemmas.Grind.{flat_map-append}

-- the numbers from one on, with one more
pub range_more : (a n : ℕ) → range_with_len a (suc n) ≡ range_with_len a n ++ (a + n) ∷ []
range_more a zero = ap (λ m. m ∷ []) (sym (add-zero a))
range_more a (suc n) =
    let next : (a + 1) + n ≡ a + suc n = omega arith in
    ap (λ all. a ∷ all) (range_more (a + 1) n ∙ ap (λ m. range_with_len (a + 1) n ++ m ∷ []) next)

-- the numbers from one on, in two parts
pub range_apart : (a n k : ℕ) → range_with_len a (n + k) ≡ range_with_len a n ++ range_with_len (a + n) k
range_apart a zero k = ap (range_with_len a) (zero-add k) ∙ ap (λ m. range_with_len m k) (sym (add-zero a))
range_apart a (suc n) k =
    let more : suc n + k ≡ suc (n + k) = omega arith in
    let next : (a + 1) + n ≡ a + suc n = omega arith in
    ap (range_with_len a) more
    ∙ ap (λ all. a ∷ all) (range_apart (a + 1) n k ∙ ap (λ m. range_with_len (a + 1) n ++ range_with_len m k) next)

-- a text of lines, with the line of one number more
pub lines_more : (f : ℕ → List ℕ) (n : ℕ) → flat_map f (range_with_len 0 (n + 1)) ≡ flat_map f (range_with_len 0 n) ++ f n
lines_more f n =
    ap (flat_map f) (ap (range_with_len 0) (add-one n) ∙ range_more 0 n ∙ ap (λ m. range_with_len 0 n ++ m ∷ []) (zero-add n))
    ∙ flat_map-append f (range_with_len 0 n) (n ∷ [])
    ∙ ap (λ last. flat_map f (range_with_len 0 n) ++ last) (append-nil (f n))

-- a text behind another, with the line of one number more
pub line_more : (f : ℕ → List ℕ) (n : ℕ) (before now line text : List ℕ) → now ≡ before ++ flat_map f (range_with_len 0 n)
    → line ≡ f n → text ≡ now ++ line → text ≡ before ++ flat_map f (range_with_len 0 (n + 1))
line_more f n before now line text so_far is more =
    more ∙ ap (λ t. t ++ line) so_far ∙ append_assoc before (flat_map f (range_with_len 0 n)) line
    ∙ ap (λ last. before ++ (flat_map f (range_with_len 0 n) ++ last)) is ∙ ap (λ t. before ++ t) (sym (lines_more f n))
