-- Two lists, place by place, while the second one is made of the first.
use Rattle.std.proofs.Common.{◌≡◌, ℕ, ◌+◌, ◌<◌, ◌≤◌, List, [], ◌∷◌, ◌++◌, length, take, get_or, sym, subst}
use Rattle.std.specs.Prelude.{All}
use Rattle.std.specs.List.{AllZip}
use Rattle.std.proofs.lemmas.List.{take_more, take_all}
use Rattle.std.proofs.lemmas.List.Elements.{All-cons, All-nil}

-- one more behind each
zip_push : {X Y : Type 0} (R : X → Y → Type 0) (xs : List X) (ys : List Y) (x : X) (y : Y) → AllZip R xs ys → R x y
    → AllZip R (xs ++ x ∷ []) (ys ++ y ∷ [])
zip_push R [] [] x y none more = (more, tt)
zip_push R [] (b ∷ bs) x y none more = absurd none
zip_push R (a ∷ rest) [] x y none more = absurd none
zip_push R (a ∷ rest) (b ∷ bs) x y both more = (both.0, zip_push R rest bs x y both.1 more)

-- the first elements, and the next one
pub zip_more : {X Y : Type 0} (R : X → Y → Type 0) (xs : List X) (n : ℕ) (x : X) (ys : List Y) (y : Y) → n < length xs
    → x ≡ get_or xs n x → AllZip R (take n xs) ys → R x y → AllZip R (take (n + 1) xs) (ys ++ y ∷ [])
zip_more R xs n x ys y within at so_far more =
    subst (λ l. AllZip R l (ys ++ y ∷ [])) (sym (take_more xs n x within))
    (zip_push R (take n xs) ys (get_or xs n x) y so_far (subst (λ it. R it y) at more))

-- all elements
pub zip_all : {X Y : Type 0} (R : X → Y → Type 0) (xs : List X) (n : ℕ) (ys : List Y) → length xs ≤ n → AllZip R (take n xs) ys
    → AllZip R xs ys
zip_all R xs n ys all both = subst (λ l. AllZip R l ys) (take_all n xs all) both

-- each element of the first has one of the second
pub all_left : {X Y : Type 0} (R : X → Y → Type 0) (xs : List X) (ys : List Y) → AllZip R xs ys → All (λ x. (y : Y) × R x y) xs
all_left {X} {Y} R [] [] none = All-nil (λ x. (y : Y) × R x y)
all_left R [] (b ∷ bs) none = absurd none
all_left R (a ∷ rest) [] none = absurd none
all_left {X} {Y} R (a ∷ rest) (b ∷ bs) both = All-cons (λ x. (y : Y) × R x y) a rest (b, both.0) (all_left R rest bs both.1)
