-- Lists element by element: what stands at a place, pairs of which a relation holds, and two maps that agree.
use Rattle.std.proofs.Common.{◌≡◌, ◌∙◌, ℕ, zero, suc, ◌<◌, List, [], ◌∷◌, length, map, get_or, ap, subst, refl, arith}
use Rattle.gw_ports.specs.Running.{Pairwise}

-- what stands at a place of a list
pub there : {A : Type 0} (xs : List A) (k : ℕ) → k < length xs → (x : A) × ((d : A) → get_or xs k d ≡ x)
there [] k below = absurd (omega arith)
there (x ∷ xs) zero below = (x, λ d. refl)
there (x ∷ xs) (suc k) below = there xs k (omega arith)

-- a relation of two lists, at a place
pub pairwise_at : {A B : Type 0} (R : A → B → Type 0) (xs : List A) (ys : List B) (k : ℕ) (x : A) (y : B) → Pairwise R xs ys
    → k < length xs → ((d : A) → get_or xs k d ≡ x) → ((e : B) → get_or ys k e ≡ y) → R x y
pairwise_at R [] ys k x y pairs below is is' = absurd (omega arith)
pairwise_at R (x' ∷ xs) [] k x y pairs below is is' = absurd pairs
pairwise_at {A} {B} R (x' ∷ xs) (y' ∷ ys) zero x y pairs below is is' =
    subst (λ (a : A). R a y) (is x) (subst (λ (b : B). R x' b) (is' y) pairs.0)
pairwise_at R (x' ∷ xs) (y' ∷ ys) (suc k) x y pairs below is is' =
    pairwise_at R xs ys k x y pairs.1 (omega arith) is is'

-- each element of the third list is related to what stands at its place in the two others
abbrev pub Chosen : {A B C : Type 0} → (A → B → C → Type 0) → List A → List B → List C → Type 0
Chosen {A} {B} {C} Q xs ys cs = (k : ℕ) (x : A) (y : B) (c : C) → k < length xs → ((d : A) → get_or xs k d ≡ x)
    → ((e : B) → get_or ys k e ≡ y) → Q x y (get_or cs k c)

one_chosen : {A B C : Type 0} (Q : A → B → C → Type 0) (x : A) (xs : List A) (y : B) (ys : List B) (c : C) (cs : List C)
    → Q x y c → Chosen Q xs ys cs → (k : ℕ) (x' : A) (y' : B) (d : C) → k < length (x ∷ xs)
    → ((d : A) → get_or (x ∷ xs) k d ≡ x') → ((e : B) → get_or (y ∷ ys) k e ≡ y') → Q x' y' (get_or (c ∷ cs) k d)
one_chosen {A} {B} Q x xs y ys c cs here rest zero x' y' d below is is' =
    subst (λ (a : A). Q a y' c) (is x) (subst (λ (b : B). Q x b c) (is' y) here)
one_chosen Q x xs y ys c cs here rest (suc k) x' y' d below is is' = rest k x' y' d (omega arith) is is'

-- where each pair has something, there is a list of it
pub choose : {A B C : Type 0} (R : A → B → Type 0) (Q : A → B → C → Type 0) (xs : List A) (ys : List B)
    → ((x : A) (y : B) → R x y → (c : C) × Q x y c) → Pairwise R xs ys
    → (cs : List C) × (length cs ≡ length xs) × Chosen Q xs ys cs
choose R Q [] [] each pairs = ([], refl, λ k x y c below is is'. absurd (omega arith))
choose R Q [] (y ∷ ys) each pairs = absurd pairs
choose R Q (x ∷ xs) [] each pairs = absurd pairs
choose R Q (x ∷ xs) (y ∷ ys) each pairs =
    let here = each x y pairs.0 in
    let rest = choose R Q xs ys each pairs.1 in
    (here.0 ∷ rest.0, ap suc rest.1, one_chosen Q x xs y ys here.0 rest.0 here.1 rest.2)

-- two ways from the elements of a list to one value, which agree at each place
pub maps_agree : {A B C D : Type 0} (f : A → B) (g : B → D) (f' : A → C) (g' : C → D) (xs : List A)
    → ((k : ℕ) (x : A) → k < length xs → ((d : A) → get_or xs k d ≡ x) → g (f x) ≡ g' (f' x))
    → map g (map f xs) ≡ map g' (map f' xs)
maps_agree f g f' g' [] each = refl
maps_agree {A} {B} {C} {D} f g f' g' (x ∷ xs) each =
    ap (λ (d : D). d ∷ map g (map f xs)) (each zero x (omega arith) (λ d. refl))
    ∙ ap (λ (l : List D). g' (f' x) ∷ l)
    (maps_agree f g f' g' xs (λ k y below is. each (suc k) y (omega arith) is))

-- two maps in turn
pub map_twice : {A B C : Type 0} (f : A → B) (g : B → C) (h : A → C) → ((x : A) → g (f x) ≡ h x) → (xs : List A)
    → map g (map f xs) ≡ map h xs
map_twice f g h same [] = refl
map_twice {A} {B} {C} f g h same (x ∷ xs) =
    ap (λ (c : C). c ∷ map g (map f xs)) (same x) ∙ ap (λ (l : List C). h x ∷ l) (map_twice f g h same xs)
