-- What is partial of octets that come in pieces.
use Rattle.std.proofs.Common.{◌≡◌, ℕ, ◌+◌, ◌-◌, ◌≤◌, ◌<◌, min, List, [], ◌++◌, length, length-append, length-take, take, drop}
use Rattle.std.proofs.Common.{sym, ap, ◌∙◌, subst, arith}
use Rattle.std.proofs.Math.Nat.{min-le_left, min-le_right, min_comm}
use Rattle.std.proofs.lemmas.Bool.Decides.{nat_tests}
use Rattle.std.proofs.lemmas.List.{take_all, take_min, length-take-le}
use Rattle.std.proofs.Math.Seq.{take-append-add, take-append_seam, drop-append-add}

-- a piece behind octets, in front of what stands there
pub joined : (a rest piece : List ℕ) (more most : ℕ) → length a ≤ most → more ≡ min (length piece) (most - length a)
    → take (length a + more) (a ++ (take more piece ++ rest)) ≡ take most (a ++ piece)
joined a rest piece more most fits is =
    take-append-add a (take more piece ++ rest) more ∙ ap (λ xs. a ++ xs) (part piece rest more (most - length a) is)
    ∙ sym (take-append-add a piece (most - length a)) ∙ ap (λ n. take n (a ++ piece)) (back (length a) most fits)
  where
    back : (n m : ℕ) → n ≤ m → n + (m - n) ≡ m
    back n m h = omega arith

    front : (a rest : List ℕ) (n : ℕ) → length a ≡ n → take n (a ++ rest) ≡ a
    front a rest n e = ap (λ m. take m (a ++ rest)) (sym e) ∙ take-append_seam a rest

    part : (piece rest : List ℕ) (more room : ℕ) → more ≡ min (length piece) room
        → take more (take more piece ++ rest) ≡ take room piece
    part piece rest more room is =
        let there : more ≤ length piece = subst (λ n. n ≤ length piece) (sym is) (min-le_left (length piece) room) in
        front (take more piece) rest more (length-take-le more piece there)
        ∙ ap (λ n. take n piece) (is ∙ min_comm (length piece) room) ∙ take_min room piece

-- the same of octets that are partial in front of an array
pub joined_at : (a ys rest piece : List ℕ) (len more most : ℕ) → length a ≡ len → len ≤ most
    → more ≡ min (length piece) (most - len) → ys ≡ take more piece
    → take (len + more) (a ++ (ys ++ rest)) ≡ take most (a ++ piece)
joined_at a ys rest piece len more most is fits room same =
    ap (λ n. take (n + more) (a ++ (ys ++ rest))) (sym is) ∙ ap (λ xs. take (length a + more) (a ++ (xs ++ rest))) same
    ∙ joined a rest piece more most (subst (λ n. n ≤ most) (sym is) fits)
    (room ∙ ap (λ n. min (length piece) (most - n)) (sym is))

-- octets joined to nothing
pub alone : (most : ℕ) (xs : List ℕ) → length xs ≤ most → take most ([] ++ xs) ≡ xs
alone most xs h = take_all most xs h

-- what stands behind octets that are partial and a piece
pub drop_behind : (n : ℕ) (partial piece : List ℕ) → length partial ≤ n
    → drop n (partial ++ piece) ≡ drop (n - length partial) piece
drop_behind n partial piece h =
    ap (λ m. drop m (partial ++ piece)) (parted (length partial) n h) ∙ drop-append-add partial piece (n - length partial)
  where
    parted : (m n : ℕ) → m ≤ n → n ≡ m + (n - m)
    parted m n h = omega arith

-- a front that is as long as was asked for
pub long_enough : (n m : ℕ) (partial piece front : List ℕ) → front ≡ take n (partial ++ piece) → m ≤ length front
    → m ≤ length partial + length piece
long_enough n m partial piece front e h =
    bound (length front) (length (partial ++ piece)) m
    (subst (λ k. k ≤ length (partial ++ piece)) (sym (ap length e ∙ length-take n (partial ++ piece)))
    (min-le_right n (length (partial ++ piece)))) h (length-append partial piece)
  where
    bound : (a b m : ℕ) {c : ℕ} → a ≤ b → m ≤ a → b ≡ c → m ≤ c
    bound a b m h k e = omega arith

-- a front that is shorter than was asked for is all
pub short_front : (n : ℕ) (xs front : List ℕ) → front ≡ take n xs → length front < n → (front ≡ xs) × (length xs < n)
short_front n xs front e h = (e ∙ take_all n xs (at_most n (length xs) less), less)
  where
    less_by : (n m : ℕ) → min n m < n → m < n
    less_by n m h = grind (arith, nat_tests)

    at_most : (n m : ℕ) → m < n → m ≤ n
    at_most n m h = omega arith

    less : length xs < n
    less = less_by n (length xs) (subst (λ k. k < n) (ap length e ∙ length-take n xs) h)
