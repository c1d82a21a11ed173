-- What was written so far, with one more piece.
use Rattle.std.proofs.Common.{ℕ, ◌+◌, List, ◌++◌, take, drop, take-add, Option, Some, None, sym, ap, ◌∙◌, append_assoc}
use Rattle.std.specs.Io.KnownBytes.{Appends}

-- one piece of a text written behind another
pub more_written : (a b c : Option (List ℕ)) (at n : ℕ) (xs : List ℕ) → Appends a b (take at xs)
    → Appends b c (take n (drop at xs)) → Appends a c (take (at + n) xs)
more_written None b c at n xs h k = tt
more_written (Some p) None c at n xs h k = absurd h
more_written (Some p) (Some q) None at n xs h k = absurd k
more_written (Some p) (Some q) (Some r) at n xs h k =
    k ∙ ap (λ ys. ys ++ take n (drop at xs)) h ∙ append_assoc p (take at xs) (take n (drop at xs))
    ∙ ap (λ ys. p ++ ys) (sym (take-add at n xs))
