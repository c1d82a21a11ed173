-- Lists that one more item is pushed on.
use Rattle.std.proofs.Common.{◌++◌, ◌∷◌, [], List, suc, zero, arith}
use Rattle.std.specs.List.{All}

-- what holds of each element and of one more
pub All-push : {A : Type 0} (P : A → Type 0) (xs : List A) (x : A) → All P xs → P x → All P (xs ++ x ∷ [])
All-push P [] x all p zero d lt = p
All-push P [] x all p (suc k) d lt = absurd (omega arith)
All-push P (y ∷ xs) x all p zero d lt = all 0 d (omega arith)
All-push P (y ∷ xs) x all p (suc k) d lt = All-push P xs x (λ i e l. all (suc i) e (omega arith)) p k d (omega arith)
