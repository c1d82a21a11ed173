-- What sinks count that are handed the outcomes of a run.
use Rattle.std.proofs.Common.{◌≡◌, ℕ, zero, suc, ◌+◌, ◌<◌, ◌≤◌, List, [], ◌∷◌, ◌++◌, length, All, subst, ◌≢◌, append_assoc, arith}
use Rattle.std.proofs.Common.{get_or, get_or-set_other, get_or-set_same, set, sym, ⊎_elim}
use Rattle.std.proofs.lemmas.Bool.{cases_eq}
use Rattle.std.proofs.lemmas.List.{append-nil}
use Rattle.std.specs.List.{AllZip}
use Rattle.gw_ledger.specs.declared.outcome.Outcome.{Outcome}
use Rattle.gw_ports.specs.Sinks.{AllHanded, Handed}
use Rattle.gw_run.specs.declared.losses.Losses.{Losses}
use Rattle.gw_run.specs.Tallies.{AreLosses, CountsOutcome}

-- a sink that was handed outcomes counts them behind those that it counted
pub all_counted : (ports : ℕ) (before after : List Outcome) (old new : Losses) → AreLosses ports before old
    → Handed CountsOutcome old after new → AreLosses ports (before ++ after) new
all_counted ports before [] old new is handed =
    subst (λ (losses : Losses). AreLosses ports (before ++ []) losses) (sym handed)
    (subst (λ (list : List Outcome). AreLosses ports list old) (sym (append-nil before)) is)
all_counted ports before (outcome ∷ after) old new is handed =
    subst (λ (list : List Outcome). AreLosses ports list new) (append_assoc before (outcome ∷ []) after)
    (all_counted ports (before ++ outcome ∷ []) after handed.0 new (handed.1 ports before is) handed.2)

-- the sinks of all ports
pub losses_handed : (ports : ℕ) (olds news : List Losses) (lists : List (List Outcome)) → All (AreLosses ports []) olds
    → AllHanded CountsOutcome olds lists news → AllZip (AreLosses ports) lists news
losses_handed ports [] [] [] empty handed = tt
losses_handed ports (old ∷ olds) (new ∷ news) (list ∷ lists) empty handed = (
  all_counted ports [] list old new (empty zero old (omega arith)) handed.0,
  losses_handed ports olds news lists (λ k d below. empty (suc k) d (omega arith)) handed.1,
)
losses_handed ports [] (new ∷ news) [] empty handed = absurd handed
losses_handed ports [] (new ∷ news) (list ∷ lists) empty handed = absurd handed
losses_handed ports [] [] (list ∷ lists) empty handed = absurd handed
losses_handed ports (old ∷ olds) [] [] empty handed = absurd handed
losses_handed ports (old ∷ olds) [] (list ∷ lists) empty handed = absurd handed
losses_handed ports (old ∷ olds) (new ∷ news) [] empty handed = absurd handed

-- a list whose elements are changed one after another: one more is as it shall be, and those behind it are as they were
pub one_changed : {A : Type 0} (Done Before : ℕ → A → Type 0) (xs : List A) (i n : ℕ) (new e : A) → length xs ≡ n → i < n
    → (Before i (get_or xs i e) → Done i new)
    → ((k : ℕ) (d : A) → k < n → (k < i → Done k (get_or xs k d)) × (i ≤ k → Before k (get_or xs k d)))
    → (k : ℕ) (d : A) → k < n
    → (k < i + 1 → Done k (get_or (set xs i new) k d)) × (i + 1 ≤ k → Before k (get_or (set xs i new) k d))
one_changed {A} Done Before xs i n new e size inside change so_far k d within = (
  λ below.
      ⊎_elim
      (λ (here : k ≡ i).
      subst (λ m. Done m (get_or (set xs i new) m d)) (sym here)
      (subst (Done i) (sym (get_or-set_same xs i new d (omega arith))) (change ((so_far i e inside).1 (omega arith)))))
      (λ (apart : k ≢ i). subst (Done k) (sym (get_or-set_other xs i k new d apart)) ((so_far k d within).0 (omega arith)))
      (cases_eq k i),
  λ behind.
      let apart : k ≢ i = omega arith in
      subst (Before k) (sym (get_or-set_other xs i k new d apart)) ((so_far k d within).1 (omega arith)),
)
