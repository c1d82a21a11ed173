-- A fate more in a list, and one element of a list replaced.
use Rattle.std.proofs.Common.{◌≡◌, ℕ, ◌+◌, ◌≤◌, ◌<◌, ◌==◌, Bool, true, false, not, cond, eqb, List, [], ◌∷◌, ◌++◌}
use Rattle.std.proofs.Common.{length, get_or, set, refl, sym, ap, ◌∙◌, subst, arith, inl, inr}
use Rattle.std.specs.Prelude.{if◌then◌else◌}
use Rattle.std.specs.List.{filter, position_or_len}
use Rattle.std.proofs.lemmas.Bool.{eqb-true, eqb-false, eq-eqb, ne_eqb, cases_lt, lt-ltb, le-ltb}
use Rattle.std.proofs.lemmas.List.{length-append, get_or-set_same, get_or-set_other}
use Rattle.std.proofs.lemmas.List.Elements.{filter-append}
use Rattle.std.proofs.lemmas.List.Folds.{position_or_len_push}
use Rattle.std.proofs.lemmas.List.Sums.{prefix_len-le-length}
use Rattle.gw_judge.specs.declared.fate.Fate.{Fate}
use Rattle.gw_judge.specs.Tallies.{up_to_most, count_of, number_at, first_of}

pub saturates : (n : ℕ) → up_to_most (n + 1) ≡ up_to_most (up_to_most n + 1)
saturates n = omega arith

-- ---- a fate more that passes a test, or does not

pub more_of : (test : Fate → Bool) (fates : List Fate) (f : Fate)
    → length (filter test (fates ++ f ∷ [])) ≡ length (filter test fates) + (if test f then 1 else 0)
more_of test fates f =
    ap length (filter-append test fates (f ∷ [])) ∙ length-append (filter test fates) (filter test (f ∷ []))
    ∙ ap (λ n. length (filter test fates) + n) (go (test f))
  where
    go : (b : Bool) → length (if b then f ∷ [] else []) ≡ (if b then 1 else 0)
    go true = refl
    go false = refl

pub up_more : (b : Bool) (n : ℕ)
    → up_to_most (n + (if b then 1 else 0)) ≡ (if b then up_to_most (up_to_most n + 1) else up_to_most n)
up_more true n = saturates n
up_more false n = ap up_to_most (omega arith)

pub count_more : (test : Fate → Bool) (fates : List Fate) (f : Fate)
    → count_of test (fates ++ f ∷ []) ≡ (if test f then up_to_most (count_of test fates + 1) else count_of test fates)
unfolding count_of
count_more test fates f = ap up_to_most (more_of test fates f) ∙ up_more (test f) (length (filter test fates))

first_step : (b : Bool) (at n : ℕ) → at ≤ n → number_at (cond (eqb at n) (n + cond b 0 1) at) (n + 1)
    ≡ (if b then (if number_at at n == 0 then up_to_most (n + 1) else number_at at n) else number_at at n)
first_step b at n within =
    elim (cases_lt at n) [
      | inl below ↦
          let some : (up_to_most (at + 1) == 0) ≡ false = ne_eqb (up_to_most (at + 1)) 0 (λ e. omega arith) in
          rw (ne_eqb at n (λ e. omega arith), lt-ltb at (n + 1) (omega arith), lt-ltb at n below, some)
          (same b (up_to_most (at + 1)))
      | inr above ↦
          let at_end : at ≡ n = omega arith in
          rw (at_end, eq-eqb n n refl, le-ltb n n (omega arith)) (last b n)
    ]
  where
    same : (b : Bool) (k : ℕ) → k ≡ (if b then k else k)
    same true k = refl
    same false k = refl

    last : (b : Bool) (n : ℕ) → number_at (n + cond b 0 1) (n + 1) ≡ (if b then up_to_most (n + 1) else 0)
    last true n = rw (lt-ltb (n + 0) (n + 1) (omega arith)) (ap up_to_most (omega arith))
    last false n = rw (le-ltb (n + 1) (n + 1) (omega arith)) refl

pub first_more : (test : Fate → Bool) (fates : List Fate) (f : Fate) → first_of test (fates ++ f ∷ [])
    ≡ (if test f then (if first_of test fates == 0 then up_to_most (length fates + 1) else first_of test fates)
    else first_of test fates)
unfolding first_of
first_more test fates f =
    rw (position_or_len_push test fates f, length-append fates (f ∷ []))
    (first_step (test f) (position_or_len test fates) (length fates) (prefix_len-le-length (λ fate. not (test fate)) fates))

-- one element is replaced
pub get_set : {A : Type 0} (xs : List A) (i j : ℕ) (g : A → A) (d : A) → j < length xs
    → get_or (set xs i (g (get_or xs i d))) j d ≡ (if i == j then g (get_or xs j d) else get_or xs j d)
get_set xs i j g d within = go (i == j) refl
  where
    go : (b : Bool) → (i == j) ≡ b
        → get_or (set xs i (g (get_or xs i d))) j d ≡ (if b then g (get_or xs j d) else get_or xs j d)
    go true same =
        subst (λ k. get_or (set xs k (g (get_or xs k d))) j d ≡ g (get_or xs j d)) (sym (eqb-true i j same))
        (get_or-set_same xs j (g (get_or xs j d)) d within)
    go false other = get_or-set_other xs i j (g (get_or xs i d)) d (λ (e : j ≡ i). eqb-false i j other (sym e))
