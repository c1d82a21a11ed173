-- The places that a path can reach without a store of a word, where the code begins with a known list.
use Rattle.std.proofs.Common.{All, ◌≡◌, ℕ, zero, suc, ◌+◌, ◌<◌, Bool, true, false, not, ◌&&◌, ◌||◌, List, [], ◌∷◌, ◌++◌, length}
use Rattle.std.proofs.Common.{Option, Some, None, inl, inr, sym, ap, subst, ◌∙◌, arith, eqb-true}
use Rattle.std.specs.Prelude.{slice_get, nat_eq}
use Rattle.std.proofs.lemmas.List.Elements.{All-head, All-tail}
use Rattle.std.proofs.lemmas.Bool.{and_parts, or_cases, false≢true}
use Rattle.gw_insn.specs.Form.{Form, LoadScratch, Store, Jump, Branch, ReturnConstant, ReturnA}
use Rattle.gw_verify.specs.Flow.{Forms, HasAt, LeadsTo, IsNext, Walks, IsPath, Stores, StoresAt, Loads, IsBare}

module _ (test : ℕ → Bool) (word : ℕ) where
  -- the instruction at a place loads no word, and stores the word or leads to places that pass the test
  abbrev pub passes_on : ℕ → Option Form → Bool
  passes_on place None = false
  passes_on place (Some (LoadScratch register k)) = false
  passes_on place (Some (Store register k)) = nat_eq k word || test (place + 1)
  passes_on place (Some (ReturnConstant k)) = true
  passes_on place (Some ReturnA) = true
  passes_on place (Some (Jump k)) = test (place + 1 + k)
  passes_on place (Some (Branch comparison operand jt jf)) = test (place + 1 + jt) && test (place + 1 + jf)
  passes_on place (Some _) = test (place + 1)

  -- each place of these that passes the test does so
  abbrev pub all_pass_on : ℕ → Forms → Bool
  all_pass_on place [] = true
  all_pass_on place (form ∷ forms) = (not (test place) || passes_on place form) && all_pass_on (place + 1) forms

  -- where an instruction stores no word and the place after it passes, the test passes on
  leads_on : (insn : Form) (i j : ℕ) → passes_on i (Some insn) ≡ true → (Stores insn word → ⊥) → LeadsTo insn i j → test j ≡ true
  leads_on insn i j = by insn
    where
      at : (k : ℕ) → test k ≡ true → j ≡ k → test j ≡ true
      at k e l = subst (λ n. test n ≡ true) (sym l) e

      by : (insn : Form) → passes_on i (Some insn) ≡ true → (Stores insn word → ⊥) → LeadsTo insn i j → test j ≡ true
      by (LoadScratch r k) e s l = absurd (false≢true e)
      by (Store r k) e s l = elim (or_cases (nat_eq k word) (test (i + 1)) e) [
        | inl same ↦
            absurd (s (eqb-true k word same))
        | inr on ↦ at (i + 1) on l
      ]
      by (ReturnConstant k) e s l = absurd l
      by ReturnA e s l = absurd l
      by (Jump k) e s l = at (i + 1 + k) e l
      by (Branch c o jt jf) e s (inl l) = at (i + 1 + jt) (and_parts (test (i + 1 + jt)) (test (i + 1 + jf)) e).0 l
      by (Branch c o jt jf) e s (inr l) = at (i + 1 + jf) (and_parts (test (i + 1 + jt)) (test (i + 1 + jf)) e).1 l
      by _ e s l = at (i + 1) e l

  -- the test at a place of the front
  passes_at : (front rest : Forms) (place i : ℕ) (insn : Form) → all_pass_on place front ≡ true → i < length front
      → slice_get (front ++ rest) i ≡ Some (Some insn) → test (place + i) ≡ true → passes_on (place + i) (Some insn) ≡ true
  passes_at [] rest place i insn all l here passes = absurd (omega arith)
  passes_at (form ∷ front) rest place zero insn all l here passes =
      let at : place + 0 ≡ place = omega arith in
      let same : form ≡ Some insn = cc in
      let parts = and_parts (not (test place) || passes_on place form) (all_pass_on (place + 1) front) all in
      let passes' = subst (λ n. test n ≡ true) at passes in
      elim (or_cases (not (test place)) (passes_on place form) parts.0) [
        | inl fails ↦ absurd (false≢true (sym (ap not passes') ∙ fails))
        | inr on ↦ subst (λ n. passes_on n (Some insn) ≡ true) (sym at) (subst (λ o. passes_on place o ≡ true) same on)
      ]
  passes_at (form ∷ front) rest place (suc i) insn all l here passes =
      let at : place + suc i ≡ place + 1 + i = omega arith in
      let parts = and_parts (not (test place) || passes_on place form) (all_pass_on (place + 1) front) all in
      subst (λ n. passes_on n (Some insn) ≡ true) (sym at) (passes_at front rest (place + 1) i insn parts.1 (omega arith) here
      (subst (λ n. test n ≡ true) at passes))

  module _ (front rest : Forms) (first : test 0 ≡ true) (all : all_pass_on 0 front ≡ true) (within : (i : ℕ) → test i ≡ true
      → i < length front) where
    here_passes : (i : ℕ) (insn : Form) → HasAt (front ++ rest) i insn → test i ≡ true → passes_on i (Some insn) ≡ true
    here_passes i insn here passes =
        let at : 0 + i ≡ i = omega arith in
        let on = passes_at front rest 0 i insn all (within i passes) here (subst (λ n. test n ≡ true) (sym at) passes) in
        subst (λ n. passes_on n (Some insn) ≡ true) at on

    -- the test passes along each path that leaves the word unset
    next_passes : (i j : ℕ) → test i ≡ true → (StoresAt (front ++ rest) i word → ⊥) → IsNext (front ++ rest) i j → test j ≡ true
    next_passes i j passes unset next =
        leads_on next.insn i j (here_passes i next.insn next.here passes)
        (λ stores. unset (record { insn = next.insn; here = next.here; stores = stores })) next.leads

    along : (i : ℕ) (js : List ℕ) (j : ℕ) → test i ≡ true → Walks (front ++ rest) i (js ++ j ∷ [])
        → All (λ k. StoresAt (front ++ rest) k word → ⊥) (i ∷ js) → test j ≡ true
    along i [] j passes walks unset = next_passes i j passes (All-head (λ k. StoresAt (front ++ rest) k word → ⊥) i [] unset)
        walks.0
    along i (k ∷ js) j passes walks unset =
        let first = All-head (λ n. StoresAt (front ++ rest) n word → ⊥) i (k ∷ js) unset in
        along k js j (next_passes i k passes first walks.0) walks.1 (All-tail (λ n. StoresAt (front ++ rest) n word
        → ⊥) i (k ∷ js) unset)

    -- so it passes at each place that such a path comes to
    bare_passes : (i : ℕ) → IsBare (front ++ rest) i word → test i ≡ true
    bare_passes i bare = by bare.to.earlier (subst (IsPath (front ++ rest)) bare.to.ends bare.to.path) bare.to.unset
      where
        by : (earlier : List ℕ) → IsPath (front ++ rest) (earlier ++ i ∷ [])
            → All (λ k. StoresAt (front ++ rest) k word → ⊥) earlier → test i ≡ true
        by [] path unset = subst (λ n. test n ≡ true) (sym path.0) first
        by (k ∷ ks) path unset = along k ks i (subst (λ n. test n ≡ true) (sym path.0) first) path.2 unset

    -- no place that is bare of the word loads a word
    pub no_bare_load : (i : ℕ) (insn : Form) → HasAt (front ++ rest) i insn → Loads insn word → IsBare (front ++ rest) i word → ⊥
    no_bare_load i insn here loads bare = by insn loads (here_passes i insn here (bare_passes i bare))
      where
        by : (insn : Form) → Loads insn word → passes_on i (Some insn) ≡ true → ⊥
        by (LoadScratch r k) l e = false≢true e
        by _ l e = l
