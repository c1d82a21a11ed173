-- Where bare places come from.
use Rattle.std.proofs.Common.{◌≡◌, ℕ, ◌+◌, ◌<◌, ◌≤◌, ◌⊎◌, inl, inr, List, [], ◌∷◌, ◌++◌, All, length, Some, None, sym, subst}
use Rattle.std.proofs.Common.{arith}
use Rattle.std.specs.Prelude.{slice_get}
use Rattle.std.proofs.lemmas.Bool.{cases_eq}
use Rattle.std.proofs.lemmas.List.Elements.{All-head, All-tail}
use Rattle.gw_insn.specs.Form.{Form}
use Rattle.gw_verify.specs.Flow.{Forms, HasAt, LeadsTo, IsNext, Walks, IsPath, Stores, StoresAt, PassesBy, IsBare}
use Rattle.gw_verify.proofs.FlowLaws.{leads_forward, bare_start, bare_on}
use Rattle.gw_verify.proofs.Decoding.{one_form, no_form}

-- each next place is a later one
pub next_forward : (forms : Forms) (i j : ℕ) → IsNext forms i j → i < j
next_forward forms i j n = leads_forward n.insn i j n.leads

module _ (forms : Forms) (word i j : ℕ) where
  -- a step from place i by the instruction that stands there
  pub step : (insn : Form) → HasAt forms i insn → LeadsTo insn i j → j < length forms → (Stores insn word → ⊥)
      → PassesBy forms word i j
  step insn here leads inside unset = record {
    next = record { insn = insn; here = here; leads = leads; inside = inside };
    unset = λ s. unset (subst (λ x. Stores x word) (one_form forms i s.insn insn s.here here) s.stores);
  }

  -- and back: what the instruction there leads to, and that it stores another word
  pub step_leads : (insn : Form) → HasAt forms i insn → PassesBy forms word i j → LeadsTo insn i j
  step_leads insn here p =
      subst (λ x. LeadsTo x i j) (one_form forms i p.next.insn insn p.next.here here) p.next.leads

  pub step_unset : (insn : Form) → HasAt forms i insn → PassesBy forms word i j → Stores insn word → ⊥
  step_unset insn here p stores = p.unset (record { insn = insn; here = here; stores = stores })

  -- an unknown code leads nowhere
  pub no_step : slice_get forms i ≡ Some None → PassesBy forms word i j → ⊥
  no_step unknown p = no_form forms i p.next.insn unknown p.next.here

-- what a pass over the places below n knows of place j: it is the first one, or may follow a bare one of them
pub data Reached (forms : Forms) (word n j : ℕ) : Type 0 where
  at_start : j ≡ 0 → Reached forms word n j
  from : (i : ℕ) → i < n → IsBare forms i word → PassesBy forms word i j → Reached forms word n j

-- what is known stays known
pub reached_more : (forms : Forms) (word m n j : ℕ) → m ≤ n → Reached forms word m j → Reached forms word n j
reached_more forms word m n j h (at_start e) = at_start e
reached_more forms word m n j h (from i l b p) = from i (omega arith) b p

-- one place more
pub reached_cases : (forms : Forms) (word i j : ℕ) → Reached forms word (i + 1) j
    → Reached forms word i j ⊎ IsBare forms i word × PassesBy forms word i j
reached_cases forms word i j (at_start e) = inl (at_start e)
reached_cases forms word i j (from k l b p) = elim (cases_eq k i) [
  | inl e ↦ inr (subst (λ n. IsBare forms n word) e b, subst (λ n. PassesBy forms word n j) e p)
  | inr ne ↦ inl (from k (omega arith) b p)
]

-- what the pass knows is bare ..
pub bare_from_reached : (forms : Forms) (word n j : ℕ) → 0 < length forms → Reached forms word n j
    → IsBare forms j word
bare_from_reached forms word n j some (at_start e) =
    subst (λ i. IsBare forms i word) (sym e) (bare_start forms word some)
bare_from_reached forms word n j some (from i l b p) = bare_on forms word i j b p.unset p.next

abbrev LeavesUnset : Forms → ℕ → ℕ → Type 0
LeavesUnset forms word i = StoresAt forms i word → ⊥

-- along the places after a bare one
reached_along : (forms : Forms) (word i : ℕ) (js : List ℕ) (j : ℕ) → IsBare forms i word
    → Walks forms i (js ++ j ∷ []) → All (LeavesUnset forms word) (i ∷ js) → Reached forms word j j
reached_along forms word i [] j b w u =
    let unset = All-head (LeavesUnset forms word) i [] u in
    from i (next_forward forms i j w.0) b (record { next = w.0; unset = unset })
reached_along forms word i (k ∷ js) j b w u =
    let unset = All-head (LeavesUnset forms word) i (k ∷ js) u in
    let rest = All-tail (LeavesUnset forms word) i (k ∷ js) u in
    reached_along forms word k js j (bare_on forms word i k b unset w.0) w.1 rest

reached_by : (forms : Forms) (word : ℕ) (earlier : List ℕ) (j : ℕ) → IsPath forms (earlier ++ j ∷ [])
    → All (LeavesUnset forms word) earlier → Reached forms word j j
reached_by forms word [] j p u = at_start p.0
reached_by forms word (i ∷ is) j p u =
    let bare = subst (λ k. IsBare forms k word) (sym p.0) (bare_start forms word p.1) in
    reached_along forms word i is j bare p.2 u

-- .. and each bare place is known once the places below it are passed
pub reached_from_bare : (forms : Forms) (word j : ℕ) → IsBare forms j word → Reached forms word j j
reached_from_bare forms word j b =
    reached_by forms word b.to.earlier j (subst (IsPath forms) b.to.ends b.to.path) b.to.unset

path_some : (forms : Forms) (places : List ℕ) → IsPath forms places → 0 < length forms
path_some forms [] p = absurd p
path_some forms (i ∷ is) p = p.1

-- a bare place is a place of the code
pub bare_inside : (forms : Forms) (word j : ℕ) → IsBare forms j word → j < length forms
bare_inside forms word j b = inside (reached_from_bare forms word j b)
  where
    inside : Reached forms word j j → j < length forms
    inside (at_start e) = let some = path_some forms b.places b.to.path in omega arith
    inside (from i l bare p) = p.next.inside
