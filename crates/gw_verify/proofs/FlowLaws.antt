-- What follows of where instructions lead.
use Rattle.std.specs.Prelude.{ℕ, ◌≡◌, ◌+◌, ◌<◌, ◌≤◌, List, [], ◌∷◌, ◌++◌, All, length}
use Rattle.std.proofs.Common.{inl, inr, refl, subst, sym, add-one}
use Rattle.std.proofs.Math.Nat.{le-add_right, le_refl}
use Rattle.std.proofs.lemmas.List.Elements.{All-nil, All-push}
use Rattle.gw_insn.specs.Form.{Form, Jump, Branch, ReturnConstant, ReturnA}
use Rattle.gw_verify.specs.Flow.{Forms, LeadsTo, IsNext, Walks, IsPath, StoresAt, IsBarePathTo, IsBare}
use Rattle.gw_verify.specs.Orderly.{StaysBelow}

-- instructions lead forward
pub leads_forward : (insn : Form) (i j : ℕ) → LeadsTo insn i j → i < j
leads_forward insn i j leads = go insn leads
  where
    past : (k : ℕ) → i < i + 1 + k
    past k = subst (λ n. n ≤ i + 1 + k) (add-one i) (le-add_right (i + 1) k)

    by : (k : ℕ) → j ≡ i + 1 + k → i < j
    by k e = subst (λ n. i < n) (sym e) (past k)

    next : j ≡ i + 1 → i < j
    next e = subst (λ n. n ≤ j) (add-one i) (subst (λ n. i + 1 ≤ n) (sym e) (le_refl (i + 1)))

    go : (insn : Form) → LeadsTo insn i j → i < j
    go (ReturnConstant k) h = absurd h
    go ReturnA h = absurd h
    go (Jump k) h = by k h
    go (Branch c o jt jf) (inl h) = by jt h
    go (Branch c o jt jf) (inr h) = by jf h
    go _ h = next h

-- the first place alone is a path on which no earlier place stores the word
pub bare_path_start : (forms : Forms) (word : ℕ) → 0 < length forms → IsBarePathTo forms (0 ∷ []) 0 word
bare_path_start forms word some = record {
  earlier = [];
  ends = refl;
  path = (refl, some, tt);
  unset = All-nil (λ i. StoresAt forms i word → ⊥);
}

walks_on : (forms : Forms) (i : ℕ) (js : List ℕ) (k j : ℕ) → Walks forms i (js ++ k ∷ []) → IsNext forms k j
    → Walks forms i ((js ++ k ∷ []) ++ j ∷ [])
walks_on forms i [] k j w n = (w.0, (n, tt))
walks_on forms i (l ∷ js) k j w n = (w.0, walks_on forms l js k j w.1 n)

path_on : (forms : Forms) (is : List ℕ) (k j : ℕ) → IsPath forms (is ++ k ∷ []) → IsNext forms k j
    → IsPath forms ((is ++ k ∷ []) ++ j ∷ [])
path_on forms [] k j p n = (p.0, p.1, (n, tt))
path_on forms (i ∷ is) k j p n = (p.0, p.1, walks_on forms i is k j p.2 n)

-- such a path to a place that does not store the word goes on to each place that may follow
pub bare_path_on : (forms : Forms) (word : ℕ) (places : List ℕ) (i j : ℕ) → IsBarePathTo forms places i word
    → (StoresAt forms i word → ⊥) → IsNext forms i j → IsBarePathTo forms (places ++ j ∷ []) j word
bare_path_on forms word places i j b u n = record {
  earlier = places;
  ends = refl;
  path =
      subst (λ ps. IsPath forms (ps ++ j ∷ [])) (sym b.ends)
      (path_on forms b.earlier i j (subst (IsPath forms) b.ends b.path) n);
  unset =
      let P : ℕ → Type 0 = λ k. StoresAt forms k word → ⊥ in
      subst (All P) (sym b.ends) (All-push P b.earlier i b.unset u);
}

-- the first place of code is bare of each word
pub bare_start : (forms : Forms) (word : ℕ) → 0 < length forms → IsBare forms 0 word
bare_start forms word some = record { places = 0 ∷ []; to = bare_path_start forms word some }

-- a bare place that does not store the word leads to bare places
pub bare_on : (forms : Forms) (word i j : ℕ) → IsBare forms i word → (StoresAt forms i word → ⊥)
    → IsNext forms i j → IsBare forms j word
bare_on forms word i j b u n =
    record { places = b.places ++ j ∷ []; to = bare_path_on forms word b.places i j b.to u n }

-- an instruction that stays below n leads to places below n
pub leads_below : (insn : Form) (n i j : ℕ) → StaysBelow n i insn → LeadsTo insn i j → j < n
leads_below insn n i j stays leads = go insn stays leads
  where
    at : (m : ℕ) → m < n → j ≡ m → j < n
    at m l e = subst (λ k. k < n) (sym e) l

    go : (insn : Form) → StaysBelow n i insn → LeadsTo insn i j → j < n
    go (ReturnConstant k) s h = absurd h
    go ReturnA s h = absurd h
    go (Jump k) s h = at (i + 1 + k) s h
    go (Branch c o jt jf) s (inl h) = at (i + 1 + jt) s.0 h
    go (Branch c o jt jf) s (inr h) = at (i + 1 + jf) s.1 h
    go _ s h = at (i + 1) s h
