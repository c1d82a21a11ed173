-- Each code is accepted, or has a first fault.
use Rattle.std.proofs.Common.{ℕ, zero, suc, ◌≡◌, ◌+◌, ◌-◌, ◌<◌, ◌≤◌, ◌⊎◌, inl, inr, List, [], ◌∷◌, length, map, Option, Some}
use Rattle.std.proofs.Common.{None, refl, subst, sym, ap, ◌∙◌, arith}
use Rattle.std.specs.Prelude.{slice_get, option_map}
use Rattle.std.proofs.lemmas.Bool.{cases_lt, cases_eq}
use Rattle.gw_insn.specs.declared.insn.Raw.{Raw}
use Rattle.gw_insn.specs.declared.insn.Insn.{Insn}
use Rattle.gw_insn.specs.Form.{Form, Load, LoadScratch, Store, Alu, Jump, Branch, ReturnConstant, ReturnA, Word, Half, Byte}
use Rattle.gw_insn.specs.Form.{Constant, Register, Div, Mod, Lsh, Rsh, form}
use Rattle.gw_insn.specs.Table.{insn_of}
use Rattle.gw_verify.specs.declared.cause.Cause.{Cause}
use Rattle.gw_verify.specs.declared.cause.Cause.TheVariants.{Empty, TooLong, UnknownCode, DivideByZero, ShiftTooFar, NoSuchWord}
use Rattle.gw_verify.specs.declared.cause.Cause.TheVariants.{JumpOut, Ancillary, NoReturnAtEnd, UnsetWord}
use Rattle.gw_verify.specs.Flow.{Forms, forms_of, HasAt, LeadsTo, Stores, Loads, PassesBy, IsBare}
use Rattle.gw_verify.specs.Accepted.{DividesByZero, ShiftsTooFar, NamesNoWord, JumpsOut, IsAncillary, IsNoReturn, IsAccepted}
use Rattle.gw_verify.specs.Accepted.{IsFirstFault}
use Rattle.gw_verify.specs.OwnFault.{IsOwnFault, HasOwnFault, NoOwnFaultBelow, EndsInReturn}
use Rattle.gw_verify.specs.UnsetLoad.{IsUnsetLoad}
use Rattle.gw_verify.proofs.Callers.{bare_start, bare_on, bare_inside, Reached, at_start, from, reached_from_bare}
use Rattle.gw_verify.proofs.Callers.{first_long, first_own, first_no_return, first_unset, accepted}
use Rattle.gw_replay.proofs.SomeListing.{Decided, at_most, both, either}

-- the least number below n of which a fact holds, or none
record Least (P : ℕ → Type 0) (n : ℕ) : Type 0 where
  pub at : ℕ
  pub within : at < n
  pub holds : P at
  pub first : (j : ℕ) → j < at → P j → ⊥

least : (P : ℕ → Type 0) (n : ℕ) → ((i : ℕ) → i < n → Decided (P i)) → Least P n ⊎ ((i : ℕ) → i < n → P i → ⊥)
least P zero known = inr (λ i less p. omega (arith, less))
least P (suc n) known = go (least P n (λ i less. known i (omega (arith, less)))) (known n (omega arith))
  where
    go : Least P n ⊎ ((i : ℕ) → i < n → P i → ⊥) → Decided (P n) → Least P (suc n) ⊎ ((i : ℕ) → i < suc n → P i → ⊥)
    go (inl found) here =
        let within = found.within in
        inl (record { at = found.at; within = omega (arith, within); holds = found.holds; first = found.first })
    go (inr none) (inl here) = inl (record { at = n; within = omega arith; holds = here; first = none })
    go (inr none) (inr not_here) = inr all
      where
        all : (i : ℕ) → i < suc n → P i → ⊥
        all i less p = elim (cases_eq i n) [
          | inl is ↦ not_here (subst P is p)
          | inr other ↦ none i (omega (arith, less, other)) p
        ]

-- what an instruction has by itself

divides : (insn : Form) → Decided (DividesByZero insn)
divides (Alu Div (Constant k)) = cases_eq k 0
divides (Alu Mod (Constant k)) = cases_eq k 0
divides _ = inr (λ h. h)

shifts : (insn : Form) → Decided (ShiftsTooFar insn)
shifts (Alu Lsh (Constant k)) = at_most 32 k
shifts (Alu Rsh (Constant k)) = at_most 32 k
shifts _ = inr (λ h. h)

names : (insn : Form) → Decided (NamesNoWord insn)
names (LoadScratch register k) = at_most 16 k
names (Store register k) = at_most 16 k
names _ = inr (λ h. h)

jumps : (len i : ℕ) (insn : Form) → Decided (JumpsOut len i insn)
jumps len i (Jump k) = at_most len (i + 1 + k)
jumps len i (Branch comparison operand jt jf) = either (at_most len (i + 1 + jt)) (at_most len (i + 1 + jf))
jumps len i _ = inr (λ h. h)

opposite : {P : Type 0} → Decided P → Decided (P → ⊥)
opposite (inl p) = inr (λ none. none p)
opposite (inr none) = inl none

loads_extension : (insn : Form) → Decided (IsAncillary insn)
loads_extension (Load Word k) = both (at_most 0xfffff000 k) (opposite (cases_eq k 0xfffff008))
loads_extension (Load Half k) = at_most 0xfffff000 k
loads_extension (Load Byte k) = at_most 0xfffff000 k
loads_extension _ = inr (λ h. h)

returns_not : (insn : Form) → Decided (IsNoReturn insn)
returns_not (ReturnConstant k) = inr (λ h. h)
returns_not ReturnA = inr (λ h. h)
returns_not _ = inl tt

-- a fault of a place, or none
abbrev OwnAt : Forms → ℕ → Type 0
OwnAt forms i = (cause : Cause) × HasOwnFault forms cause i

own_at : (forms : Forms) (i : ℕ) → Decided (OwnAt forms i)
own_at forms i = found (slice_get forms i) refl
  where
    is_found : (o : Option Form) → slice_get forms i ≡ Some o → ((cause : Cause) → IsOwnFault (length forms) i o cause → ⊥)
        → OwnAt forms i → ⊥
    is_found o here none h =
        let same : h.1.found ≡ o = cc in
        none h.0 (subst (λ f. IsOwnFault (length forms) i f h.0) same h.1.fault)

    no_cause : (insn : Form) → (DividesByZero insn → ⊥) → (ShiftsTooFar insn → ⊥) → (NamesNoWord insn → ⊥)
        → (JumpsOut (length forms) i insn → ⊥) → (IsAncillary insn → ⊥)
        → (cause : Cause) → IsOwnFault (length forms) i (Some insn) cause → ⊥
    no_cause insn a b c d e DivideByZero h = a h
    no_cause insn a b c d e ShiftTooFar h = b h
    no_cause insn a b c d e NoSuchWord h = c h
    no_cause insn a b c d e JumpOut h = d h
    no_cause insn a b c d e Ancillary h = e h
    no_cause insn a b c d e _ h = h

    has : (insn : Form) (cause : Cause) → slice_get forms i ≡ Some (Some insn) → IsOwnFault (length forms) i (Some insn) cause
        → Decided (OwnAt forms i)
    has insn cause here h = inl (cause, record { found = Some insn; here = here; fault = h })

    by_load : (insn : Form) → slice_get forms i ≡ Some (Some insn) → (DividesByZero insn → ⊥) → (ShiftsTooFar insn → ⊥)
        → (NamesNoWord insn → ⊥) → (JumpsOut (length forms) i insn → ⊥) → Decided (IsAncillary insn) → Decided (OwnAt forms i)
    by_load insn here a b c d (inl h) = has insn Ancillary here h
    by_load insn here a b c d (inr e) = inr (is_found (Some insn) here (no_cause insn a b c d e))

    by_jump : (insn : Form) → slice_get forms i ≡ Some (Some insn) → (DividesByZero insn → ⊥) → (ShiftsTooFar insn → ⊥)
        → (NamesNoWord insn → ⊥) → Decided (JumpsOut (length forms) i insn) → Decided (OwnAt forms i)
    by_jump insn here a b c (inl h) = has insn JumpOut here h
    by_jump insn here a b c (inr d) = by_load insn here a b c d (loads_extension insn)

    by_name : (insn : Form) → slice_get forms i ≡ Some (Some insn) → (DividesByZero insn → ⊥) → (ShiftsTooFar insn → ⊥)
        → Decided (NamesNoWord insn) → Decided (OwnAt forms i)
    by_name insn here a b (inl h) = has insn NoSuchWord here h
    by_name insn here a b (inr c) = by_jump insn here a b c (jumps (length forms) i insn)

    by_shift : (insn : Form) → slice_get forms i ≡ Some (Some insn) → (DividesByZero insn → ⊥) → Decided (ShiftsTooFar insn)
        → Decided (OwnAt forms i)
    by_shift insn here a (inl h) = has insn ShiftTooFar here h
    by_shift insn here a (inr b) = by_name insn here a b (names insn)

    by_division : (insn : Form) → slice_get forms i ≡ Some (Some insn) → Decided (DividesByZero insn) → Decided (OwnAt forms i)
    by_division insn here (inl h) = has insn DivideByZero here h
    by_division insn here (inr a) = by_shift insn here a (shifts insn)

    found : (o : Option (Option Form)) → slice_get forms i ≡ o → Decided (OwnAt forms i)
    found None here = inr (λ h. let none : None ≡ Some h.1.found = sym here ∙ h.1.here in cc)
    found (Some None) here = inl (UnknownCode, record { found = None; here = here; fault = tt })
    found (Some (Some insn)) here = by_division insn here (divides insn)

-- bare places

-- place j follows place i, which is bare of the word and does not store it
abbrev Before : Forms → ℕ → ℕ → ℕ → Type 0
Before forms word j i = IsBare forms i word × PassesBy forms word i j

stores : (insn : Form) (word : ℕ) → Decided (Stores insn word)
stores (Store register k) word = cases_eq k word
stores _ word = inr (λ h. h)

leads : (insn : Form) (i j : ℕ) → Decided (LeadsTo insn i j)
leads (ReturnConstant k) i j = inr (λ h. h)
leads ReturnA i j = inr (λ h. h)
leads (Jump k) i j = cases_eq j (i + 1 + k)
leads (Branch comparison operand jt jf) i j = either (cases_eq j (i + 1 + jt)) (cases_eq j (i + 1 + jf))
leads _ i j = cases_eq j (i + 1)

below : (m n : ℕ) → Decided (m < n)
below m n = elim (cases_lt m n) [ inl less ↦ inl less | inr le ↦ inr (λ less. omega (arith, le, less)) ]

passes : (forms : Forms) (word i j : ℕ) → Decided (PassesBy forms word i j)
passes forms word i j = found (slice_get forms i) refl
  where
    by : (insn : Form) → HasAt forms i insn → Decided ((LeadsTo insn i j × (j < length forms)) × (Stores insn word → ⊥))
        → Decided (PassesBy forms word i j)
    by insn here (inl h) = inl (record {
      next = record { insn = insn; here = here; leads = h.0.0; inside = h.0.1 };
      unset = λ s.
          let there = s.here in let same : s.insn ≡ insn = cc in h.1 (subst (λ f. Stores f word) same s.stores);
    })
    by insn here (inr none) = inr (λ h.
        let next_here = h.next.here in
        let same : h.next.insn ≡ insn = cc in
        none (
          (subst (λ f. LeadsTo f i j) same h.next.leads, h.next.inside),
          λ s. h.unset (record { insn = insn; here = here; stores = s }),
        ))

    found : (o : Option (Option Form)) → slice_get forms i ≡ o → Decided (PassesBy forms word i j)
    found None here = inr (λ h. let none : None ≡ Some (Some h.next.insn) = sym here ∙ h.next.here in cc)
    found (Some None) here = inr (λ h. let none : Some None ≡ Some (Some h.next.insn) = sym here ∙ h.next.here in cc)
    found (Some (Some insn)) here =
        by insn here (both (both (leads insn i j) (below j (length forms))) (opposite (stores insn word)))

-- so the places before a place decide whether it is bare
bare_next : (forms : Forms) (word n : ℕ) → ((i : ℕ) → i < n → Decided (IsBare forms i word)) → Decided (IsBare forms n word)
bare_next forms word n known =
    by (least (Before forms word n) n (λ k less. both (known k less) (passes forms word k n)))
  where
    first_place : Decided ((n ≡ 0) × (0 < length forms)) → ((i : ℕ) → i < n → Before forms word n i → ⊥)
        → Decided (IsBare forms n word)
    first_place (inl h) none = inl (subst (λ k. IsBare forms k word) (sym h.0) (bare_start forms word h.1))
    first_place (inr no_start) none = inr (λ b. comes b (reached_from_bare forms word n b))
      where
        comes : IsBare forms n word → Reached forms word n n → ⊥
        comes b (at_start first) = no_start (first, omega (arith, bare_inside forms word n b))
        comes b (from i less bare passes) = none i less (bare, passes)

    by : Least (Before forms word n) n ⊎ ((i : ℕ) → i < n → Before forms word n i → ⊥) → Decided (IsBare forms n word)
    by (inl found) = inl (bare_on forms word found.at n found.holds.0 found.holds.1.unset found.holds.1.next)
    by (inr none) = first_place (both (cases_eq n 0) (below 0 (length forms))) none

bare_below : (forms : Forms) (word n i : ℕ) → i < n → Decided (IsBare forms i word)
bare_below forms word zero i less = absurd (omega (arith, less))
bare_below forms word (suc n) i less =
    elim (cases_eq i n) [
      | inl is ↦
          subst (λ k. Decided (IsBare forms k word)) (sym is) (bare_next forms word n (λ k l. bare_below forms word n k l))
      | inr other ↦ bare_below forms word n i (omega (arith, less, other))
    ]

-- a load of an unset word, or none
abbrev UnsetAt : Forms → ℕ → Type 0
UnsetAt forms i = (word : ℕ) × IsUnsetLoad forms word i

unset_at : (forms : Forms) (i : ℕ) → Decided (UnsetAt forms i)
unset_at forms i = found (slice_get forms i) refl
  where
    loaded : (register : Register) (k : ℕ) → HasAt forms i (LoadScratch register k) → Decided (IsBare forms i k)
        → Decided (UnsetAt forms i)
    loaded register k here (inl bare) =
        inl (k, record { load = record { insn = LoadScratch register k; here = here; holds = refl }; bare = bare })
    loaded register k here (inr not_bare) = inr (λ h.
        let load_here = h.1.load.here in
        let same : h.1.load.insn ≡ LoadScratch register k = cc in
        let word : k ≡ h.0 = subst (λ f. Loads f h.0) same h.1.load.holds in
        not_bare (subst (IsBare forms i) (sym word) h.1.bare))

    other : (insn : Form) → HasAt forms i insn → ((word : ℕ) → Loads insn word → ⊥) → Decided (UnsetAt forms i)
    other insn here none = inr (λ h.
        let load_here = h.1.load.here in
        let same : h.1.load.insn ≡ insn = cc in
        none h.0 (subst (λ f. Loads f h.0) same h.1.load.holds))

    by : (insn : Form) → HasAt forms i insn → Decided (UnsetAt forms i)
    by (LoadScratch register k) here = loaded register k here (bare_below forms k (suc i) i (omega arith))
    by insn here = other insn here (λ word h. h)

    found : (o : Option (Option Form)) → slice_get forms i ≡ o → Decided (UnsetAt forms i)
    found None here = inr (λ h. let none : None ≡ Some (Some h.1.load.insn) = sym here ∙ h.1.load.here in cc)
    found (Some None) here = inr (λ h. let none : Some None ≡ Some (Some h.1.load.insn) = sym here ∙ h.1.load.here in cc)
    found (Some (Some insn)) here = by insn here

-- the first fault of all, in the order of the ranks

abbrev pub AcceptedOrNot : Forms → Type 0
AcceptedOrNot forms = IsAccepted forms ⊎ ((cause : Cause) × (i : ℕ) × IsFirstFault forms cause i)

-- what an instruction at the end says, if it is known and no return
abbrev EndsOpen : Forms → ℕ → Type 0
EndsOpen forms last = (insn : Form) × HasAt forms last insn × IsNoReturn insn

ends_open : (forms : Forms) (last : ℕ) → Decided (EndsOpen forms last)
ends_open forms last = found (slice_get forms last) refl
  where
    by : (insn : Form) → HasAt forms last insn → Decided (IsNoReturn insn) → Decided (EndsOpen forms last)
    by insn here (inl open') = inl (insn, here, open')
    by insn here (inr returns) = inr (λ h.
        let there = h.1 in let same : h.0 ≡ insn = cc in returns (subst IsNoReturn same h.2))

    found : (o : Option (Option Form)) → slice_get forms last ≡ o → Decided (EndsOpen forms last)
    found None here = inr (λ h. let none : None ≡ Some (Some h.0) = sym here ∙ h.1 in cc)
    found (Some None) here = inr (λ h. let none : Some None ≡ Some (Some h.0) = sym here ∙ h.1 in cc)
    found (Some (Some insn)) here = by insn here (returns_not insn)

module _ (forms : Forms) (some : 0 < length forms) where
  module _ (few : length forms ≤ 4096) where
    by_itself : Least (OwnAt forms) (length forms) → AcceptedOrNot forms
    by_itself found = inr (
      found.holds.0,
      found.at,
      first_own forms some few found.holds.0 found.at found.holds.1 (λ cause i less own. found.first i less (cause, own)),
    )

    module _ (clean : NoOwnFaultBelow forms (length forms)) (last : ℕ) (at : last + 1 ≡ length forms) where
      opens : EndsOpen forms last → AcceptedOrNot forms
      opens h = inr (
        NoReturnAtEnd,
        last,
        first_no_return forms some few clean last (at, record { insn = h.0; here = h.1; holds = h.2 }),
      )

      module _ (closed : EndsOpen forms last → ⊥) where
        ends : EndsInReturn forms
        ends i insn e here open' =
            let same : i ≡ last = omega (arith, e, at) in
            closed (insn, subst (λ k. HasAt forms k insn) same here, open')

        by_load : Least (UnsetAt forms) (length forms) ⊎ ((i : ℕ) → i < length forms → UnsetAt forms i → ⊥)
            → AcceptedOrNot forms
        by_load (inl found) = inr (
          UnsetWord found.holds.0,
          found.at,
          first_unset forms some few clean ends found.holds.0 found.at found.holds.1
              (λ word i less load. found.first i less (word, load)),
        )
        by_load (inr none) = inl (accepted forms some few clean ends (λ word i less load. none i less (word, load)))

      by_end : Decided (EndsOpen forms last) → AcceptedOrNot forms
      by_end (inl open') = opens open'
      by_end (inr closed) = by_load closed (least (UnsetAt forms) (length forms) (λ i less. unset_at forms i))

  by_length : (4096 < length forms) ⊎ (length forms ≤ 4096) → AcceptedOrNot forms
  by_length (inl many) = inr (TooLong, 4096, first_long forms many)
  by_length (inr few) =
      elim (least (OwnAt forms) (length forms) (λ i less. own_at forms i)) [
        | inl found ↦ by_itself few found
        | inr clean ↦
            let last = length forms - 1 in
            by_end few (λ cause i less own. clean i less (cause, own)) last (omega (arith, some)) (ends_open forms last)
      ]

-- code is accepted, or this is its first fault
pub some_cause : (forms : Forms) → AcceptedOrNot forms
some_cause [] = inr (
  Empty,
  0,
  record {
    fault = (refl, refl);
    rank_least = λ other j f. omega arith;
    place_least = λ other j f same. omega arith;
  },
)
some_cause (one ∷ forms) = by_length (one ∷ forms) (omega arith) (cases_lt 4096 (length (one ∷ forms)))

-- accepted code decodes
pub decodes : (code : List Raw) → ((i : ℕ) → slice_get (forms_of code) i ≡ Some None → ⊥)
    → (program : List Insn) × (map Some program ≡ map insn_of code)
decodes [] known = ([], refl)
decodes (raw ∷ code) known = go (insn_of raw) refl (decodes code (λ i. known (suc i)))
  where
    go : (o : Option Insn) → insn_of raw ≡ o → (program : List Insn) × (map Some program ≡ map insn_of code)
        → (program : List Insn) × (map Some program ≡ map insn_of (raw ∷ code))
    go None is rest = absurd (known 0 (ap (λ (o : Option Insn). Some (option_map form o)) is))
    go (Some insn) is rest = (
      insn ∷ rest.0,
      ap (λ (o : Option Insn). o ∷ map Some rest.0) (sym is) ∙ ap (λ (os : List (Option Insn)). insn_of raw ∷ os) rest.1,
    )
