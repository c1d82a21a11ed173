-- Faults in the order of their causes: which comes first, and that no other is left in accepted code.
use Rattle.std.proofs.Common.{◌≡◌, ℕ, zero, suc, ◌+◌, ◌<◌, ◌≤◌, Bool, true, false, inl, inr, length, Option, Some, None, refl, ap}
use Rattle.std.proofs.Common.{◌∙◌, subst, arith}
use Rattle.std.specs.Prelude.{slice_get, MatchBool}
use Rattle.std.proofs.lemmas.Bool.{cases_lt, cases_eq}
use Rattle.std.proofs.lemmas.List.{nil_from_length}
use Rattle.std.proofs.lemmas.Option.{slice_get_within}
use Rattle.gw_insn.specs.Form.{Form, Load, LoadIndexed, LoadLength, LoadConstant, LoadScratch, Store, LoadNibble, Alu, Negate}
use Rattle.gw_insn.specs.Form.{Jump, Branch, ReturnConstant, ReturnA, Tax, Txa}
use Rattle.gw_verify.specs.declared.cause.Cause.{Cause}
use Rattle.gw_verify.specs.declared.cause.Cause.TheVariants.{Empty, TooLong, UnknownCode, DivideByZero, ShiftTooFar, NoSuchWord}
use Rattle.gw_verify.specs.declared.cause.Cause.TheVariants.{JumpOut, Ancillary, NoReturnAtEnd, UnsetWord, OutOfMemory}
use Rattle.gw_verify.specs.Accepted.{At, IsFault, IsAccepted, IsFirstFault, IsNoReturn}
use Rattle.gw_verify.specs.Cause.{rank}
use Rattle.gw_verify.specs.Flow.{Forms, HasAt}
use Rattle.gw_verify.specs.Orderly.{IsOrderly, StaysBelow, NamesWord}
use Rattle.gw_verify.specs.OwnFault.{IsOwnFault, HasOwnFault, NoOwnFaultBelow, EndsInReturn}
use Rattle.gw_verify.specs.UnsetLoad.{IsUnsetLoad, NoUnsetLoadBelow}
use Rattle.gw_verify.proofs.Decoding.{one_form, no_form}

-- what a fault of each rank is
abbrev pub Kind : Forms → Cause → ℕ → ℕ → Type 0
Kind forms cause i zero = (cause ≡ Empty) × (length forms ≡ 0) × (i ≡ 0)
Kind forms cause i (suc zero) = (cause ≡ TooLong) × (4096 < length forms) × (i ≡ 4096)
Kind forms cause i (suc (suc zero)) = HasOwnFault forms cause i
Kind forms cause i (suc (suc (suc zero))) =
    (cause ≡ NoReturnAtEnd) × (i + 1 ≡ length forms) × At forms i IsNoReturn
Kind forms cause i (suc (suc (suc (suc zero)))) =
    (word : ℕ) × (cause ≡ UnsetWord word) × IsUnsetLoad forms word i
Kind forms cause i _ = ⊥

kind_of : (forms : Forms) (cause : Cause) (i : ℕ) → IsFault forms cause i → Kind forms cause i (rank cause)
kind_of forms Empty i f = (refl, ap length f.0, f.1)
kind_of forms TooLong i f = (refl, f.0, f.1)
kind_of forms UnknownCode i f = record { found = None; here = f; fault = tt }
kind_of forms DivideByZero i f = record { found = Some f.insn; here = f.here; fault = f.holds }
kind_of forms ShiftTooFar i f = record { found = Some f.insn; here = f.here; fault = f.holds }
kind_of forms NoSuchWord i f = record { found = Some f.insn; here = f.here; fault = f.holds }
kind_of forms JumpOut i f = record { found = Some f.insn; here = f.here; fault = f.holds }
kind_of forms Ancillary i f = record { found = Some f.insn; here = f.here; fault = f.holds }
kind_of forms NoReturnAtEnd i f = (refl, f.0, f.1)
kind_of forms (UnsetWord word) i f = (word, refl, record { load = f.0; bare = f.1 })
kind_of forms OutOfMemory i f = absurd f

-- a fault is of the kind of its rank
pub of_rank : (forms : Forms) (cause : Cause) (i r : ℕ) → rank cause ≡ r → IsFault forms cause i
    → Kind forms cause i r
of_rank forms cause i r e f = subst (Kind forms cause i) e (kind_of forms cause i f)

-- no fault has a rank above these
no_more_kinds : (forms : Forms) (cause : Cause) (i r : ℕ) → 5 ≤ r → Kind forms cause i r → ⊥
no_more_kinds forms cause i zero l k = omega arith
no_more_kinds forms cause i (suc zero) l k = omega arith
no_more_kinds forms cause i (suc (suc zero)) l k = omega arith
no_more_kinds forms cause i (suc (suc (suc zero))) l k = omega arith
no_more_kinds forms cause i (suc (suc (suc (suc zero)))) l k = omega arith
no_more_kinds forms cause i (suc (suc (suc (suc (suc r))))) l k = k

-- what an instruction has by itself is the fault of that cause
own_fault_is : (forms : Forms) (cause : Cause) (i : ℕ) (found : Option Form)
    → slice_get forms i ≡ Some found → IsOwnFault (length forms) i found cause → IsFault forms cause i
own_fault_is forms UnknownCode i None here w = here
own_fault_is forms DivideByZero i (Some insn) here w = record { insn = insn; here = here; holds = w }
own_fault_is forms ShiftTooFar i (Some insn) here w = record { insn = insn; here = here; holds = w }
own_fault_is forms NoSuchWord i (Some insn) here w = record { insn = insn; here = here; holds = w }
own_fault_is forms JumpOut i (Some insn) here w = record { insn = insn; here = here; holds = w }
own_fault_is forms Ancillary i (Some insn) here w = record { insn = insn; here = here; holds = w }
own_fault_is forms _ i None here w = absurd w
own_fault_is forms _ i (Some insn) here w = absurd w

rank_of_own : (len i : ℕ) (found : Option Form) (cause : Cause) → IsOwnFault len i found cause
    → rank cause ≡ 2
rank_of_own len i None UnknownCode w = refl
rank_of_own len i (Some insn) DivideByZero w = refl
rank_of_own len i (Some insn) ShiftTooFar w = refl
rank_of_own len i (Some insn) NoSuchWord w = refl
rank_of_own len i (Some insn) JumpOut w = refl
rank_of_own len i (Some insn) Ancillary w = refl
rank_of_own len i None _ w = absurd w
rank_of_own len i (Some insn) _ w = absurd w

-- no fault of a rank below r
abbrev NoFaultBelow : Forms → ℕ → Type 0
NoFaultBelow forms r = (other : Cause) (j : ℕ) → IsFault forms other j → r ≤ rank other

no_fault_more : (forms : Forms) (r : ℕ) → ((other : Cause) (j : ℕ) → Kind forms other j r → ⊥)
    → NoFaultBelow forms r → NoFaultBelow forms (r + 1)
no_fault_more forms r none before other j f = elim (cases_eq (rank other) r) [
  | inl e ↦ absurd (none other j (of_rank forms other j r e f))
  | inr ne ↦ omega (arith, before other j f)
]

-- a fault before which no other comes
first : (forms : Forms) (cause : Cause) (i r : ℕ) → rank cause ≡ r → IsFault forms cause i
    → NoFaultBelow forms r → ((other : Cause) (j : ℕ) → Kind forms other j r → i ≤ j)
    → IsFirstFault forms cause i
first forms cause i r e fault lower earlier = record {
  fault = fault;
  rank_least = λ other j f. omega (arith, lower other j f);
  place_least = λ other j f same. earlier other j (of_rank forms other j r (same ∙ e) f);
}

module _ (forms : Forms) where
  has_some : 0 < length forms → NoFaultBelow forms 1
  has_some some = no_fault_more forms 0 (λ other j k. omega (arith, k.1)) (λ other j f. omega arith)

  -- too many instructions, which no empty code has
  pub first_long : 4096 < length forms → IsFirstFault forms TooLong 4096
  first_long many = first forms TooLong 4096 1 refl (many, refl) (has_some (omega arith)) (λ other j k. omega (arith, k.2))

  module _ (some : 0 < length forms) (short : length forms ≤ 4096) where
    -- The checks in their order: each leaves one rank less, and the first fault of a rank is the first of all.
    is_short : NoFaultBelow forms 2
    is_short = no_fault_more forms 1 (λ other j k. omega (arith, k.1)) (has_some some)

    -- the least place with a fault of its own
    pub first_own : (cause : Cause) (i : ℕ) → HasOwnFault forms cause i → NoOwnFaultBelow forms i
        → IsFirstFault forms cause i
    first_own cause i own before =
        first forms cause i 2 (rank_of_own (length forms) i own.found cause own.fault)
        (own_fault_is forms cause i own.found own.here own.fault) is_short
        (λ other j k. elim (cases_lt j i) [ inl l ↦ absurd (before other j l k) | inr g ↦ g ])

    module _ (clean : NoOwnFaultBelow forms (length forms)) where
      is_clean : NoFaultBelow forms 3
      is_clean =
          no_fault_more forms 2 (λ other j k. clean other j (slice_get_within forms j _ k.here) k) is_short

      -- then an end that is no return
      pub first_no_return : (i : ℕ) → IsFault forms NoReturnAtEnd i → IsFirstFault forms NoReturnAtEnd i
      first_no_return i fault =
          first forms NoReturnAtEnd i 3 refl fault is_clean (λ other j k. omega (arith, k.1, fault.0))

      module _ (ends : EndsInReturn forms) where
        has_end : NoFaultBelow forms 4
        has_end = no_fault_more forms 3 (λ other j k. ends j k.2.insn k.1 k.2.here k.2.holds) is_clean

        -- then the least load of an unset word
        pub first_unset : (word i : ℕ) → IsUnsetLoad forms word i → NoUnsetLoadBelow forms i
            → IsFirstFault forms (UnsetWord word) i
        first_unset word i bad before =
            first forms (UnsetWord word) i 4 refl (bad.load, bad.bare) has_end
            (λ other j k. elim (cases_lt j i) [ inl l ↦ absurd (before k.0 j l k.2) | inr g ↦ g ])

        -- and else the code is accepted
        pub accepted : NoUnsetLoadBelow forms (length forms) → IsAccepted forms
        accepted none cause i fault =
            no_more_kinds forms cause i (rank cause) (all cause i fault) (kind_of forms cause i fault)
          where
            no_load : (other : Cause) (j : ℕ) → Kind forms other j 4 → ⊥
            no_load other j k = none k.0 j (slice_get_within forms j _ k.2.load.here) k.2

            all : NoFaultBelow forms 5
            all = no_fault_more forms 4 no_load has_end

        -- what the pass over the scratch words needs
        pub orderly : IsOrderly forms
        orderly = record { some = some; short = short; stays = stays; words = words }
          where
            no_own_fault : (i : ℕ) (insn : Form) (cause : Cause) → HasAt forms i insn
                → IsOwnFault (length forms) i (Some insn) cause → ⊥
            no_own_fault i insn cause h w =
                let l = slice_get_within forms i _ h in
                clean cause i l (record { found = Some insn; here = h; fault = w })

            inside : (i j : ℕ) (insn : Form) → HasAt forms i insn
                → (length forms ≤ j → IsOwnFault (length forms) i (Some insn) JumpOut) → j < length forms
            inside i j insn h out =
                elim (cases_lt j (length forms)) [
                  | inl l ↦ l
                  | inr g ↦ absurd (no_own_fault i insn JumpOut h (out g))
                ]

            in_front : (i : ℕ) (insn : Form) → HasAt forms i insn → IsNoReturn insn → i + 1 < length forms
            in_front i insn h n =
                let l = slice_get_within forms i _ h in
                elim (cases_eq (i + 1) (length forms)) [
                  | inl e ↦ absurd (ends i insn e h n)
                  | inr ne ↦ omega arith
                ]

            stays : (i : ℕ) (insn : Form) → HasAt forms i insn → StaysBelow (length forms) i insn
            stays i (ReturnConstant k) h = tt
            stays i ReturnA h = tt
            stays i (Jump k) h = inside i (i + 1 + k) (Jump k) h (λ g. g)
            stays i (Branch c o jt jf) h = (
              inside i (i + 1 + jt) (Branch c o jt jf) h (λ g. inl g),
              inside i (i + 1 + jf) (Branch c o jt jf) h (λ g. inr g),
            )
            stays i (Load w k) h = in_front i (Load w k) h tt
            stays i (LoadIndexed w k) h = in_front i (LoadIndexed w k) h tt
            stays i (LoadLength r) h = in_front i (LoadLength r) h tt
            stays i (LoadConstant r k) h = in_front i (LoadConstant r k) h tt
            stays i (LoadScratch r k) h = in_front i (LoadScratch r k) h tt
            stays i (Store r k) h = in_front i (Store r k) h tt
            stays i (LoadNibble k) h = in_front i (LoadNibble k) h tt
            stays i (Alu a b) h = in_front i (Alu a b) h tt
            stays i Negate h = in_front i Negate h tt
            stays i Tax h = in_front i Tax h tt
            stays i Txa h = in_front i Txa h tt

            words : (i : ℕ) (insn : Form) → HasAt forms i insn → NamesWord insn
            words i (LoadScratch r k) h = elim (cases_lt k 16) [
              | inl l ↦ l
              | inr g ↦ absurd (no_own_fault i (LoadScratch r k) NoSuchWord h g)
            ]
            words i (Store r k) h = elim (cases_lt k 16) [
              | inl l ↦ l
              | inr g ↦ absurd (no_own_fault i (Store r k) NoSuchWord h g)
            ]
            words i _ h = tt

-- one place more without a fault of its own
pub own_more : (forms : Forms) (i : ℕ) (found : Option Form) → slice_get forms i ≡ Some found
    → ((cause : Cause) → IsOwnFault (length forms) i found cause → ⊥) → NoOwnFaultBelow forms i
    → NoOwnFaultBelow forms (i + 1)
own_more forms i found here fine before cause j l own = elim (cases_eq j i) [
  | inl e ↦
      let own_here = subst (HasOwnFault forms cause) e own in
      let same : own_here.found ≡ found = cc in
      fine cause (subst (λ f. IsOwnFault (length forms) i f cause) same own_here.fault)
  | inr ne ↦ before cause j (omega arith) own
]

-- what the last instruction says of the end
pub ends_by : (forms : Forms) (last : ℕ) (insn : Form) (returns : Bool) → last + 1 ≡ length forms
    → HasAt forms last insn → MatchBool returns (IsNoReturn insn → ⊥) (IsNoReturn insn)
    → MatchBool returns (EndsInReturn forms) (IsFault forms NoReturnAtEnd last)
ends_by forms last insn true e here told = λ i other e' h n.
    let at : HasAt forms last other = subst (λ k. HasAt forms k other) (omega arith) h in
    told (subst IsNoReturn (one_form forms last other insn at here) n)
ends_by forms last insn false e here told = (e, record { insn = insn; here = here; holds = told })

-- an unknown code at the end counts as a return
pub ends_unknown : (forms : Forms) (last : ℕ) → last + 1 ≡ length forms → slice_get forms last ≡ Some None
    → EndsInReturn forms
ends_unknown forms last e unknown i insn e' h n =
    no_form forms last insn unknown (subst (λ k. HasAt forms k insn) (omega arith) h)

-- accepted code stays within itself and within the scratch memory
pub orderly_from_accepted : (forms : Forms) → IsAccepted forms → IsOrderly forms
orderly_from_accepted forms none = orderly forms some short clean ends
  where
    some : 0 < length forms
    some = elim (cases_lt 0 (length forms)) [
      | inl l ↦ l
      | inr g ↦ absurd (none Empty 0 (nil_from_length forms (omega arith), refl))
    ]

    short : length forms ≤ 4096
    short = elim (cases_lt 4096 (length forms)) [ inl l ↦ absurd (none TooLong 4096 (l, refl)) | inr g ↦ g ]

    clean : NoOwnFaultBelow forms (length forms)
    clean cause i l own = none cause i (own_fault_is forms cause i own.found own.here own.fault)

    ends : EndsInReturn forms
    ends i insn e h n = none NoReturnAtEnd i (e, record { insn = insn; here = h; holds = n })
