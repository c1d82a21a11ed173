-- What a refusal says: one cause with one place, and of an unset word what its explanation asks.
use Rattle.std.proofs.Common.{◌≡◌, ℕ, zero, suc, ◌<◌, ◌≤◌, ◌⊎◌, inl, inr, List, length, Option, Some, None, refl, sym, ap, ◌∙◌}
use Rattle.std.proofs.Common.{subst, arith}
use Rattle.std.proofs.lemmas.Bool.{cases_lt}
use Rattle.gw_insn.specs.declared.insn.Raw.{Raw}
use Rattle.gw_insn.specs.Form.{Form, Load, LoadScratch, Store, Alu, Jump, Branch, Div, Mod, Lsh, Rsh}
use Rattle.gw_verify.specs.declared.cause.Cause.{Cause}
use Rattle.gw_verify.specs.declared.cause.Cause.TheVariants.{TooLong, UnknownCode, DivideByZero, ShiftTooFar, NoSuchWord, JumpOut}
use Rattle.gw_verify.specs.declared.cause.Cause.TheVariants.{Ancillary, UnsetWord, OutOfMemory}
use Rattle.gw_verify.specs.Accepted.{At, DividesByZero, ShiftsTooFar, NamesNoWord, JumpsOut, IsAncillary, IsFirstFault}
use Rattle.gw_verify.specs.Accepted.{IsAccepted, IsRefusal, IsExplainable}
use Rattle.gw_verify.specs.Cause.{rank}
use Rattle.gw_verify.specs.Flow.{Forms, forms_of, Loads}
use Rattle.gw_verify.specs.OwnFault.{IsOwnFault}
use Rattle.gw_verify.proofs.Decoding.{length_forms, one_form}
use Rattle.gw_verify.proofs.Faults.{Kind, of_rank}

-- the one fault that an instruction can have by itself
own_cause : Form → Cause
own_cause (Alu Div operand) = DivideByZero
own_cause (Alu Mod operand) = DivideByZero
own_cause (Alu _ operand) = ShiftTooFar
own_cause (LoadScratch r k) = NoSuchWord
own_cause (Store r k) = NoSuchWord
own_cause (Load w k) = Ancillary
own_cause _ = JumpOut

divides : (insn : Form) → DividesByZero insn → DivideByZero ≡ own_cause insn
unfolding own_cause
divides (Alu Div operand) h = refl
divides (Alu Mod operand) h = refl
divides _ h = absurd h

shifts : (insn : Form) → ShiftsTooFar insn → ShiftTooFar ≡ own_cause insn
unfolding own_cause
shifts (Alu Lsh operand) h = refl
shifts (Alu Rsh operand) h = refl
shifts _ h = absurd h

names : (insn : Form) → NamesNoWord insn → NoSuchWord ≡ own_cause insn
unfolding own_cause
names (LoadScratch r k) h = refl
names (Store r k) h = refl
names _ h = absurd h

jumps : (len i : ℕ) (insn : Form) → JumpsOut len i insn → JumpOut ≡ own_cause insn
unfolding own_cause
jumps len i (Jump k) h = refl
jumps len i (Branch c o jt jf) h = refl
jumps len i _ h = absurd h

loads : (insn : Form) → IsAncillary insn → Ancillary ≡ own_cause insn
unfolding own_cause
loads (Load w k) h = refl
loads _ h = absurd h

one_own_fault : (len i : ℕ) (found : Option Form) (cause other : Cause) → IsOwnFault len i found cause
    → IsOwnFault len i found other → cause ≡ other
one_own_fault len i found cause other f g = is found cause f ∙ sym (is found other g)
  where
    own : Option Form → Cause
    own None = UnknownCode
    own (Some insn) = own_cause insn

    is : (found : Option Form) (cause : Cause) → IsOwnFault len i found cause → cause ≡ own found
    is None UnknownCode f = refl
    is None _ f = absurd f
    is (Some insn) DivideByZero f = divides insn f
    is (Some insn) ShiftTooFar f = shifts insn f
    is (Some insn) NoSuchWord f = names insn f
    is (Some insn) JumpOut f = jumps len i insn f
    is (Some insn) Ancillary f = loads insn f
    is (Some insn) _ f = absurd f

one_word : (insn : Form) (a b : ℕ) → Loads insn a → Loads insn b → a ≡ b
one_word (LoadScratch r k) a b p q = sym p ∙ q
one_word _ a b p q = absurd p

-- two faults of one rank at one place are the same
one_of_kind : (forms : Forms) (cause other : Cause) (i r : ℕ) → Kind forms cause i r → Kind forms other i r
    → cause ≡ other
one_of_kind forms cause other i zero f g = f.0 ∙ sym g.0
one_of_kind forms cause other i (suc zero) f g = f.0 ∙ sym g.0
one_of_kind forms cause other i (suc (suc zero)) f g =
    let same : f.found ≡ g.found = cc in
    let mine = subst (λ x. IsOwnFault (length forms) i x cause) same f.fault in
    one_own_fault (length forms) i g.found cause other mine g.fault
one_of_kind forms cause other i (suc (suc (suc zero))) f g = f.0 ∙ sym g.0
one_of_kind forms cause other i (suc (suc (suc (suc zero)))) f g =
    let same = one_form forms i f.2.load.insn g.2.load.insn f.2.load.here g.2.load.here in
    let loads = subst (λ x. Loads x f.0) same f.2.load.holds in
    f.1 ∙ ap (λ w. UnsetWord w) (one_word g.2.load.insn f.0 g.0 loads g.2.load.holds) ∙ sym g.1
one_of_kind forms cause other i (suc (suc (suc (suc (suc r))))) f g = absurd f

one_first : (forms : Forms) (cause other : Cause) (i j : ℕ) → IsFirstFault forms cause i
    → IsFirstFault forms other j → (cause ≡ other) × (i ≡ j)
one_first forms cause other i j f g =
    let at_most = f.rank_least other j g.fault in
    let at_least = g.rank_least cause i f.fault in
    let rank_is : rank cause ≡ rank other = omega arith in
    let before = f.place_least other j g.fault (sym rank_is) in
    let after = g.place_least cause i f.fault rank_is in
    let place_is : i ≡ j = omega arith in
    let r = rank other in
    let mine = subst (λ n. Kind forms cause n r) place_is (of_rank forms cause i r rank_is f.fault) in
    (one_of_kind forms cause other j r mine (of_rank forms other j r refl g.fault), place_is)

-- a refusal is a first fault, or want of memory for accepted code
refusal_cases : (forms : Forms) (cause : Cause) (i : ℕ) → IsRefusal forms cause i
    → ((cause ≡ OutOfMemory) × IsAccepted forms × (i ≡ 0)) ⊎ IsFirstFault forms cause i
refusal_cases forms OutOfMemory i r = inl (refl, r.0, r.1)
refusal_cases forms _ i r = inr r

-- so a refusal is one, also that for want of memory
pub one_refusal_of : (forms : Forms) (cause other : Cause) (i j : ℕ) → IsRefusal forms cause i
    → IsRefusal forms other j → (cause ≡ other) × (i ≡ j)
one_refusal_of forms cause other i j r s =
    both (refusal_cases forms cause i r) (refusal_cases forms other j s)
  where
    both : ((cause ≡ OutOfMemory) × IsAccepted forms × (i ≡ 0)) ⊎ IsFirstFault forms cause i
        → ((other ≡ OutOfMemory) × IsAccepted forms × (j ≡ 0)) ⊎ IsFirstFault forms other j
        → (cause ≡ other) × (i ≡ j)
    both (inl a) (inl b) = (a.0 ∙ sym b.0, a.2 ∙ sym b.2)
    both (inl a) (inr g) = absurd (a.1 other j g.fault)
    both (inr f) (inl b) = absurd (b.1 cause i f.fault)
    both (inr f) (inr g) = one_first forms cause other i j f g

-- a first fault that is an unset load names one of the 16 words, in code that is not too long
pub explainable : (code : List Raw) (cause : Cause) (i : ℕ) → IsFirstFault (forms_of code) cause i
    → IsExplainable cause code
explainable code (UnsetWord word) i first = (small, short)
  where
    small : word < 16
    small = elim (cases_lt word 16) [
      | inl l ↦ l
      | inr g ↦
          let load = first.fault.0 in
          let names_none = names_no_word load.insn load.holds g in
          let fault : At (forms_of code) i NamesNoWord =
          record { insn = load.insn; here = load.here; holds = names_none } in
          absurd (omega (arith, first.rank_least NoSuchWord i fault))
    ]
      where
        names_no_word : (insn : Form) → Loads insn word → 16 ≤ word → NamesNoWord insn
        names_no_word (LoadScratch r k) l g = omega arith
        names_no_word _ l g = absurd l

    short : length code ≤ 4096
    short = elim (cases_lt 4096 (length code)) [
      | inl l ↦ absurd (omega (arith, first.rank_least TooLong 4096 (rw length_forms l, refl)))
      | inr g ↦ g
    ]
explainable code _ i first = tt
