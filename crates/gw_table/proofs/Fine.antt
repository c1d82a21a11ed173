-- Code whose instructions are right by themselves.
use Rattle.std.proofs.Common.{◌≡◌, ℕ, zero, suc, ◌+◌, ◌<◌, ◌≤◌, ◌⊎◌, List, [], ◌∷◌, length, Option, Some, None, inl, inr, sym, ap}
use Rattle.std.proofs.Common.{subst, ◌∙◌, arith}
use Rattle.std.specs.Prelude.{slice_get}
use Rattle.std.proofs.lemmas.List.{length-map}
use Rattle.gw_insn.specs.declared.insn.Insn.{Insn}
use Rattle.gw_insn.specs.Form.{Form, Load, LoadConstant, LoadScratch, Store, Alu, Jump, Branch, ReturnConstant, Word, Half, Byte}
use Rattle.gw_insn.specs.Form.{Constant, And, Rsh, form}
use Rattle.gw_verify.specs.declared.cause.Cause.{Cause}
use Rattle.gw_verify.specs.declared.cause.Cause.TheVariants.{Empty, TooLong, UnknownCode, DivideByZero, ShiftTooFar, NoSuchWord}
use Rattle.gw_verify.specs.declared.cause.Cause.TheVariants.{JumpOut, Ancillary, NoReturnAtEnd, UnsetWord, OutOfMemory}
use Rattle.gw_verify.specs.Flow.{Loads, IsBare, program_forms}
use Rattle.gw_verify.specs.Accepted.{DividesByZero, ShiftsTooFar, NamesNoWord, JumpsOut, IsAncillary, IsNoReturn, At, IsFault}
use Rattle.gw_verify.specs.Accepted.{IsAccepted}

-- an instruction, of the kinds that tables need, before so many others: it goes on to one of them, or returns
abbrev pub IsFine : ℕ → Form → Type 0
IsFine after (Load Word k) = (0 < after) × ((k < 0xfffff000) ⊎ (k ≡ 0xfffff008))
IsFine after (Load Byte k) = (0 < after) × (k < 0xfffff000)
IsFine after (LoadConstant register k) = 0 < after
IsFine after (LoadScratch register k) = (0 < after) × (k < 3)
IsFine after (Store register k) = (0 < after) × (k < 16)
IsFine after (Alu And (Constant k)) = 0 < after
IsFine after (Alu Rsh (Constant k)) = (0 < after) × (k < 32)
IsFine after (Jump k) = k < after
IsFine after (Branch comparison operand jt jf) = (jt < after) × (jf < after)
IsFine after (ReturnConstant k) = Unit {0}
IsFine after _ = ⊥

-- each instruction of a code is fine before those that follow it
abbrev pub AllFine : List Insn → Type 0
AllFine [] = Unit {0}
AllFine (insn ∷ rest) = IsFine (length rest) (form insn) × AllFine rest

module _ (after : ℕ) where
  -- a fine instruction has none of the faults that one has by itself
  no_zero : (insn : Form) → IsFine after insn → DividesByZero insn → ⊥
  no_zero (Alu And (Constant k)) fine divides = divides
  no_zero (Alu Rsh (Constant k)) fine divides = divides
  no_zero (Alu operation operand) fine divides = fine
  no_zero _ fine divides = divides

  no_far_shift : (insn : Form) → IsFine after insn → ShiftsTooFar insn → ⊥
  no_far_shift (Alu And (Constant k)) fine far = far
  no_far_shift (Alu Rsh (Constant k)) fine far = omega arith
  no_far_shift (Alu operation operand) fine far = fine
  no_far_shift _ fine far = far

  no_other_word : (insn : Form) → IsFine after insn → NamesNoWord insn → ⊥
  no_other_word (LoadScratch r k) fine other = omega arith
  no_other_word (Store r k) fine other = omega arith
  no_other_word _ fine other = other

  no_way_out : (insn : Form) (len i : ℕ) → i + 1 + after ≡ len → IsFine after insn → JumpsOut len i insn → ⊥
  no_way_out (Jump k) len i total fine out = omega arith
  no_way_out (Branch c o jt jf) len i total fine (inl out) = omega arith
  no_way_out (Branch c o jt jf) len i total fine (inr out) = omega arith
  no_way_out _ len i total fine out = out

  no_ancillary : (insn : Form) → IsFine after insn → IsAncillary insn → ⊥
  no_ancillary (Load Word k) fine ancillary = elim fine.1 [ inl low ↦ omega (arith, ancillary.0) | inr port ↦ ancillary.1 port ]
  no_ancillary (Load Half k) fine ancillary = fine
  no_ancillary (Load Byte k) fine ancillary = omega arith
  no_ancillary _ fine ancillary = ancillary

  -- an instruction that is no return has one behind it
  goes_on : (insn : Form) → IsFine after insn → IsNoReturn insn → 0 < after
  goes_on (Load Word k) fine on = fine.0
  goes_on (Load Half k) fine on = absurd fine
  goes_on (Load Byte k) fine on = fine.0
  goes_on (LoadConstant r k) fine on = fine
  goes_on (LoadScratch r k) fine on = fine.0
  goes_on (Store r k) fine on = fine.0
  goes_on (Alu And (Constant k)) fine on = fine
  goes_on (Alu Rsh (Constant k)) fine on = fine.0
  goes_on (Jump k) fine on = omega arith
  goes_on (Branch c o jt jf) fine on = omega arith
  goes_on (ReturnConstant k) fine on = absurd on
  goes_on _ fine on = absurd fine

  -- tables load the scratch words 0 to 2 alone
  loads_below : (insn : Form) (word : ℕ) → IsFine after insn → Loads insn word → word < 3
  loads_below (LoadScratch r k) word fine loads = omega arith
  loads_below _ word fine loads = absurd loads

-- a place of the code, with its instruction and how many follow it
record FineAt (len i : ℕ) (found : Option Form) : Type 0 where
  insn : Form
  is : found ≡ Some insn
  after : ℕ
  total : i + 1 + after ≡ len
  fine : IsFine after insn

-- what stands at a place of fine code
fine_at : (code : List Insn) (i : ℕ) (found : Option Form) → AllFine code → slice_get (program_forms code) i ≡ Some found
    → FineAt (length code) i found
fine_at [] i found all here = absurd (cc)
fine_at (insn ∷ rest) zero found all here = record {
  insn = form insn;
  is = cc;
  after = length rest;
  total = omega arith;
  fine =
      all.0;
}
fine_at (insn ∷ rest) (suc i) found all here =
    let later = fine_at rest i found all.1 here in
    let total = later.total in
    record { insn = later.insn; is = later.is; after = later.after; total = omega arith; fine = later.fine }

module _ (code : List Insn) (all : AllFine code) where
  -- the property of the instruction at a place, with the place
  with_fine : {P : Form → Type 0} (i : ℕ) → At (program_forms code) i P
      → (after : ℕ) × (insn : Form) × (i + 1 + after ≡ length code) × IsFine after insn × P insn
  with_fine {P} i at =
      let here = fine_at code i (Some at.insn) all at.here in
      let same : at.insn ≡ here.insn = cc (here.is) in
      (here.after, here.insn, here.total, here.fine, subst P same at.holds)

  -- fine code in which no bare place loads one of the first three words is accepted
  pub accepted : 0 < length code → length code ≤ 4096
      → ((word i : ℕ) → word < 3 → At (program_forms code) i (λ insn. Loads insn word) → IsBare (program_forms code) i word → ⊥)
      → IsAccepted (program_forms code)
  accepted some short bare cause i fault = by cause fault
    where
      len : length (program_forms code) ≡ length code
      len = length-map code (λ insn. Some (form insn))

      by : (cause : Cause) → IsFault (program_forms code) cause i → ⊥
      by Empty f = let none = ap length f.0 in omega (arith, len)
      by TooLong f = omega (arith, len, f.0)
      by UnknownCode f = let here = fine_at code i None all f in absurd (cc (here.is))
      by DivideByZero f = let at = with_fine i f in no_zero at.0 at.1 at.3 at.4
      by ShiftTooFar f = let at = with_fine i f in no_far_shift at.0 at.1 at.3 at.4
      by NoSuchWord f = let at = with_fine i f in no_other_word at.0 at.1 at.3 at.4
      by JumpOut f = let at = with_fine i f in no_way_out at.0 at.1 (length (program_forms code)) i (at.2 ∙ sym len) at.3 at.4
      by Ancillary f = let at = with_fine i f in no_ancillary at.0 at.1 at.3 at.4
      by NoReturnAtEnd f = let at = with_fine i f.1 in let on = goes_on at.0 at.1 at.3 at.4 in omega (arith, at.2, f.0, len)
      by (UnsetWord word) f = let at = with_fine i f.0 in bare word i (loads_below at.0 at.1 word at.3 at.4) f.0 f.1
      by OutOfMemory f = f
