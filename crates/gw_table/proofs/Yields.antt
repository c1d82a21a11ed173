-- What code answers from a machine on, told by the instructions from the machine's place on.
use Rattle.std.proofs.Common.{◌≡◌, ℕ, zero, suc, ◌+◌, Bool, List, [], ◌∷◌, drop, Some, refl, sym, ap, subst, ◌∙◌, add-zero}
use Rattle.std.specs.Prelude.{slice_get, if◌then◌else◌, nat_eq, nat_lt, nat_le}
use Rattle.std.specs.FinMap.{insert}
use Rattle.std.proofs.lemmas.List.{drop-drop}
use Rattle.gw_insn.specs.declared.insn.Insn.{Insn}
use Rattle.gw_insn.specs.declared.insn.Insn.TheVariants.{StoreA, Jump, JumpEqualConstant, JumpGreaterConstant}
use Rattle.gw_insn.specs.declared.insn.Insn.TheVariants.{JumpAtLeastConstant, ReturnConstant}
use Rattle.gw_insn.specs.Form.{form}
use Rattle.gw_machine.specs.Machine.{Machine, Goes, Ends, Does, with_a}
use Rattle.gw_machine.specs.Runs.{Reaches, after, Returns}

-- from the machine on, code that goes on with these instructions at its place answers so
pub data Yields (octets : List ℕ) (port : ℕ) : List Insn → Machine → ℕ → Type 0 where
  ends : {insn : Insn} {rest : List Insn} {m : Machine} {answer : ℕ} → Does (form insn) octets port m (Ends answer)
      → Yields octets port (insn ∷ rest) m answer
  goes : {insn : Insn} {rest : List Insn} {m m' : Machine} {answer : ℕ} (k : ℕ) → Does (form insn) octets port m (Goes m')
      → m'.place ≡ m.place + 1 + k → Yields octets port (drop k rest) m' answer → Yields octets port (insn ∷ rest) m answer

-- a code and what is left of it at a place: the instruction there, and what is left further on
pub here_in : {A : Type 0} (code : List A) (place : ℕ) (x : A) (rest : List A) → drop place code ≡ x ∷ rest
    → slice_get code place ≡ Some x
here_in [] zero x rest e = absurd (cc)
here_in [] (suc n) x rest e = absurd (cc)
here_in (y ∷ ys) zero x rest e = cc
here_in (y ∷ ys) (suc n) x rest e = here_in ys n x rest e

tail_in : {A : Type 0} (code : List A) (place k : ℕ) (x : A) (rest : List A) → drop place code ≡ x ∷ rest
    → drop (place + 1 + k) code ≡ drop k rest
tail_in code place k x rest e =
    sym (drop-drop k (place + 1) code) ∙ ap (drop k) (sym (drop-drop 1 place code) ∙ ap (drop 1) e)

-- a run that is known by the code ahead of it alone is one of the machine
pub returns_from : (code : List Insn) (octets : List ℕ) (port n : ℕ) (m : Machine) (answer : ℕ) (rest : List Insn)
    → drop m.place code ≡ rest → Reaches code octets port n m → Yields octets port rest m answer
    → (steps : ℕ) × Returns code octets port answer steps
returns_from code octets port n _ _ _ e r (ends {insn} {rest} {m} {answer} d) =
    (suc n, (n, m, r, record { insn = insn; here = here_in code m.place insn rest e; does = d }, refl))
returns_from code octets port n _ _ _ e r (goes {insn} {rest} {m} {m'} {answer} k d p y) =
    let there = subst (λ place. drop place code ≡ drop k rest) (sym p) (tail_in code m.place k insn rest e) in
    returns_from code octets port (suc n) m' answer (drop k rest) there
    (after r (record { insn = insn; here = here_in code m.place insn rest e; does = d })) y

module _ {octets : List ℕ} {port : ℕ} where
  -- on to the next instruction, with a number in A
  pub put_a : {insn : Insn} {rest : List Insn} {m : Machine} {answer : ℕ} (n : ℕ)
      → Does (form insn) octets port m (with_a m n) → Yields octets port rest (record m { place = m.place + 1; a = n }) answer
      → Yields octets port (insn ∷ rest) m answer
  put_a {m = m} n d y = goes 0 d (sym (add-zero (m.place + 1))) y

  -- a store, a jump and a return
  pub stored : {rest : List Insn} {m : Machine} {answer : ℕ} (k : ℕ)
      → Yields octets port rest (record m { place = m.place + 1; scratch = insert m.scratch k m.a }) answer
      → Yields octets port (StoreA k ∷ rest) m answer
  stored {m = m} k y = goes 0 refl (sym (add-zero (m.place + 1))) y

  pub jumped : {rest : List Insn} {m : Machine} {answer : ℕ} (k : ℕ)
      → Yields octets port (drop k rest) (record m { place = m.place + 1 + k }) answer
      → Yields octets port (Jump k ∷ rest) m answer
  jumped k y = goes k refl refl y

  pub returned : {rest : List Insn} {m : Machine} (k : ℕ) → Yields octets port (ReturnConstant k ∷ rest) m k
  returned k = ends refl

  -- a conditional jump whose test comes out so
  pub if_equal : {rest : List Insn} {m : Machine} {answer : ℕ} (jt jf k : ℕ) (test : Bool) → nat_eq m.a k ≡ test
      → Yields octets port (drop (if test then jt else jf) rest) (record m { place = m.place + 1 + (if test then jt else jf) })
      answer → Yields octets port (JumpEqualConstant jt jf k ∷ rest) m answer
  if_equal {m = m} jt jf k test e y =
      goes (if test then jt else jf) (ap (λ t. Goes (record m { place = m.place + 1 + (if t then jt else jf) })) (sym e)) refl y

  pub if_at_least : {rest : List Insn} {m : Machine} {answer : ℕ} (jt jf k : ℕ) (test : Bool) → nat_le k m.a ≡ test
      → Yields octets port (drop (if test then jt else jf) rest) (record m { place = m.place + 1 + (if test then jt else jf) })
      answer → Yields octets port (JumpAtLeastConstant jt jf k ∷ rest) m answer
  if_at_least {m = m} jt jf k test e y =
      goes (if test then jt else jf) (ap (λ t. Goes (record m { place = m.place + 1 + (if t then jt else jf) })) (sym e)) refl y

  pub if_greater : {rest : List Insn} {m : Machine} {answer : ℕ} (jt jf k : ℕ) (test : Bool) → nat_lt k m.a ≡ test
      → Yields octets port (drop (if test then jt else jf) rest) (record m { place = m.place + 1 + (if test then jt else jf) })
      answer → Yields octets port (JumpGreaterConstant jt jf k ∷ rest) m answer
  if_greater {m = m} jt jf k test e y =
      goes (if test then jt else jf) (ap (λ t. Goes (record m { place = m.place + 1 + (if t then jt else jf) })) (sym e)) refl y
