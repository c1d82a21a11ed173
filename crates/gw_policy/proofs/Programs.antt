-- Programs of the same instructions pass the same frames.
use Rattle.std.proofs.Common.{◌≡◌, ◌==◌, ◌&&◌, Bool, true, Some, Decides, ap, sym, ◌∙◌, subst, arith}
use Rattle.std.proofs.lemmas.Bool.Decides.{nat_tests}
use Rattle.std.specs.Cmp.{first_so, second_so}
use Rattle.gw_insn.specs.Table.{insn_of, raw_of}
use Rattle.gw_insn.specs.declared.insn.Insn.{Insn}
use Rattle.gw_insn.specs.declared.insn.Raw.{Raw}
use Rattle.gw_insn.specs.contracts.insn.RawPartialEq.TheImpl as fields
use Rattle.gw_insn.proofs.Callers.{insn_of-raw_of}

abbrev equal_fields : Raw → Raw → Bool
equal_fields one other = one.code == other.code && (one.jt == other.jt && (one.jf == other.jf && one.k == other.k))

same_fields : (one other : Raw) → equal_fields one other ≡ true → one ≡ other
same_fields one other same =
    let rest = second_so (one.code == other.code) _ same in
    let last = second_so (one.jt == other.jt) _ rest in
    let c : (one.code == other.code) ≡ true = first_so (one.code == other.code) _ same in
    let t : (one.jt == other.jt) ≡ true = first_so (one.jt == other.jt) _ rest in
    let f : (one.jf == other.jf) ≡ true = first_so (one.jf == other.jf) _ last in
    let k : (one.k == other.k) ≡ true = second_so (one.jf == other.jf) _ last in
    let code : one.code ≡ other.code = grind (arith, nat_tests) in
    let jt : one.jt ≡ other.jt = grind (arith, nat_tests) in
    let jf : one.jf ≡ other.jf = grind (arith, nat_tests) in
    let k' : one.k ≡ other.k = grind (arith, nat_tests) in
    λ i. record { code = code i; jt = jt i; jf = jf i; k = k' i }

same_as_itself : (raw : Raw) → equal_fields raw raw ≡ true
same_as_itself raw = grind (arith, nat_tests)

some_is : {A : Type 0} (x y : A) → Some x ≡ Some y → x ≡ y
some_is x y same = cc same

-- instructions are equal by their fields exactly where they are one
pub equal_insns : (one other : Insn) → Decides ((fields.ghosts).eq (raw_of one) (raw_of other)) (one ≡ other)
equal_insns one other = (
  λ same. some_is one other (sym (insn_of-raw_of one) ∙ ap insn_of (same_fields (raw_of one) (raw_of other) same)
      ∙ insn_of-raw_of other),
  λ same. subst (λ insn. equal_fields (raw_of one) (raw_of insn) ≡ true) same (same_as_itself (raw_of one)),
)
