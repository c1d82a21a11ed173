-- Examples of the definitions.
use Rattle.std.proofs.Common.{◌≡◌, Some, None, List, [], ◌∷◌, refl}
use Rattle.std.specs.Prelude.{codes}
use Rattle.std.specs.Fmt.{digits}
use Rattle.gw_insn.specs.declared.insn.Raw.{Raw}
use Rattle.gw_insn.specs.declared.insn.Insn.TheVariants.{LoadHalf, JumpEqualConstant}
use Rattle.gw_insn.specs.Form.{Load, Half, Branch, Equal, Constant}
use Rattle.gw_insn.specs.Table.{insn_of, form_of, fields, canonical}
use Rattle.gw_insn.specs.Spelling.{plain_listing}

-- `ldh [12]`, `jeq #0x806` and an unknown code
ldh : insn_of (fields 40 0 0 12) ≡ Some (LoadHalf 12)
ldh = refl

jeq : insn_of (fields 21 0 1 2054) ≡ Some (JumpEqualConstant 0 1 2054)
jeq = refl

unknown : insn_of (fields 14 0 0 0) ≡ None
unknown = refl

-- the first two in groups
ldh_form : form_of (fields 40 0 0 12) ≡ Some (Load Half 12)
ldh_form = refl

jeq_form : form_of (fields 21 0 1 2054) ≡ Some (Branch Equal (Constant 2054) 0 1)
jeq_form = refl

-- fields that `ldh [12]`, `jmp`, `jeq #0x806`, `jeq x`, `add x` and `ret a` do not use
ldh_canonical : canonical (fields 0x28 7 9 12) ≡ fields 0x28 0 0 12
unfolding canonical
ldh_canonical = refl

jmp_canonical : canonical (fields 0x05 7 9 6) ≡ fields 0x05 0 0 6
unfolding canonical
jmp_canonical = refl

jeq_canonical : canonical (fields 0x15 0 1 2054) ≡ fields 0x15 0 1 2054
unfolding canonical
jeq_canonical = refl

jeq_x_canonical : canonical (fields 0x1d 7 9 6) ≡ fields 0x1d 7 9 0
unfolding canonical
jeq_x_canonical = refl

add_x_canonical : canonical (fields 0x0c 7 9 6) ≡ fields 0x0c 0 0 0
unfolding canonical
add_x_canonical = refl

ret_a_canonical : canonical (fields 0x16 7 9 6) ≡ fields 0x16 0 0 0
unfolding canonical
ret_a_canonical = refl

-- `ldh [12]`, `jne #0x806, drop`, `ret #-1`, `drop: ret #0`, as bpf_asm prints them; the greatest fields; nothing
four : List Raw
four = fields 40 0 0 12 ∷ fields 21 0 1 2054 ∷ fields 6 0 0 4294967295 ∷ fields 6 0 0 0 ∷ []

four_plain : plain_listing four ≡ codes "4,40 0 0 12,21 0 1 2054,6 0 0 4294967295,6 0 0 0,"
unfolding four digits
four_plain = refl

greatest_plain : plain_listing (fields 65535 255 255 4294967295 ∷ []) ≡ codes "1,65535 255 255 4294967295,"
unfolding digits
greatest_plain = refl

none_plain : plain_listing [] ≡ codes "0,"
unfolding digits
none_plain = refl
