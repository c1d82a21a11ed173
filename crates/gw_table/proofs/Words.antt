-- The fields of an identifier word as the prologue computes them of its octets.
use Rattle.std.proofs.Common.{◌≡◌, ℕ, ◌+◌, ◌*◌, ◌/◌, ◌^◌, ◌<◌, true, false, inl, inr, sym, ◌∙◌, arith, eq-eqb, ne_eqb}
use Rattle.std.specs.Prelude.{nat_eq, bit_and}
use Rattle.std.proofs.lemmas.Bool.{cases_eq}
use Rattle.std.proofs.lemmas.Nat.Bits.{and_high}
use Rattle.gw_ident.specs.Identifier.{is_extended_data, is_pdu1, pdu_format, pdu_specific, parameter_group, source_address}

-- a word and its octets, the highest first
pub record IsWord (word a b c d : ℕ) : Type 0 where
  pub sum : word ≡ 16777216 * a + 65536 * b + 256 * c + d
  pub a_fits : a < 256
  pub b_fits : b < 256
  pub c_fits : c < 256
  pub d_fits : d < 256

module _ (word a b c d : ℕ) (is : IsWord word a b c d) where
  pub source_is : source_address word ≡ d
  source_is = omega (arith, is.sum)

  pub format_is : pdu_format word ≡ b
  format_is = omega (arith, is.sum)

  pub specific_is : pdu_specific word ≡ c
  specific_is = omega (arith, is.sum)

  pub extended_is : nat_eq (bit_and word 0xe0000000) 0x80000000 ≡ is_extended_data word
  extended_is = elim (cases_eq (word / 2 ^ 29) 4) [
    | inl e ↦
        let flags = and_high word 3 29 in
        let same : bit_and word 0xe0000000 ≡ 0x80000000 = omega (arith, flags, e) in
        eq-eqb _ _ same ∙ sym (eq-eqb _ _ e)
    | inr ne ↦
        let flags = and_high word 3 29 in
        let apart : bit_and word 0xe0000000 ≡ 0x80000000 → ⊥ = λ same. ne (omega (arith, flags, same, is.sum)) in
        ne_eqb _ _ apart ∙ sym (ne_eqb _ _ ne)
  ]

  pub pdu1_group_is : is_pdu1 word ≡ true → bit_and (word / 2 ^ 8) 0x3ff00 ≡ parameter_group word
  pdu1_group_is pdu1 =
      let group = and_high (word / 2 ^ 8) 10 8 in
      rw pdu1 (omega (arith, group))

  pub pdu2_group_is : is_pdu1 word ≡ false → bit_and (word / 2 ^ 8) 0x3ffff ≡ parameter_group word
  pdu2_group_is pdu2 =
      let group = and_high (word / 2 ^ 8) 18 0 in
      rw pdu2 (omega (arith, group))
