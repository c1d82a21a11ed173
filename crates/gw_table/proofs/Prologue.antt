-- The prologue of an emission: it stores the fields of an extended data frame, and answers for every other frame.
use Rattle.std.proofs.Common.{◌≡◌, ℕ, ◌+◌, ◌*◌, ◌/◌, ◌^◌, ◌≤◌, Bool, true, false, not, List, ◌∷◌, ◌++◌, length, drop, Some, refl}
use Rattle.std.proofs.Common.{sym, ap, ◌∙◌, arith, le-leb, ltb-true, ltb-false}
use Rattle.std.specs.Prelude.{if◌then◌else◌, nat_le, slice_index, bit_and}
use Rattle.std.specs.Ordering.{nat_cmp}
use Rattle.std.specs.FinMap.{FinMap, insert, get-insert}
use Rattle.std.specs.Cmp.{nat_cmp_total}
use Rattle.std.proofs.lemmas.Bool.{lt-leb}
use Rattle.gw_ident.specs.Identifier.{is_extended_data, is_pdu1, pdu_format, pdu_specific, page, parameter_group}
use Rattle.gw_ident.specs.Identifier.{destination_address, source_address}
use Rattle.gw_frame.specs.Record.{IsRecord, word_of}
use Rattle.gw_insn.specs.Form.{Byte, Word}
use Rattle.gw_insn.specs.declared.insn.Insn.{Insn}
use Rattle.gw_insn.specs.declared.insn.Insn.TheVariants.{LoadByte, LoadWord}
use Rattle.gw_machine.specs.Machine.{Machine, start, number_at, or_end, with_a}
use Rattle.gw_table.specs.declared.table.Action.{Action}
use Rattle.gw_table.specs.Emission.{answer_for, prologue}
use Rattle.gw_table.proofs.Parts.{Fields, Keeps, Decides}
use Rattle.gw_table.proofs.Words.{IsWord, source_is, format_is, specific_is, extended_is, pdu1_group_is, pdu2_group_is}
use Rattle.gw_table.proofs.Yields.{Yields, put_a, stored, jumped, returned, if_equal, if_at_least}

-- the three scratch words that the prologue stores are the fields
keeps_words : (fields : Fields) (words : FinMap nat_cmp ℕ) (group source destination : ℕ) → group ≡ fields.group
    → source ≡ fields.source → destination ≡ fields.destination
    → Keeps fields (insert (insert (insert words 1 source) 2 destination) 0 group)
keeps_words fields words g s d is_g is_s is_d =
    let one = insert words 1 s in
    let two = insert one 2 d in
    record {
      group = get-insert nat_cmp_total two 0 g 0 ∙ ap Some is_g;
      source = get-insert nat_cmp_total two 0 g 1 ∙ get-insert nat_cmp_total one 2 d 1 ∙ get-insert nat_cmp_total words 1 s 1
          ∙ ap Some is_s;
      destination = get-insert nat_cmp_total two 0 g 2 ∙ get-insert nat_cmp_total one 2 d 2 ∙ ap Some is_d;
    }

-- fields of an identifier fit their ranges
pub group_fits : (word : ℕ) → parameter_group word ≤ 262143
group_fits word = by (is_pdu1 word)
  where
    by : (pdu1 : Bool) → 65536 * page word + 256 * pdu_format word + (if pdu1 then 0 else pdu_specific word) ≤ 262143
    by true = omega arith
    by false = omega arith

pub destination_fits : (word : ℕ) → destination_address word ≤ 255
destination_fits word = by (is_pdu1 word)
  where
    by : (pdu1 : Bool) → (if pdu1 then pdu_specific word else 255) ≤ 255
    by true = omega arith
    by false = omega arith

-- the fields of an identifier word
unfoldable pub fields_of : ℕ → Fields
fields_of word = record {
  group = parameter_group word;
  source = source_address word;
  destination = destination_address word;
  group_fits = group_fits word;
  source_fits = omega arith;
  destination_fits = destination_fits word;
}

module _ (octets : List ℕ) (port : ℕ) (is_record : IsRecord octets) where
  abbrev word : ℕ
  word = word_of octets

  abbrev octet : ℕ → ℕ
  octet i = slice_index octets i

  -- a record begins with its identifier word, whose octets the prologue loads
  is_word : IsWord word (octet 0) (octet 1) (octet 2) (octet 3)
  is_word = record {
    sum = omega arith;
    a_fits = is_record.octets_fit 0;
    b_fits = is_record.octets_fit 1;
    c_fits = is_record.octets_fit 2;
    d_fits = is_record.octets_fit 3;
  }

  word_here : number_at octets 0 Word ≡ Some word
  word_here =
      let long = is_record.not_short in
      let within : nat_le 4 (length octets) ≡ true = le-leb 4 (length octets) (omega arith) in
      rw within (ap Some (omega arith))

  octet_here : (k : ℕ) → k ≤ 7 → number_at octets k Byte ≡ Some (octet k)
  octet_here k l =
      let long = is_record.not_short in
      let within : nat_le (k + 1) (length octets) ≡ true = le-leb (k + 1) (length octets) (omega arith) in
      let at : k + 0 ≡ k = omega arith in
      rw (within, at) (ap Some (omega arith))

  -- loads of the prologue
  put_word : {rest : List Insn} {m : Machine} {answer : ℕ}
      → Yields octets port rest (record m { place = m.place + 1; a = word }) answer
      → Yields octets port (LoadWord 0 ∷ rest) m answer
  put_word {m = m} y = put_a word (ap (λ o. or_end o (with_a m)) (sym word_here)) y

  put_octet : {rest : List Insn} {m : Machine} {answer : ℕ} (k : ℕ) → k ≤ 7
      → Yields octets port rest (record m { place = m.place + 1; a = octet k }) answer
      → Yields octets port (LoadByte k ∷ rest) m answer
  put_octet {m = m} k l y = put_a (octet k) (ap (λ o. or_end o (with_a m)) (sym (octet_here k l))) y

  module _ (other : Action) (rest : List Insn) (inside : ℕ) (decides : Decides octets port (fields_of word) rest inside) where
    pdu1_yields : is_pdu1 word ≡ true → (m : Machine)
        → Yields octets port (drop 8 (prologue other) ++ rest) (record m { scratch = insert m.scratch 1 (octet 3) }) inside
    unfolding fields_of
    pdu1_yields pdu1 m =
        put_octet 2 (omega arith)
        (stored 2 (put_word (put_a (word / 2 ^ 8) (
          word / 2 ^ 8,
          refl,
          refl,
        ) (put_a (bit_and (word / 2 ^ 8) 0x3ff00) (
          bit_and (word / 2 ^ 8) 0x3ff00,
          refl,
          refl,
        ) (stored 0 (jumped 6
        (decides _ (keeps_words (fields_of word) m.scratch _ (octet 3) (octet 2) (pdu1_group_is word _ _ _ _ is_word pdu1)
        (sym (source_is word _ _ _ _ is_word)) specific))))))))
      where
        specific : octet 2 ≡ destination_address word
        specific = rw pdu1 (sym (specific_is word _ _ _ _ is_word))

    pdu2_yields : is_pdu1 word ≡ false → (m : Machine)
        → Yields octets port (drop 15 (prologue other) ++ rest) (record m { scratch = insert m.scratch 1 (octet 3) }) inside
    unfolding fields_of
    pdu2_yields pdu2 m =
        put_a 0xff refl (stored 2
        (put_word (put_a (word / 2 ^ 8) (
          word / 2 ^ 8,
          refl,
          refl,
        ) (put_a (bit_and (word / 2 ^ 8) 0x3ffff) (
          bit_and (word / 2 ^ 8) 0x3ffff,
          refl,
          refl,
        ) (stored 0 (decides _
        (keeps_words (fields_of word) m.scratch _ (octet 3) 0xff (pdu2_group_is word _ _ _ _ is_word pdu2)
        (sym (source_is word _ _ _ _ is_word)) global)))))))
      where
        global : 0xff ≡ destination_address word
        global = rw pdu2

    -- the test of the PDU format
    format_test : nat_le 0xf0 (octet 1) ≡ not (is_pdu1 word)
    format_test = by (is_pdu1 word) refl
      where
        by : (pdu1 : Bool) → is_pdu1 word ≡ pdu1 → nat_le 0xf0 (octet 1) ≡ not pdu1
        by true e = let low = ltb-true (pdu_format word) 240 e in let format = format_is word _ _ _ _ is_word in
            lt-leb 0xf0 (octet 1) (omega arith)
        by false e = let high = ltb-false (pdu_format word) 240 e in let format = format_is word _ _ _ _ is_word in
            le-leb 0xf0 (octet 1) (omega arith)

    -- from its start on, the prologue leads to `rest` with the fields stored, or answers for `other`
    pub prologue_yields : Yields octets port (prologue other ++ rest) start
        (if is_extended_data word then inside else answer_for other)
    prologue_yields =
        put_word (put_a (bit_and word 0xe0000000) (
          bit_and word 0xe0000000,
          refl,
          refl,
        ) (if_equal 1 0 0x80000000 (is_extended_data word) (extended_is word _ _ _ _ is_word)
        (by_kind (is_extended_data word) _)))
      where
        by_format : (pdu1 : Bool) → is_pdu1 word ≡ pdu1 → (m : Machine)
            → Yields octets port (drop (if not pdu1 then 7 else 0) (drop 8 (prologue other) ++ rest))
            (record m { scratch = insert m.scratch 1 (octet 3) }) inside
        by_format true e m = pdu1_yields e m
        by_format false e m = pdu2_yields e m

        by_kind : (extended : Bool) (m : Machine)
            → Yields octets port (drop (if extended then 1 else 0) (drop 3 (prologue other) ++ rest)) m
            (if extended then inside else answer_for other)
        by_kind true m =
            put_octet 3 (omega arith)
            (stored 1 (put_octet 1 (omega arith)
            (if_at_least 7 0 0xf0 (not (is_pdu1 word)) format_test (by_format (is_pdu1 word) refl _))))
        by_kind false m = returned (answer_for other)
