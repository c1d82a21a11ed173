-- Policies that judge by the words of frames: tables, and programs that load no more of a record.
use Rattle.std.proofs.Common.{◌≡◌, ℕ, zero, suc, ◌+◌, ◌*◌, ◌<◌, ◌≤◌, ◌==◌, true, ◌&&◌, not, if◌then◌else◌, List, length}
use Rattle.std.proofs.Common.{◌||◌, Option, Some, None, get_or, refl, sym, ap, ◌∙◌, subst, arith, inl, inr}
use Rattle.std.specs.Prelude.{nat_le, option_map, slice_index, unwrap_or, slice_get}
use Rattle.std.specs.List.{find}
use Rattle.std.proofs.lemmas.Bool.{cases_eq, false≢true, le-leb, leb-true, ne_eqb}
use Rattle.std.proofs.lemmas.Option.{slice_get_within, unwrap_or-slice_get}
use Rattle.gw_ident.specs.Identifier.{is_extended_data, parameter_group, destination_address, source_address}
use Rattle.gw_frame.specs.Record.{IsRecord, word_of}
use Rattle.gw_insn.specs.declared.insn.Insn.{Insn}
use Rattle.gw_insn.specs.Form.{Form, Load, LoadIndexed, LoadLength, LoadConstant, LoadScratch, Store, LoadNibble, Alu, Negate}
use Rattle.gw_insn.specs.Form.{Jump, Branch, ReturnConstant, ReturnA, Tax, Txa, Width, Word, Half, Byte, form}
use Rattle.gw_machine.specs.Machine.{Machine, Outcome, Goes, Ends, big_endian, loaded, number_at, octets_in, or_end}
use Rattle.gw_machine.specs.Machine.{start, with_a}
use Rattle.gw_machine.specs.Answers.{Answer, answer_at, answer_by, answer_within, answer_of, outcome}
use Rattle.gw_table.specs.Table.{Meaning, is_pass, lies_in, table_passes}
use Rattle.gw_policy.specs.Filter.{Filter}
use Rattle.gw_policy.specs.Batches.{passes}
use Rattle.gw_policy.specs.Cached.{IsByWord, TakesWordAlone, takes_word_alone}

-- ---- tables

table_by_word : (table : Meaning) (one other : List ℕ) (port : ℕ) → word_of one ≡ word_of other
    → table_passes table one port ≡ table_passes table other port
table_by_word table one other port same =
    ap (λ word. is_pass (if is_extended_data word
    then unwrap_or (option_map (λ rule. rule.action) (find (λ rule. lies_in (parameter_group word) rule.pgn
    && lies_in (source_address word) rule.source && lies_in (destination_address word) rule.destination
    && lies_in port rule.from) table.rules)) table.otherwise
    else table.other)) same

pub by_word : (filter : Filter) (table : Meaning) → filter.table ≡ Some table → IsByWord (Some filter)
by_word filter table is one other port _ _ same = judged one ∙ table_by_word table one other port same ∙ sym (judged other)
  where
    judged : (frame : List ℕ) → passes (Some filter) frame port ≡ table_passes table frame port
    judged frame = ap (λ (has : Option Meaning). passes (Some (record { code = filter.code; table = has })) frame port) is

-- ---- programs

-- the instruction that a place of the code has is such
at_place : (code : List Insn) → TakesWordAlone code → (place : ℕ) (insn : Insn) → slice_get code place ≡ Some insn
    → takes_word_alone (form insn) ≡ true
at_place code takes place insn is =
    let here : get_or code place insn ≡ insn =
    sym (unwrap_or-slice_get code place insn) ∙ ap (λ found. unwrap_or found insn) is in
    subst (λ i. takes_word_alone (form i) ≡ true) here (takes place insn (slice_get_within code place insn is))

module _ (one other : List ℕ) (port : ℕ) (is_one : IsRecord one) (is_other : IsRecord other)
    (same : word_of one ≡ word_of other) where
  first_four : (slice_index one 0 ≡ slice_index other 0) × (slice_index one 1 ≡ slice_index other 1)
      × (slice_index one 2 ≡ slice_index other 2) × (slice_index one 3 ≡ slice_index other 3)
  first_four =
      let a = is_one.octets_fit 0 in
      let b = is_one.octets_fit 1 in
      let c = is_one.octets_fit 2 in
      let d = is_one.octets_fit 3 in
      let a' = is_other.octets_fit 0 in
      let b' = is_other.octets_fit 1 in
      let c' = is_other.octets_fit 2 in
      let d' = is_other.octets_fit 3 in
      (omega arith, omega arith, omega arith, omega arith)

  octet_alike : (i : ℕ) → i < 4 → slice_index one i ≡ slice_index other i
  octet_alike zero low = first_four.0
  octet_alike (suc zero) low = first_four.1
  octet_alike (suc (suc zero)) low = first_four.2
  octet_alike (suc (suc (suc zero))) low = first_four.3
  octet_alike (suc (suc (suc (suc i)))) low = absurd (omega arith)

  big_alike : (k n : ℕ) → k + n ≤ 4 → big_endian one k n ≡ big_endian other k n
  big_alike k zero within = refl
  big_alike k (suc n) within =
      ap (λ high. 256 * high + slice_index one (k + n)) (big_alike k n (omega (arith, within)))
      ∙ ap (λ octet. 256 * big_endian other k n + octet) (octet_alike (k + n) (omega (arith, within)))

  -- a number of the first four octets is there, and that of the other record
  number_alike : (k : ℕ) (width : Width) → k + octets_in width ≤ 4 → number_at one k width ≡ number_at other k width
  number_alike k width within =
      ap (λ b. if b then Some (big_endian one k (octets_in width)) else None) (there one is_one)
      ∙ ap (λ n. Some n) (big_alike k (octets_in width) within)
      ∙ sym (ap (λ b. if b then Some (big_endian other k (octets_in width)) else None) (there other is_other))
    where
      there : (octets : List ℕ) → IsRecord octets → nat_le (k + octets_in width) (length octets) ≡ true
      there octets is = le-leb (k + octets_in width) (length octets) (omega (arith, within, is.not_short))

  word_alike : (k : ℕ) → ((k == 0) || (k == 0xfffff008)) ≡ true → loaded Word k one port ≡ loaded Word k other port
  word_alike k takes = elim (cases_eq k 0) [
    | inl first ↦ subst (λ k. loaded Word k one port ≡ loaded Word k other port) (sym first)
        (number_alike 0 Word (omega arith))
    | inr apart ↦ (let interface : (k == 0xfffff008) ≡ true =
        ap (λ b. b || (k == 0xfffff008)) (sym (ne_eqb k 0 apart)) ∙ takes in
        ap (λ b. if b then Some port else number_at one k Word) interface
        ∙ sym (ap (λ b. if b then Some port else number_at other k Word) interface))
  ]

  leads_alike : (f : Form) → takes_word_alone f ≡ true → (m : Machine) → outcome f one port m ≡ outcome f other port m
  leads_alike (Load Word k) takes m = ap (λ n. or_end n (with_a m)) (word_alike k takes)
  leads_alike (Load Half k) takes m =
      ap (λ n. or_end n (with_a m)) (number_alike k Half (omega (arith, leb-true k 2 takes)))
  leads_alike (Load Byte k) takes m =
      ap (λ n. or_end n (with_a m)) (number_alike k Byte (omega (arith, leb-true k 3 takes)))
  leads_alike (LoadIndexed width k) takes m = absurd (false≢true takes)
  leads_alike (LoadLength r) takes m = absurd (false≢true takes)
  leads_alike (LoadConstant r k) takes m = refl
  leads_alike (LoadScratch r k) takes m = refl
  leads_alike (Store r k) takes m = refl
  leads_alike (LoadNibble k) takes m = absurd (false≢true takes)
  leads_alike (Alu operation operand) takes m = refl
  leads_alike Negate takes m = refl
  leads_alike (Jump k) takes m = refl
  leads_alike (Branch comparison operand jt jf) takes m = refl
  leads_alike (ReturnConstant k) takes m = refl
  leads_alike ReturnA takes m = refl
  leads_alike Tax takes m = refl
  leads_alike Txa takes m = refl

  -- so each step, and the answer, is that of the other record
  answers_alike : (n : ℕ) (code : List Insn) → TakesWordAlone code → (m : Machine)
      → answer_within n code one port m ≡ answer_within n code other port m
  unfolding answer_within
  answers_alike zero code takes m = refl
  answers_alike (suc n) code takes m = found (answers_alike n code takes) (slice_get code m.place) refl
    where
      go : Machine → Answer
      go = answer_within n code one port

      go' : Machine → Answer
      go' = answer_within n code other port

      on : ((m' : Machine) → go m' ≡ go' m') → (out : Outcome) → answer_by go out ≡ answer_by go' out
      on rest (Ends answer) = refl
      on rest (Goes m') = ap (λ (answer : Answer). record { value = answer.value; steps = suc answer.steps }) (rest m')

      found : ((m' : Machine) → go m' ≡ go' m') → (insn : Option Insn) → slice_get code m.place ≡ insn
          → answer_at go one port m insn ≡ answer_at go' other port m insn
      found rest None is = refl
      found rest (Some insn) is = on rest (outcome (form insn) one port m)
          ∙ ap (answer_by go') (leads_alike (form insn) (at_place code takes m.place insn is) m)

pub program_by_word : (filter : Filter) → filter.table ≡ None → TakesWordAlone filter.code → IsByWord (Some filter)
unfolding answer_of
program_by_word filter is takes one other port is_one is_other same =
    judged one
    ∙ ap (λ (answer : Answer). not (answer.value == 0))
    (answers_alike one other port is_one is_other same (length filter.code) filter.code takes start)
    ∙ sym (judged other)
  where
    judged : (frame : List ℕ) → passes (Some filter) frame port ≡ not (answer_of filter.code frame port == 0)
    judged frame = ap (λ (has : Option Meaning). passes (Some (record { code = filter.code; table = has })) frame port) is
