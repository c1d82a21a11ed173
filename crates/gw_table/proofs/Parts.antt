-- What the parts of an emission answer, where the scratch words have a frame's fields.
use Rattle.std.proofs.Common.{◌≡◌, ℕ, ◌+◌, ◌≤◌, Bool, true, false, ◌&&◌, List, [], ◌∷◌, ◌++◌, length, drop, Some, refl, ap, subst}
use Rattle.std.proofs.Common.{arith, add-one, leb-true, leb-false, le-ltb, lt-ltb, le-leb, eqb-true}
use Rattle.std.specs.Prelude.{if◌then◌else◌, nat_le, ◌==◌}
use Rattle.std.specs.List.{flat_map, AllByRecursion}
use Rattle.std.specs.Ordering.{nat_cmp}
use Rattle.std.specs.FinMap.{FinMap, get}
use Rattle.std.proofs.lemmas.List.{drop_at, append_assoc}
use Rattle.std.proofs.lemmas.Bool.{and_parts}
use Rattle.gw_insn.specs.declared.insn.Insn.{Insn}
use Rattle.gw_insn.specs.declared.insn.Insn.TheVariants.{LoadWord, LoadScratchA, JumpGreaterConstant, JumpAtLeastConstant, Jump}
use Rattle.gw_insn.specs.Form.{form}
use Rattle.gw_machine.specs.Machine.{Machine, Does, with_a}
use Rattle.gw_table.specs.declared.table.Span.{Span}
use Rattle.gw_table.specs.declared.table.Rule.{Rule}
use Rattle.gw_table.specs.Table.{lies_in}
use Rattle.gw_table.specs.Emission.{answer_for, return_of, is_whole, tests, tests_unless_whole, from_part, destination_part}
use Rattle.gw_table.specs.Emission.{rule_code, body, head, group_code}
use Rattle.gw_table.proofs.Groups.{IsGroup, all_of}
use Rattle.gw_table.proofs.Yields.{Yields, put_a, returned, jumped, if_at_least, if_greater}

-- what the prologue stores of a frame
pub record Fields : Type 0 where
  pub group : ℕ
  pub source : ℕ
  pub destination : ℕ
  pub group_fits : group ≤ 262143
  pub source_fits : source ≤ 255
  pub destination_fits : destination ≤ 255

-- the scratch words have the fields
pub record Keeps (fields : Fields) (scratch : FinMap nat_cmp ℕ) : Type 0 where
  pub group : get scratch 0 ≡ Some fields.group
  pub source : get scratch 1 ≡ Some fields.source
  pub destination : get scratch 2 ≡ Some fields.destination

-- the answer of the first rule that passes a test, or another
abbrev pub first_answer : (Rule → Bool) → List Rule → ℕ → ℕ
first_answer test [] other = other
first_answer test (rule ∷ rules) other = if test rule then answer_for rule.action else first_answer test rules other

-- the rules of two lists, one after the other
first_answer-append : (test : Rule → Bool) (rules more : List Rule) (other : ℕ)
    → first_answer test (rules ++ more) other ≡ first_answer test rules (first_answer test more other)
first_answer-append test [] more other = refl
first_answer-append test (rule ∷ rules) more other =
    ap (λ answer. if test rule then answer_for rule.action else answer) (first_answer-append test rules more other)

module _ (octets : List ℕ) (port : ℕ) (fields : Fields) where
  -- from each machine that has the fields, the code answers so
  abbrev pub Decides : List Insn → ℕ → Type 0
  Decides code answer = (m : Machine) → Keeps fields m.scratch → Yields octets port code m answer

  -- the instruction puts the number in A
  abbrev pub Puts : Insn → ℕ → Type 0
  Puts load n = (m : Machine) → Keeps fields m.scratch → Does (form load) octets port m (with_a m n)

  -- a load and two tests go on inside the span and skip outside it
  pub tests_decide : (load : Insn) (span : Span) (skipped rest : List Insn) (n inside outside : ℕ) → Puts load n
      → Decides (skipped ++ rest) inside → Decides rest outside
      → Decides (tests load span (length skipped) ++ (skipped ++ rest)) (if lies_in n span then inside else outside)
  tests_decide load span skipped rest n inside outside puts within without m keeps =
      put_a n (puts m keeps) (by_low (nat_le span.low n) refl)
    where
      drop_skipped : drop (length skipped) (skipped ++ rest) ≡ rest
      drop_skipped = drop_at skipped rest (length skipped) refl

      drop_more : drop (length skipped + 1) (JumpGreaterConstant (length skipped) 0 span.high ∷ (skipped ++ rest)) ≡ rest
      drop_more = rw add-one drop_skipped

      by_high : (m : Machine) → Keeps fields m.scratch → m.a ≡ n → (high : Bool) → nat_le n span.high ≡ high
          → Yields octets port (JumpGreaterConstant (length skipped) 0 span.high ∷ (skipped ++ rest)) m
          (if high then inside else outside)
      by_high m keeps a true e =
          if_greater (length skipped) 0 span.high false (rw a (le-ltb span.high n (leb-true n span.high e))) (within _ keeps)
      by_high m keeps a false e =
          if_greater (length skipped) 0 span.high true (rw a (lt-ltb span.high n (leb-false n span.high e)))
          (rw drop_skipped (without _ keeps))

      by_low : (low : Bool) → nat_le span.low n ≡ low
          → Yields octets port (JumpAtLeastConstant 0 (length skipped + 1) span.low
          ∷ JumpGreaterConstant (length skipped) 0 span.high ∷ (skipped ++ rest)) (record m { place = m.place + 1; a = n })
          (if low && nat_le n span.high then inside else outside)
      by_low true e = if_at_least 0 (length skipped + 1) span.low true e (by_high _ keeps refl (nat_le n span.high) refl)
      by_low false e = if_at_least 0 (length skipped + 1) span.low false e (rw drop_more (without _ keeps))

  -- every number of the field lies in a whole span
  pub lies_in-whole : (most n : ℕ) (span : Span) → n ≤ most → is_whole most span ≡ true → lies_in n span ≡ true
  lies_in-whole most n span fits whole =
      let parts = and_parts (span.low == 0) (span.high == most) whole in
      let low : span.low ≡ 0 = eqb-true span.low 0 parts.0 in
      let high : span.high ≡ most = eqb-true span.high most parts.1 in
      let from_low : nat_le span.low n ≡ true = le-leb span.low n (omega arith) in
      let to_high : nat_le n span.high ≡ true = le-leb n span.high (omega arith) in
      rw (from_low, to_high)

  -- a part of a rule, with its tests or, where the span is whole, without
  part_decides : (load : Insn) (span : Span) (skipped rest : List Insn) (n inside outside : ℕ) → n ≤ 255 → Puts load n
      → Decides (skipped ++ rest) inside → Decides rest outside
      → Decides ((tests_unless_whole load span (length skipped) ++ skipped) ++ rest) (if lies_in n span then inside else outside)
  part_decides load span skipped rest n inside outside fits puts within without = by (is_whole 255 span) refl
    where
      by : (whole : Bool) → is_whole 255 span ≡ whole
          → Decides (((if whole then [] else tests load span (length skipped)) ++ skipped) ++ rest)
          (if lies_in n span then inside else outside)
      by true e = rw (lies_in-whole 255 n span fits e) within
      by false e = tests_decide load span skipped rest n inside outside puts within without

  -- the spans of a rule behind its group's head hold
  abbrev pub rest_holds : Rule → Bool
  rest_holds rule = lies_in fields.source rule.source && (lies_in fields.destination rule.destination && lies_in port rule.from)

  -- a rule behind the head of its group, and the rules of a group
  pub rule_decides : (rule : Rule) (rest : List Insn) (other : ℕ) → port ≤ 255 → Decides rest other
      → Decides (rule_code rule ++ rest) (if rest_holds rule then answer_for rule.action else other)
  rule_decides rule rest other fits goes_on =
      let from = part_decides (LoadWord 0xfffff008) rule.from (return_of rule.action ∷ []) rest port (answer_for rule.action)
      other fits (λ m keeps. refl) (λ m keeps. returned (answer_for rule.action)) goes_on in
      let destination = part_decides (LoadScratchA 2) rule.destination (from_part rule) rest fields.destination _ other
      fields.destination_fits (λ m keeps. (fields.destination, keeps.destination, refl)) from goes_on in
      let source = part_decides (LoadScratchA 1) rule.source (destination_part rule) rest fields.source _ other fields.source_fits
      (λ m keeps. (fields.source, keeps.source, refl)) destination goes_on in
      subst (λ answer. Decides (rule_code rule ++ rest) answer)
      (nested (lies_in fields.source rule.source) (lies_in fields.destination rule.destination) (lies_in port rule.from)) source
    where
      nested : (a b c : Bool)
          → (if a then (if b then (if c then answer_for rule.action else other) else other) else other)
          ≡ (if a && (b && c) then answer_for rule.action else other)
      nested true true c = refl
      nested true false c = refl
      nested false b c = refl

  pub body_decides : (rules : List Rule) (rest : List Insn) (other : ℕ) → port ≤ 255 → Decides rest other
      → Decides (body rules ++ rest) (first_answer rest_holds rules other)
  body_decides [] rest other fits goes_on = goes_on
  body_decides (rule ∷ rules) rest other fits goes_on =
      rw (append_assoc (rule_code rule) (body rules) rest)
      (rule_decides rule (body rules ++ rest) (first_answer rest_holds rules other) fits
      (body_decides rules rest other fits goes_on))

  -- a head of four: outside the span it jumps over the body
  shared_head_decides : (span : Span) (skipped rest : List Insn) (inside outside : ℕ) → Decides (skipped ++ rest) inside
      → Decides rest outside
      → Decides (LoadScratchA 0 ∷ JumpAtLeastConstant 0 1 span.low ∷ JumpGreaterConstant 0 1 span.high ∷ Jump (length skipped)
      ∷ (skipped ++ rest)) (if lies_in fields.group span then inside else outside)
  shared_head_decides span skipped rest inside outside within without m keeps =
      put_a fields.group (fields.group, keeps.group, refl) (by_low (nat_le span.low fields.group) refl)
    where
      leave : (m : Machine) → Keeps fields m.scratch → Yields octets port (Jump (length skipped) ∷ (skipped ++ rest)) m outside
      leave m keeps = jumped (length skipped) (rw (drop_at skipped rest (length skipped) refl) (without _ keeps))

      by_high : (m : Machine) → Keeps fields m.scratch → m.a ≡ fields.group → (high : Bool)
          → nat_le fields.group span.high ≡ high
          → Yields octets port (JumpGreaterConstant 0 1 span.high ∷ Jump (length skipped) ∷ (skipped ++ rest)) m
          (if high then inside else outside)
      by_high m keeps a true e =
          if_greater 0 1 span.high false (rw a (le-ltb span.high fields.group (leb-true fields.group span.high e)))
          (within _ keeps)
      by_high m keeps a false e =
          if_greater 0 1 span.high true (rw a (lt-ltb span.high fields.group (leb-false fields.group span.high e)))
          (leave _ keeps)

      by_low : (low : Bool) → nat_le span.low fields.group ≡ low
          → Yields octets port (JumpAtLeastConstant 0 1 span.low ∷ JumpGreaterConstant 0 1 span.high ∷ Jump (length skipped)
          ∷ (skipped ++ rest)) (record m { place = m.place + 1; a = fields.group }) (if low
          && nat_le fields.group span.high then inside else outside)
      by_low true e = if_at_least 0 1 span.low true e (by_high _ keeps refl (nat_le fields.group span.high) refl)
      by_low false e = if_at_least 0 1 span.low false e (leave _ keeps)

  -- all four spans of the rule hold
  abbrev pub all_hold : Rule → Bool
  all_hold rule = lies_in fields.group rule.pgn && rest_holds rule

  -- the two kinds of head
  head_decides : (rule : Rule) (rules : List Rule) (rest : List Insn) (inside outside : ℕ)
      → Decides (body (rule ∷ rules) ++ rest) inside → Decides rest outside
      → Decides ((head (rule ∷ rules) ++ body (rule ∷ rules)) ++ rest) (if lies_in fields.group rule.pgn then inside else outside)
  head_decides rule [] rest inside outside within without =
      tests_decide (LoadScratchA 0) rule.pgn (body (rule ∷ [])) rest fields.group inside outside
      (λ m keeps. (fields.group, keeps.group, refl)) within without
  head_decides rule (next ∷ rules) rest inside outside within without =
      shared_head_decides rule.pgn (body (rule ∷ next ∷ rules)) rest inside outside within without

  -- where the parameter group lies in the one span of the rules, the other spans decide, and else none of them holds
  group_answer : (span : Span) (rules : List Rule) (other : ℕ) → AllByRecursion (λ rule. rule.pgn ≡ span) rules
      → (if lies_in fields.group span then first_answer rest_holds rules other else other) ≡ first_answer all_hold rules other
  group_answer span rules other alike = by (lies_in fields.group span) refl rules alike
    where
      by : (inside : Bool) → lies_in fields.group span ≡ inside → (rules : List Rule)
          → AllByRecursion (λ rule. rule.pgn ≡ span) rules
          → (if inside then first_answer rest_holds rules other else other) ≡ first_answer all_hold rules other
      by true e [] alike = refl
      by false e [] alike = refl
      by true e (rule ∷ rules) alike =
          let here : lies_in fields.group rule.pgn ≡ true = rw alike.0 e in
          rw (here, ← by true e rules alike.1)
      by false e (rule ∷ rules) alike =
          let here : lies_in fields.group rule.pgn ≡ false = rw alike.0 e in
          rw (here, ← by false e rules alike.1)

  -- a group with its head answers by the first of its rules that holds, and groups by the first of all
  pub group_decides : (rules : List Rule) (rest : List Insn) (other : ℕ) → port ≤ 255 → IsGroup rules → Decides rest other
      → Decides (group_code rules ++ rest) (first_answer all_hold rules other)
  group_decides [] rest other fits alike goes_on = goes_on
  group_decides (rule ∷ rules) rest other fits alike goes_on =
      subst (λ answer. Decides (group_code (rule ∷ rules) ++ rest) answer) (group_answer rule.pgn (rule ∷ rules) other (
        refl,
        alike,
      )) (by (is_whole 262143 rule.pgn) refl)
    where
      within : Decides (body (rule ∷ rules) ++ rest) (first_answer rest_holds (rule ∷ rules) other)
      within = body_decides (rule ∷ rules) rest other fits goes_on

      by : (whole : Bool) → is_whole 262143 rule.pgn ≡ whole
          → Decides (((if whole then [] else head (rule ∷ rules)) ++ body (rule ∷ rules)) ++ rest)
          (if lies_in fields.group rule.pgn then first_answer rest_holds (rule ∷ rules) other else other)
      by true e = rw (lies_in-whole 262143 fields.group rule.pgn fields.group_fits e) within
      by false e = head_decides rule rules rest (first_answer rest_holds (rule ∷ rules) other) other within goes_on

  pub groups_decide : (groups : List (List Rule)) (rest : List Insn) (other : ℕ) → port ≤ 255 → AllByRecursion IsGroup groups
      → Decides rest other → Decides (flat_map group_code groups ++ rest) (first_answer all_hold (all_of groups) other)
  groups_decide [] rest other fits alike goes_on = goes_on
  groups_decide (group ∷ groups) rest other fits alike goes_on =
      let later = first_answer all_hold (all_of groups) other in
      let decided = group_decides group (flat_map group_code groups ++ rest) later fits alike.0
      (groups_decide groups rest other fits alike.1 goes_on) in
      rw (
        append_assoc (group_code group) (flat_map group_code groups) rest,
        first_answer-append all_hold group (all_of groups) other,
      ) decided
