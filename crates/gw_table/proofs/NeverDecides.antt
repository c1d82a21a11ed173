-- Which identifiers there are of a parameter group, and why a rule that is covered or has no frame never decides.
use Rattle.std.proofs.Common.{◌≡◌, ℕ, ◌+◌, ◌*◌, ◌/◌, ◌%◌, ◌<◌, ◌≤◌, ◌⊎◌, Bool, cond, get_or, true, false, ◌&&◌, List, Some}
use Rattle.std.proofs.Common.{None, refl, sym, ap, ◌∙◌, inl, inr, arith}
use Rattle.std.proofs.lemmas.Bool.{false≢true}
use Rattle.std.proofs.lemmas.Bool.Decides.{nat_tests}
use Rattle.std.proofs.lemmas.List.Quantifiers.{position-Some}
use Rattle.std.proofs.lemmas.Option.{get_or_from_slice_get, slice_get_past, slice_get_cases}
use Rattle.std.proofs.lemmas.List.Folds.{find_at}
use Rattle.std.specs.Prelude.{nat_lt, MatchBool, length, option_map, unwrap_or, slice_get}
use Rattle.std.specs.List.{position, position_or_len}
use Rattle.gw_frame.specs.Record.{word_of}
use Rattle.gw_ident.specs.Identifier.{page, pdu_format, pdu_specific, is_pdu1, parameter_group, source_address}
use Rattle.gw_ident.specs.Identifier.{destination_address}
use Rattle.gw_table.specs.declared.table.Span.{Span}
use Rattle.gw_table.specs.declared.table.Rule.{Rule}
use Rattle.gw_table.specs.declared.table.Part.{Part}
use Rattle.gw_table.specs.declared.table.Part.TheVariants as part
use Rattle.gw_table.specs.declared.dead.WhyDead.{WhyDead}
use Rattle.gw_table.specs.declared.dead.WhyDead.TheVariants.{NoGroup, NoPort, NoDestination, Covered}
use Rattle.gw_table.specs.Table.{Meaning, IsRule, lies_in, matches, action_for, action_of, Decides}
use Rattle.gw_table.specs.Dead.{HasNoDestination, is_within, covers, IsDead}

-- an identifier's parameter group is a page and a format, and for PDU2 its group extension

-- what an identifier has of a parameter group: the page and the format as one number, and the last octet
pub record GroupOf (word : ℕ) : Type 0 where
  pub format : ℕ
  pub last : ℕ
  pub format_fits : format < 1024
  pub last_fits : last < 256
  pub group : parameter_group word ≡ 256 * format + last
  pub pdu1 : format % 256 < 240 → last ≡ 0
  pub pdu2 : 240 ≤ format % 256 → destination_address word ≡ 255

pub group_of : (word : ℕ) → GroupOf word
group_of word = by (is_pdu1 word) refl
  where
    by : (pdu1 : Bool) → is_pdu1 word ≡ pdu1 → GroupOf word
    by true is = record {
      format = 256 * page word + pdu_format word;
      last = 0;
      format_fits = omega arith;
      last_fits = omega arith;
      group = rw is (omega arith);
      pdu1 = λ below. refl;
      pdu2 = λ above. let below : pdu_format word < 240 = grind (arith, nat_tests) in absurd (omega (arith, below, above));
    }
    by false is =
        let above : 240 ≤ pdu_format word = grind (arith, nat_tests) in
        record {
          format = 256 * page word + pdu_format word;
          last = pdu_specific word;
          format_fits = omega arith;
          last_fits = omega arith;
          group = rw is (omega arith);
          pdu1 = λ below. absurd (omega (arith, below, above));
          pdu2 = λ above. rw is refl;
        }

-- the identifier of priority 0 and source 0 with a page and a format, and this PDU specific field
abbrev pub identifier_of : ℕ → ℕ → ℕ
identifier_of format specific = 65536 * format + 256 * specific

format_of : (format specific : ℕ) → format < 1024 → specific < 256 → pdu_format (identifier_of format specific) ≡ format % 256
format_of format specific a b = omega arith

pub pdu1_identifier : (format specific : ℕ) → format < 1024 → specific < 256 → format % 256 < 240
    → (parameter_group (identifier_of format specific) ≡ 256 * format)
    × (destination_address (identifier_of format specific) ≡ specific)
pdu1_identifier format specific a b below =
    let same = format_of format specific a b in
    let pdu1 : is_pdu1 (identifier_of format specific) ≡ true = grind (arith, nat_tests) in
    (rw pdu1 (omega (arith, same)), rw pdu1 (omega arith))

pub pdu2_identifier : (format specific : ℕ) → format < 1024 → specific < 256 → 240 ≤ format % 256
    → (parameter_group (identifier_of format specific) ≡ 256 * format + specific)
    × (destination_address (identifier_of format specific) ≡ 255)
pdu2_identifier format specific a b above =
    let same = format_of format specific a b in
    let pdu2 : is_pdu1 (identifier_of format specific) ≡ false = grind (arith, nat_tests) in
    (rw pdu2 (omega (arith, same)), rw pdu2 refl)

-- the identifier of a parameter group
pub group_identifier : (group : ℕ) → group < 262144 → (group / 256 % 256 < 240 → group % 256 ≡ 0)
    → parameter_group (identifier_of (group / 256) (group % 256)) ≡ group
group_identifier group fits pdu1 = by (nat_lt (group / 256 % 256) 240) refl
  where
    by : (below : Bool) → nat_lt (group / 256 % 256) 240 ≡ below
        → parameter_group (identifier_of (group / 256) (group % 256)) ≡ group
    by true is =
        let below : group / 256 % 256 < 240 = grind (arith, nat_tests) in
        (pdu1_identifier (group / 256) (group % 256) (omega arith) (omega arith) below).0 ∙ omega (arith, pdu1 below)
    by false is =
        let above : 240 ≤ group / 256 % 256 = grind (arith, nat_tests) in
        (pdu2_identifier (group / 256) (group % 256) (omega arith) (omega arith) above).0 ∙ omega arith

-- what holds where a test is true and where it is false
pub matched : (P Q : Type 0) (test : Bool) → (test ≡ true → P) → (test ≡ false → Q) → MatchBool test P Q
matched P Q true here there = here refl
matched P Q false here there = there refl

-- bounds of a range

pub inside : (n : ℕ) (span : Span) → span.low ≤ n → n ≤ span.high → lies_in n span ≡ true
inside n span low high = grind (arith, nat_tests)

pub bounds : (n : ℕ) (span : Span) → lies_in n span ≡ true → (span.low ≤ n) × (n ≤ span.high)
bounds n span is = grind (arith, nat_tests)

pub outside : (n : ℕ) (span : Span) → ((span.low ≤ n) × (n ≤ span.high) → ⊥) → lies_in n span ≡ false
outside n span not_in = by (lies_in n span) refl
  where
    by : (found : Bool) → lies_in n span ≡ found → found ≡ false
    by true is = absurd (not_in (bounds n span is))
    by false is = refl

within : (n : ℕ) (inner outer : Span) → is_within inner outer ≡ true → lies_in n inner ≡ true → lies_in n outer ≡ true
within n inner outer is found = grind (arith, nat_tests)

-- what holds of a frame by a rule holds of it by a rule that covers it

pub all_parts : (a b c d : Bool) → (a && b && c && d) ≡ true → (a ≡ true) × (b ≡ true) × (c ≡ true) × (d ≡ true)
all_parts true true true true is = (refl, refl, refl, refl)
all_parts true true true false is = absurd (false≢true is)
all_parts true true false d is = absurd (false≢true is)
all_parts true false c d is = absurd (false≢true is)
all_parts false b c d is = absurd (false≢true is)

pub all_from : (a b c d : Bool) → a ≡ true → b ≡ true → c ≡ true → d ≡ true → (a && b && c && d) ≡ true
all_from a b c d p q r s = rw (p, q, r, s) refl

covered_holds : (octets : List ℕ) (port : ℕ) (earlier later : Rule) → covers earlier later ≡ true
    → matches octets port later ≡ true → matches octets port earlier ≡ true
covered_holds octets port earlier later is holds =
    let spans = all_parts _ _ _ _ is in
    let parts = all_parts _ _ _ _ holds in
    all_from _ _ _ _ (within _ later.pgn earlier.pgn spans.0 parts.0) (within _ later.source earlier.source spans.1 parts.1)
    (within _ later.destination earlier.destination spans.2 parts.2) (within _ later.from earlier.from spans.3 parts.3)

-- a rule that decides holds, and no earlier one does

pub decider_holds : (octets : List ℕ) (port number : ℕ) (table : Meaning) (rule : Rule)
    → Decides table octets port (part.Rule number) → slice_get table.rules number ≡ Some rule → matches octets port rule ≡ true
decider_holds octets port number table rule decides here =
    let first = position-Some (matches octets port) table.rules number rule decides.1 in
    ap (matches octets port) (sym (get_or_from_slice_get table.rules number rule rule here)) ∙ first.1

decider_parts : (octets : List ℕ) (port number : ℕ) (table : Meaning) (rule : Rule) → Decides table octets port (part.Rule number)
    → slice_get table.rules number ≡ Some rule → (lies_in (parameter_group (word_of octets)) rule.pgn ≡ true)
    × (lies_in (source_address (word_of octets)) rule.source ≡ true)
    × (lies_in (destination_address (word_of octets)) rule.destination ≡ true) × (lies_in port rule.from ≡ true)
decider_parts octets port number table rule decides here =
    all_parts _ _ _ (lies_in port rule.from) (decider_holds octets port number table rule decides here)

earlier_fails : (octets : List ℕ) (port number by : ℕ) (table : Meaning) (rule : Rule)
    → Decides table octets port (part.Rule number)
    → by < number → slice_get table.rules by ≡ Some rule → matches octets port rule ≡ false
earlier_fails octets port number by table rule decides before here =
    let first = position-Some (matches octets port) table.rules number rule decides.1 in
    ap (matches octets port) (sym (get_or_from_slice_get table.rules by rule rule here)) ∙ first.2 by before

-- a rule with a cause decides no record at any port
pub dead_never : (table : Meaning) (number : ℕ) (why : WhyDead) → IsDead table.rules number why → (octets : List ℕ) (port : ℕ)
    → port < 16 → Decides table octets port (part.Rule number) → ⊥
dead_never table number NoGroup at octets port fits decides =
    let parts = decider_parts octets port number table at.rule decides at.here in
    false≢true (sym (at.holds (word_of octets)) ∙ parts.0)
dead_never table number NoPort at octets port fits decides =
    let parts = decider_parts octets port number table at.rule decides at.here in
    false≢true (sym (at.holds port fits) ∙ parts.3)
dead_never table number NoDestination at octets port fits decides =
    let parts = decider_parts octets port number table at.rule decides at.here in
    false≢true (sym (at.holds (word_of octets) parts.0) ∙ parts.2)
dead_never table number (Covered by) dead octets port fits decides =
    let earlier = dead.1 in
    let later = dead.1.holds in
    let holds = covered_holds octets port earlier.rule later.rule later.holds
    (decider_holds octets port number table later.rule decides later.here) in
    false≢true (sym (earlier_fails octets port number by table earlier.rule decides dead.0 earlier.here) ∙ holds)

-- the first element that passes, by its index
pub position_is : {A : Type 0} (test : A → Bool) (xs : List A) (number : ℕ) → position test xs ≡ Some number
    → (position_or_len test xs ≡ number) × (number < length xs)
position_is test xs number is = by (nat_lt (position_or_len test xs) (length xs)) refl is
  where
    by : (inside : Bool) → nat_lt (position_or_len test xs) (length xs) ≡ inside
        → cond inside (Some (position_or_len test xs)) None ≡ Some number
        → (position_or_len test xs ≡ number) × (number < length xs)
    by true inside same = let e : position_or_len test xs ≡ number = cc in (e, grind (arith, nat_tests))
    by false inside same = absurd (cc)

pub position_none : {A : Type 0} (test : A → Bool) (xs : List A) → position test xs ≡ None → length xs ≤ position_or_len test xs
position_none test xs is = by (nat_lt (position_or_len test xs) (length xs)) refl is
  where
    by : (inside : Bool) → nat_lt (position_or_len test xs) (length xs) ≡ inside
        → cond inside (Some (position_or_len test xs)) None ≡ None → length xs ≤ position_or_len test xs
    by true inside same = absurd (cc)
    by false inside same = grind (arith, nat_tests)

-- the action of the part that decides is what becomes of the frame
pub decided_action : (table : Meaning) (octets : List ℕ) (port : ℕ) (decider : Part) → Decides table octets port decider
    → action_of table decider ≡ Some (action_for table octets port)
decided_action table octets port (part.Rule number) decides =
    let (at, inside) = position_is (matches octets port) table.rules number decides.1 in
    let found = find_at (matches octets port) table.rules ∙ ap (slice_get table.rules) at in
    rw (decides.0, found) (by (slice_get_cases table.rules number).1)
  where
    by : ((x : Rule) × (number < length table.rules) × (slice_get table.rules number ≡ Some x)
        × (get_or table.rules number x ≡ x)) ⊎ ((length table.rules ≤ number) × (slice_get table.rules number ≡ None))
        → option_map (λ rule. rule.action) (slice_get table.rules number)
        ≡ Some (unwrap_or (option_map (λ rule. rule.action) (slice_get table.rules number)) table.otherwise)
    by (inl at) = rw at.2 refl
    by (inr past) = absurd (omega (arith, past.0, (position_is (matches octets port) table.rules number decides.1).1))
decided_action table octets port part.Default decides =
    let past = position_none (matches octets port) table.rules decides.1 in
    rw (decides.0, find_at (matches octets port) table.rules, slice_get_past table.rules _ past) refl
decided_action table octets port part.Other decides = rw decides refl

-- identifiers with a parameter group and a destination in a rule's ranges

abbrev pub HasFrame : Rule → Type 0
HasFrame rule =
    (word : ℕ) × (lies_in (parameter_group word) rule.pgn ≡ true) × (lies_in (destination_address word) rule.destination ≡ true)

-- a PDU1 group goes to any destination
pub pdu1_destination : (rule : Rule) → IsRule rule → (format : ℕ) → format % 256 < 240 → lies_in (256 * format) rule.pgn ≡ true
    → HasFrame rule
pdu1_destination rule is format below found =
    let low = rule.destination.low in
    let (above, under) = bounds (256 * format) rule.pgn found in
    let same = pdu1_identifier format low (omega (arith, under, is.pgn.1)) (omega (arith, is.destination.0, is.destination.1))
    below in
    (identifier_of format low, rw same.0 found, rw same.1 (inside low rule.destination (omega arith) is.destination.0))

-- a PDU2 group goes to 255 alone
pub some_destination : (rule : Rule) → IsRule rule → rule.destination.high ≡ 255 → (word : ℕ)
    → lies_in (parameter_group word) rule.pgn ≡ true → HasFrame rule
some_destination rule is all word found = by (nat_lt (group.format % 256) 240) refl
  where
    group : GroupOf word
    group = group_of word

    by : (below : Bool) → nat_lt (group.format % 256) 240 ≡ below → HasFrame rule
    by true test =
        let below : group.format % 256 < 240 = grind (arith, nat_tests) in
        let same : parameter_group word ≡ 256 * group.format = omega (arith, group.group, group.pdu1 below) in
        pdu1_destination rule is group.format below (ap (λ n. lies_in n rule.pgn) (sym same) ∙ found)
    by false test =
        let above : 240 ≤ group.format % 256 = grind (arith, nat_tests) in (
          word,
          found,
          rw (group.pdu2 above) (inside 255 rule.destination (omega (arith, is.destination.0, all))
              (omega (arith, all))),
        )

pub no_destination : (rule : Rule) → IsRule rule → rule.destination.high < 255
    → ((format : ℕ) → format % 256 < 240 → lies_in (256 * format) rule.pgn ≡ false) → HasNoDestination rule
no_destination rule is short none word found = by (nat_lt (group.format % 256) 240) refl
  where
    group : GroupOf word
    group = group_of word

    by : (below : Bool) → nat_lt (group.format % 256) 240 ≡ below → lies_in (destination_address word) rule.destination ≡ false
    by true test =
        let below : group.format % 256 < 240 = grind (arith, nat_tests) in
        let same : parameter_group word ≡ 256 * group.format = omega (arith, group.group, group.pdu1 below) in
        absurd (false≢true (sym (none group.format below) ∙ ap (λ n. lies_in n rule.pgn) (sym same) ∙ found))
    by false test =
        let above : 240 ≤ group.format % 256 = grind (arith, nat_tests) in
        rw (group.pdu2 above) (outside 255 rule.destination (λ both. omega (arith, short, both.1)))
