-- The frames that a part of one table and a part of another decide, where one box says which they are.
use Rattle.std.specs.Prelude.{◌≡◌, ℕ, ◌<◌, ◌↔◌, Bool, true, List, [], ◌∷◌, not, ◌&&◌, min, max, nat_le, take, slice_get}
use Rattle.std.specs.Prelude.{Option, Some, None, All}
use Rattle.std.specs.List.{list_any}
use Rattle.gw_table.specs.declared.table.Span.{Span}
use Rattle.gw_table.specs.declared.table.Rule.{Rule}
use Rattle.gw_table.specs.declared.table.Part.{Part}
use Rattle.gw_table.specs.declared.table.Part.TheVariants as part
use Rattle.gw_table.specs.declared.question.Question.{Question}
use Rattle.gw_table.specs.Table.{Meaning, lies_in, greatest_group, greatest_octet}
use Rattle.gw_table.specs.Difference.{IsCarried, DecidePair}
use Rattle.gw_table.specs.Question.{IsAsked}

-- the box asks for exactly the frames that the two parts decide
abbrev pub AsksForPair : Meaning → Part → Meaning → Part → Question → Type 0
AsksForPair table own other its box =
    (octets : List ℕ) (port : ℕ) → IsCarried octets → port < 16
    → (DecidePair table other octets port own its ↔ IsAsked box octets port)

-- four numbers lie in the ranges of a rule
abbrev pub all_lie : ℕ → ℕ → ℕ → ℕ → Rule → Bool
all_lie pgn source destination from rule =
    lies_in pgn rule.pgn && lies_in source rule.source && lies_in destination rule.destination && lies_in from rule.from

-- rules whose ranges have numbers in common, of each field
pub record ShareNumbers (rules : List Rule) : Type 0 where
  pub pgn : ℕ
  pub source : ℕ
  pub destination : ℕ
  pub from : ℕ
  pub all : All (λ rule. all_lie pgn source destination from rule ≡ true) rules

-- the ranges of a part that decides extended data frames: those of a rule, and for `default` whole fields
abbrev pub ranges_of : Meaning → Part → Option Rule
ranges_of table (part.Rule number) = slice_get table.rules number
ranges_of table part.Default = Some (record {
  action = table.otherwise;
  pgn = record { low = 0; high = greatest_group };
  source = record { low = 0; high = greatest_octet };
  destination = record { low = 0; high = greatest_octet };
  from = record { low = 0; high = greatest_octet };
})
ranges_of table part.Other = None

-- the rules that are asked before a part
abbrev pub rules_before : Meaning → Part → List Rule
rules_before table (part.Rule number) = take number table.rules
rules_before table part.Default = table.rules
rules_before table part.Other = table.rules

-- the ranges of two parts have numbers in common, and no rule before either part shares numbers with both
pub record AreClear (table : Meaning) (own : Part) (other : Meaning) (its : Part) : Type 0 where
  pub own_ranges : Rule
  pub its_ranges : Rule
  pub of_own : ranges_of table own ≡ Some own_ranges
  pub of_its : ranges_of other its ≡ Some its_ranges
  pub some : ShareNumbers (own_ranges ∷ its_ranges ∷ [])
  pub own_clear : All (λ rule. ¬ ShareNumbers (rule ∷ own_ranges ∷ its_ranges ∷ [])) (rules_before table own)
  pub its_clear : All (λ rule. ¬ ShareNumbers (rule ∷ own_ranges ∷ its_ranges ∷ [])) (rules_before other its)

-- inside: the numbers that two rules have in common, if there are some
abbrev pub meet_span : Span → Span → Span
meet_span a b = record { low = max a.low b.low; high = min a.high b.high }

abbrev pub meet : Rule → Rule → Rule
meet a b = record {
  action = a.action;
  pgn = meet_span a.pgn b.pgn;
  source = meet_span a.source b.source;
  destination = meet_span a.destination b.destination;
  from = meet_span a.from b.from;
}

abbrev pub has_number : Span → Bool
has_number span = nat_le span.low span.high

abbrev pub has_numbers : Rule → Bool
has_numbers rule = has_number rule.pgn && has_number rule.source && has_number rule.destination && has_number rule.from

-- inside: the question that asks for the extended data frames of which the ranges of a rule hold
abbrev pub asking : Rule → Question
asking rule = record {
  pgn = Some rule.pgn;
  source = Some rule.source;
  destination = Some rule.destination;
  from = Some rule.from;
}

-- inside: some numbers lie in the ranges, and in those of no rule of two lists
abbrev pub is_clear : List Rule → List Rule → Rule → Bool
is_clear own its both =
    has_numbers both && not (list_any (λ rule. has_numbers (meet rule both)) own)
    && not (list_any (λ rule. has_numbers (meet rule both)) its)
