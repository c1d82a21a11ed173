-- Sets of rules, and the rules that have a property.
use Rattle.std.specs.Prelude.{◌≡◌, ℕ, ◌+◌, ◌*◌, ◌/◌, ◌%◌, ◌<◌, ◌≤◌, Bool, if◌then◌else◌, min, List, length}
use Rattle.std.specs.Prelude.{get_or, take, drop, slice_get}
use Rattle.std.specs.Option.{option_map_or}
use Rattle.std.specs.Int.{bit_at}
use Rattle.gw_table.specs.declared.refusal.Field.{Field}
use Rattle.gw_table.specs.declared.refusal.Field.TheVariants.{Pgn, Source, Destination, From}
use Rattle.gw_table.specs.declared.table.Span.{Span}
use Rattle.gw_table.specs.declared.table.Rule.{Rule}
use Rattle.gw_table.specs.declared.rule_set.Property.{Property}
use Rattle.gw_table.specs.declared.rule_set.Property.TheVariants.{Passes, Holds}
use Rattle.gw_table.specs.Table.{lies_in, is_pass}

-- a rule's range of a field
abbrev pub span_of : Field → Rule → Span
span_of Pgn rule = rule.pgn
span_of Source rule = rule.source
span_of Destination rule = rule.destination
span_of From rule = rule.from

abbrev pub has_property : Property → Rule → Bool
has_property Passes rule = is_pass rule.action
has_property (Holds field number) rule = lies_in number (span_of field rule)

-- 1 where there is a rule of this number that has the property, else 0
abbrev pub marks : Property → List Rule → ℕ → ℕ
marks property rules number =
    option_map_or (λ rule. if has_property property rule then 1 else 0) (slice_get rules number) 0

-- 1 for a rule of the set, 0 for another: a set has a bit for each rule, 64 in a word
abbrev pub has : List ℕ → ℕ → ℕ
has set rule = bit_at (get_or set (rule / 64) 0) (rule % 64)

-- the set of the rules that have the property
abbrev pub IsSetOf : Property → List Rule → List ℕ → Type 0
IsSetOf property rules set = (number : ℕ) → has set number ≡ marks property rules number

-- one word of that set
abbrev pub IsWordOf : Property → List Rule → ℕ → ℕ → Type 0
IsWordOf property rules index word = (i : ℕ) → i < 64 → bit_at word i ≡ marks property rules (index * 64 + i)

-- 1 for a rule of all four sets
abbrev pub common : List ℕ → List ℕ → List ℕ → List ℕ → ℕ → ℕ
common a b c d rule = min (min (min (has a rule) (has b rule)) (has c rule)) (has d rule)

-- the first number at which there is a 1
pub record IsLowest (marks : ℕ → ℕ) (number : ℕ) : Type 0 where
  pub here : marks number ≡ 1
  pub not_before : (earlier : ℕ) → earlier < number → marks earlier ≡ 0

-- a set in a list of sets of so many words each
abbrev pub set_at : ℕ → List ℕ → ℕ → List ℕ
set_at words bits position = take words (drop (position * words) bits)

-- there is a set at the position
abbrev pub HasSet : ℕ → List ℕ → ℕ → Type 0
HasSet words bits position = position * words + words ≤ length bits

-- the words, and behind them the sets of so many properties
pub record Follows (property : ℕ → Property) (count : ℕ) (rules : List Rule) (words : ℕ) (old new : List ℕ) : Type 0 where
  pub grown : length new ≡ length old + count * words
  pub before : take (length old) new ≡ old
  pub sets : (k : ℕ) → k < count → IsSetOf (property k) rules (take words (drop (length old + k * words) new))
