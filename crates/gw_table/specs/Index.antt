-- The index of a table: for each field the set of rules for each of its values.
use Rattle.std.specs.Prelude.{◌≡◌, ℕ, ◌+◌, ◌-◌, ◌*◌, ◌/◌, ◌%◌, ◌<◌, ◌≤◌, ◌==◌, Bool, not, ◌&&◌, ◌||◌, nat_lt, nat_le}
use Rattle.std.specs.Prelude.{if◌then◌else◌, List, length, get_or, MatchOption}
use Rattle.gw_table.specs.declared.table.Span.{Span}
use Rattle.gw_table.specs.declared.table.Rule.{Rule}
use Rattle.gw_table.specs.declared.rule_set.Property.{Property}
use Rattle.gw_table.specs.declared.rule_set.Property.TheVariants.{Holds}
use Rattle.gw_table.specs.declared.index.Index.{Index}
use Rattle.gw_table.specs.declared.index.IndexedTable.TheInside.{Inside}
use Rattle.gw_table.specs.RuleSets.{IsSetOf, set_at, HasSet, common}
use Rattle.gw_table.specs.Sections.{start_property, row_at, row_of_page}

-- the range holds some, but not all, of 256 numbers
abbrev pub splits : ℕ → Span → Bool
splits first span =
    not (nat_le span.low first && nat_le (first + 255) span.high) && not (nat_lt span.high first || nat_lt (first + 255) span.low)

-- the number of a parameter group: one of PDU1 ends with 0 (SAE J1939-21)
abbrev pub IsGroup : ℕ → Type 0
IsGroup pgn = (pgn < 262144) × (pgn / 256 % 256 < 240 → pgn % 256 ≡ 0)

-- where the set of a number of a row stands: the rows that are there stand behind the start, and else one set is for all
abbrev pub position_in : ℕ → ℕ → ℕ → ℕ
position_in rank whole number = if rank == 0 then whole else 1538 + (rank - 1) * 256 + number

-- where the set of a parameter group stands
abbrev pub group_position : List ℕ → ℕ → ℕ
group_position ranks pgn =
    if nat_lt (pgn / 256 % 256) 240 then 514 + pgn / 256
    else position_in (get_or ranks (row_of_page (pgn / 256)) 0) (514 + pgn / 256) (pgn % 256)

-- 1 for a rule of the sets that the index has for the four values
abbrev pub shared : Index → ℕ → ℕ → ℕ → ℕ → ℕ → ℕ
shared index pgn source destination from = common (at (group_position index.ranks pgn)) (at (258 + source))
    (at (2 + (255 - destination))) (at (position_in (get_or index.ranks 0 0) 1 from))
  where
    at : ℕ → List ℕ
    at position = set_at index.sets.words index.sets.bits.items position

-- there is a set at the position
abbrev pub Stands : Index → ℕ → Type 0
Stands index position = HasSet index.sets.words index.sets.bits.items position

-- the set at a position is that of the rules that have the property
pub record HasSetOf (property : Property) (rules : List Rule) (words : ℕ) (bits : List ℕ) (position : ℕ) : Type 0 where
  pub within : HasSet words bits position
  pub set : IsSetOf property rules (set_at words bits position)

-- each number of a row has its set
abbrev pub HasRow : List Rule → ℕ → List ℕ → List ℕ → ℕ → Type 0
HasRow rules words bits ranks row =
    (number : ℕ) → number < 256 → HasSetOf (Holds (row_at row).field ((row_at row).least + number)) rules words bits
    (position_in (get_or ranks row 0) (row_at row).whole number)

pub record Indexes (rules : List Rule) (index : Index) : Type 0 where
  pub room : length rules ≤ 64 * index.sets.words
  pub few : index.sets.words ≤ 4
  pub start : (position : ℕ) → position < 1538
      → HasSetOf (start_property position) rules index.sets.words index.sets.bits.items position
  pub rows : (row : ℕ) → row < 65 → HasRow rules index.sets.words index.sets.bits.items index.ranks row

-- what there is of an index is that of the table's rules
abbrev pub IsIndexed : Inside → Type 0
IsIndexed inside = MatchOption inside.index (Unit {0}) (Indexes inside.table.rules)
