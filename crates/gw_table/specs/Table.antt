-- What a table passes: the first rule whose four ranges hold of an extended data frame decides.
use Rattle.std.specs.Prelude.{◌≡◌, ℕ, ◌≤◌, Bool, true, false, ◌&&◌, nat_le, if◌then◌else◌, List, length, slice_get, Option, Some}
use Rattle.std.specs.Prelude.{None, option_map, unwrap_or, All}
use Rattle.std.specs.List.{find, position}
use Rattle.gw_ident.specs.Identifier.{is_extended_data, parameter_group, destination_address, source_address}
use Rattle.gw_frame.specs.Record.{word_of}
use Rattle.gw_table.specs.declared.table.Action.{Action}
use Rattle.gw_table.specs.declared.table.Action.TheVariants.{Pass, Block}
use Rattle.gw_table.specs.declared.table.Span.{Span}
use Rattle.gw_table.specs.declared.table.Rule.{Rule}
use Rattle.gw_table.specs.declared.table.Part.{Part}
use Rattle.gw_table.specs.declared.table.Part.TheVariants as part

-- a table's rules, what other extended data frames get (its `default`), and what every other frame gets
pub record Meaning : Type 0 where
  pub otherwise : Action
  pub other : Action
  pub rules : List Rule

abbrev pub is_pass : Action → Bool
is_pass Pass = true
is_pass Block = false

abbrev pub lies_in : ℕ → Span → Bool
lies_in n span = nat_le span.low n && nat_le n span.high

-- the rule's four ranges hold of the frame's parameter group, source and destination and of the ingress port
abbrev pub matches : List ℕ → ℕ → Rule → Bool
matches octets port rule =
    lies_in (parameter_group (word_of octets)) rule.pgn && lies_in (source_address (word_of octets)) rule.source
    && lies_in (destination_address (word_of octets)) rule.destination && lies_in port rule.from

-- what becomes of a frame that was taken at a port
abbrev pub action_for : Meaning → List ℕ → ℕ → Action
action_for table octets port =
    if is_extended_data (word_of octets)
    then unwrap_or (option_map (λ rule. rule.action) (find (matches octets port) table.rules)) table.otherwise
    else table.other

abbrev pub table_passes : Meaning → List ℕ → ℕ → Bool
table_passes table octets port = is_pass (action_for table octets port)

-- the part of a table that decides a frame: the rule of least number whose four ranges hold, else `default`, and `other` for
-- a frame that is no extended data frame
abbrev pub Decides : Meaning → List ℕ → ℕ → Part → Type 0
Decides table octets port (part.Rule number) =
    (is_extended_data (word_of octets) ≡ true) × (position (matches octets port) table.rules ≡ Some number)
Decides table octets port part.Default =
    (is_extended_data (word_of octets) ≡ true) × (position (matches octets port) table.rules ≡ None)
Decides table octets port part.Other = is_extended_data (word_of octets) ≡ false

-- the action of a part; a table has no rule at its number of rules and beyond
abbrev pub action_of : Meaning → Part → Option Action
action_of table (part.Rule number) = option_map (λ rule. rule.action) (slice_get table.rules number)
action_of table part.Default = Some table.otherwise
action_of table part.Other = Some table.other

-- the greatest parameter group number, of 18 bits, and the greatest address (SAE J1939-21); ports have the addresses' range
abbrev pub greatest_group : ℕ
greatest_group = 262143

abbrev pub greatest_octet : ℕ
greatest_octet = 255

-- a range within 0 to the greatest number of its field
abbrev pub Fits : ℕ → Span → Type 0
Fits most span = (span.low ≤ span.high) × (span.high ≤ most)

pub record IsRule (rule : Rule) : Type 0 where
  pub pgn : Fits greatest_group rule.pgn
  pub source : Fits greatest_octet rule.source
  pub destination : Fits greatest_octet rule.destination
  pub from : Fits greatest_octet rule.from

-- at most 256 rules, whose ranges lie within their fields
pub record IsWellFormed (table : Meaning) : Type 0 where
  pub few : length table.rules ≤ 256
  pub ranges : All IsRule table.rules
