-- A table as its text states it.
use Rattle.std.specs.Prelude.{◌≡◌, ℕ, ◌==◌, if◌then◌else◌, List, [], length}
use Rattle.gw_input.specs.RuleLines.{rule_lines}
use Rattle.gw_input.specs.Tables.{IsTable}
use Rattle.gw_table.specs.Table.{Meaning}
use Rattle.gw_commands.specs.declared.stated.StatedTable.{StatedTable}

-- the lines at which the rules of a table stand, in their order. A rule of an inline array has no line of its own: where not as
-- many lines begin a rule as there are, they would be those of other rules
abbrev pub known_lines : List ℕ → Meaning → List ℕ
known_lines text table = if length (rule_lines text) == length table.rules then rule_lines text else []

-- the table of the text, and where its rules stand
pub record IsStated (text : List ℕ) (stated : StatedTable) : Type 0 where
  pub table : IsTable text stated.table
  pub lines : stated.lines.items ≡ known_lines text stated.table
