-- The text of what was counted of a log: a line for each rule of a table, for `default` and `other`, or for each group of
-- frames, and one for all lines.
use Rattle.std.specs.Prelude.{ℕ, ◌==◌, ◌&&◌, if◌then◌else◌, List, [], ◌++◌, length, codes, decimal, slice_get, slice_index}
use Rattle.std.specs.Prelude.{slice_index_or}
use Rattle.std.specs.Option.{option_map_or}
use Rattle.std.specs.List.{flat_map, range_with_len}
use Rattle.gw_table.specs.declared.table.Action.{Action}
use Rattle.gw_table.specs.declared.table.Action.TheVariants.{Pass, Block}
use Rattle.gw_table.specs.declared.refusal.Field.{Field}
use Rattle.gw_table.specs.declared.refusal.Field.TheVariants.{Pgn, Source, Destination, From}
use Rattle.gw_table.specs.declared.table.Span.{Span}
use Rattle.gw_table.specs.declared.table.Rule.{Rule}
use Rattle.gw_table.specs.Table.{Meaning}
use Rattle.gw_table.specs.TableText.{greatest, key_of}
use Rattle.gw_policy.specs.Filter.{Filter}
use Rattle.gw_input.specs.RuleLines.{rule_name}
use Rattle.gw_judge.specs.declared.groups.Grouping.{Grouping}
use Rattle.gw_judge.specs.declared.groups.Grouping.TheVariants as by
use Rattle.gw_judge.specs.declared.groups.Verdicts.{Verdicts}
use Rattle.gw_judge.specs.declared.tally.Tally.{Tally}
use Rattle.gw_judge.specs.Grouped.{Grouped, other_group, no_verdicts}
use Rattle.gw_commands.specs.GroupNames.{group_name}

abbrev pub action_word : Action → List ℕ
action_word Pass = codes "pass"
action_word Block = codes "block"

-- a rule's range of a field, unless it leaves nothing out
abbrev pub range_text : Field → Span → List ℕ
range_text field range =
    if (range.low == 0) && (range.high == greatest field) then []
    else if range.low == range.high then codes " " ++ key_of field ++ codes " " ++ decimal range.low
    else codes " " ++ key_of field ++ codes " " ++ decimal range.low ++ codes " to " ++ decimal range.high

-- what a rule says: its action, and each range that leaves something out
abbrev pub rule_text : Rule → List ℕ
rule_text rule =
    action_word rule.action ++ range_text Pgn rule.pgn ++ range_text Source rule.source
    ++ range_text Destination rule.destination ++ range_text From rule.from

-- a rule, which stands at its line of the table's text: how many frames it decided, and what it says
abbrev pub rule_count : List ℕ → ℕ → ℕ → Rule → List ℕ
rule_count lines number count rule =
    rule_name lines number ++ codes " decided " ++ decimal count ++ codes ": " ++ rule_text rule ++ codes "\n"

-- a line for each rule, in their order
abbrev pub rule_line : List ℕ → Tally → List Rule → ℕ → List ℕ
rule_line lines tally rules number =
    option_map_or (rule_count lines number (slice_index tally.by_rule number)) (slice_get rules number) []

unfoldable pub rule_counts : List ℕ → Tally → List Rule → List ℕ
rule_counts lines tally rules = flat_map (rule_line lines tally rules) (range_with_len 0 (length rules))

-- the line of `default` or of `other`
abbrev pub part_line : List ℕ → ℕ → Action → List ℕ
part_line key count action = key ++ codes " decided " ++ decimal count ++ codes ": " ++ action_word action ++ codes "\n"

-- the line of all lines
abbrev pub totals_line : Tally → List ℕ
totals_line tally =
    codes "lines " ++ decimal tally.lines ++ codes " passed " ++ decimal tally.counts.passed
    ++ codes " blocked " ++ decimal tally.counts.blocked ++ codes " refused " ++ decimal tally.counts.refused ++ codes "\n"

-- of a table whose rules stand at these lines, the lines of its parts, and then that of all; of a program this alone
abbrev pub table_counts : Meaning → List ℕ → Tally → List ℕ
table_counts table lines tally =
    rule_counts lines tally table.rules ++ part_line (codes "default") tally.by_default table.otherwise
    ++ part_line (codes "other") tally.by_other table.other ++ totals_line tally

abbrev pub policy_counts : Filter → List ℕ → Tally → List ℕ
policy_counts filter lines tally = totals_line tally

-- how many frames of a group passed, and how many were blocked
abbrev pub verdicts_text : Verdicts → List ℕ
verdicts_text verdicts =
    codes " passed " ++ decimal verdicts.passed ++ codes " blocked " ++ decimal verdicts.blocked ++ codes "\n"

-- what stands behind the number of a group: the name of a well-known parameter group
abbrev pub name_in : Grouping → ℕ → List ℕ
name_in by.Pgn group = group_name group
name_in _ group = []

-- the line of a group that has a frame
abbrev pub group_text : List ℕ → ℕ → List ℕ → Verdicts → List ℕ
group_text key group name verdicts =
    if (verdicts.passed == 0) && (verdicts.blocked == 0) then []
    else key ++ codes " " ++ decimal group ++ name ++ verdicts_text verdicts

-- a line for each group below a number that has a frame, in ascending order
abbrev pub group_line : List ℕ → Grouped → ℕ → List ℕ
group_line key groups group =
    group_text key group (name_in groups.grouping group) (slice_index_or groups.verdicts group no_verdicts)

unfoldable pub group_lines : List ℕ → Grouped → ℕ → List ℕ
group_lines key groups count = flat_map (group_line key groups) (range_with_len 0 count)

-- the groups, then all frames that are no extended data frames, then all lines
abbrev pub group_counts : List ℕ → Tally → List ℕ
group_counts key tally =
    group_lines key tally.groups (other_group tally.groups.grouping) ++ codes "other"
    ++ verdicts_text (slice_index_or tally.groups.verdicts (other_group tally.groups.grouping) no_verdicts) ++ totals_line tally
