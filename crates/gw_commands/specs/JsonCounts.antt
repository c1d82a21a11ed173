-- What was counted of a log, as one JSON object (RFC 8259) of numbers: those of the text of LogCounts, under its words.
use Rattle.std.specs.Prelude.{ℕ, ◌==◌, ◌&&◌, not, if◌then◌else◌, Bool, List, [], ◌++◌, map, codes, decimal, slice_get}
use Rattle.std.specs.Prelude.{slice_index, slice_index_or}
use Rattle.std.specs.Prelude.{Option}
use Rattle.std.specs.Option.{option_map_or}
use Rattle.std.specs.List.{filter, join_with_byte, range_with_len}
use Rattle.gw_judge.specs.declared.groups.Verdicts.{Verdicts}
use Rattle.gw_judge.specs.declared.tally.Tally.{Tally}
use Rattle.gw_judge.specs.Grouped.{Grouped, other_group, no_verdicts}

-- a member of an object, and one behind others
unfoldable pub member : List ℕ → ℕ → List ℕ
member key n = codes "\"" ++ key ++ codes "\":" ++ decimal n

unfoldable pub next_member : List ℕ → ℕ → List ℕ
next_member key n = codes ",\"" ++ key ++ codes "\":" ++ decimal n

-- the members of all lines, which end the object
abbrev pub totals_json : Tally → List ℕ
totals_json tally =
    member (codes "lines") tally.lines ++ next_member (codes "passed") tally.counts.passed
    ++ next_member (codes "blocked") tally.counts.blocked ++ next_member (codes "refused") tally.counts.refused ++ codes "}\n"

-- the member that says where a rule stands, where that is known
abbrev pub line_json : Option ℕ → List ℕ
line_json line = option_map_or (next_member (codes "line")) line []

-- a rule, and how many frames it decided
abbrev pub rule_json : List ℕ → ℕ → ℕ → List ℕ
rule_json lines number count =
    codes "{" ++ member (codes "rule") number ++ line_json (slice_get lines number) ++ next_member (codes "decided") count
    ++ codes "}"

-- so many rules, in their order, with commas between them
unfoldable pub rules_json : List ℕ → Tally → ℕ → List ℕ
rules_json lines tally count =
    join_with_byte 44 (map (λ number. rule_json lines number (slice_index tally.by_rule number)) (range_with_len 0 count))

-- the object of a table with so many rules, which stand at these lines, and that of a program
abbrev pub table_json : List ℕ → ℕ → Tally → List ℕ
table_json lines count tally =
    codes "{\"rules\":[" ++ rules_json lines tally count ++ codes "]" ++ next_member (codes "default") tally.by_default
    ++ next_member (codes "other") tally.by_other ++ codes "," ++ totals_json tally

abbrev pub policy_json : Tally → List ℕ
policy_json tally = codes "{" ++ totals_json tally

-- how many frames of a group passed, and how many were blocked
abbrev pub verdicts_json : Verdicts → List ℕ
verdicts_json verdicts =
    member (codes "passed") verdicts.passed ++ next_member (codes "blocked") verdicts.blocked ++ codes "}"

abbrev pub verdicts_in : Grouped → ℕ → Verdicts
verdicts_in groups group = slice_index_or groups.verdicts group no_verdicts

abbrev pub has_none : Verdicts → Bool
has_none verdicts = (verdicts.passed == 0) && (verdicts.blocked == 0)

-- a group by its number
abbrev pub group_json : List ℕ → ℕ → Verdicts → List ℕ
group_json key group verdicts = codes "{" ++ member key group ++ codes "," ++ verdicts_json verdicts

-- such a group behind others, where it has a frame
abbrev pub next_json : List ℕ → ℕ → Verdicts → Bool → List ℕ
next_json key group verdicts is_first =
    if has_none verdicts then [] else (if is_first then [] else codes ",") ++ group_json key group verdicts

-- the groups below a number that have a frame, in ascending order, with commas between them
unfoldable pub groups_json : List ℕ → Grouped → ℕ → List ℕ
groups_json key groups count =
    join_with_byte 44 (map (λ group. group_json key group (verdicts_in groups group))
    (filter (λ group. not (has_none (verdicts_in groups group))) (range_with_len 0 count)))

-- the object of groups: these, then all frames that are no extended data frames
abbrev pub grouped_json : List ℕ → Tally → List ℕ
grouped_json key tally =
    codes "{\"groups\":[" ++ groups_json key tally.groups (other_group tally.groups.grouping) ++ codes "],\"other\":{"
    ++ verdicts_json (verdicts_in tally.groups (other_group tally.groups.grouping)) ++ codes "," ++ totals_json tally
