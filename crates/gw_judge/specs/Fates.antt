-- What becomes of a line of a log.
use Rattle.std.specs.Prelude.{ℕ, Bool, true, false, if◌then◌else◌, List, position, Option, Some, None, Ok, Err}
use Rattle.gw_ident.specs.Identifier.{is_extended_data}
use Rattle.gw_frame.specs.Record.{word_of}
use Rattle.gw_log.specs.LogLines.{Reading, line_of}
use Rattle.gw_table.specs.declared.table.Part.{Part}
use Rattle.gw_table.specs.declared.table.Part.TheVariants.{Rule, Default, Other}
use Rattle.gw_table.specs.Table.{Meaning, matches, table_passes}
use Rattle.gw_policy.specs.Filter.{Filter, filter_passes}
use Rattle.gw_judge.specs.declared.fate.Decided.{Decided}
use Rattle.gw_judge.specs.declared.fate.Fate.{Fate}
use Rattle.gw_judge.specs.declared.fate.Fate.TheVariants.{Passed, Blocked, Silent, Refused}

abbrev pub verdict_fate : Bool → Decided → Fate
verdict_fate passes decided = if passes then Passed decided else Blocked decided

-- what becomes of a record that was taken at a port: a policy says alone whether it passes
abbrev pub policy_fate : Filter → ℕ → List ℕ → Fate
policy_fate filter port octets =
    verdict_fate (filter_passes filter octets port) (record { part = None; word = word_of octets })

-- the part of a table that decides a frame: the rule of least number whose four ranges hold, else `default`, and `other` for
-- a frame that is no extended data frame
abbrev pub rule_or_default : Option ℕ → Part
rule_or_default (Some number) = Rule number
rule_or_default None = Default

abbrev pub deciding_part : Meaning → List ℕ → ℕ → Part
deciding_part table octets port =
    if is_extended_data (word_of octets) then rule_or_default (position (matches octets port) table.rules) else Other

-- a table names this part too
abbrev pub table_fate : Meaning → ℕ → List ℕ → Fate
table_fate table port octets =
    verdict_fate (table_passes table octets port)
    (record { part = Some (deciding_part table octets port); word = word_of octets })

-- nothing is said of a record that two tables both pass, or both block
abbrev pub where_unlike : Bool → Bool → Fate → Fate
where_unlike true true fate = Silent
where_unlike false false fate = Silent
where_unlike true false fate = fate
where_unlike false true fate = fate

-- what a new table does to a record that an old one treats otherwise
abbrev pub changed_fate : Meaning → Meaning → ℕ → List ℕ → Fate
changed_fate old new port octets =
    where_unlike (table_passes old octets port) (table_passes new octets port) (table_fate new port octets)

-- what becomes of a line, where this becomes of the record that it says
abbrev pub said_fate : (List ℕ → Fate) → Reading → Fate
said_fate by (Err why) = Refused why
said_fate by (Ok None) = Silent
said_fate by (Ok (Some e)) = by e.octets

unfoldable pub fate_of : (List ℕ → Fate) → List ℕ → Fate
fate_of by line = said_fate by (line_of line)

abbrev pub is_passed : Fate → Bool
is_passed (Passed frame) = true
is_passed (Blocked frame) = false
is_passed Silent = false
is_passed (Refused why) = false

abbrev pub is_blocked : Fate → Bool
is_blocked (Passed frame) = false
is_blocked (Blocked frame) = true
is_blocked Silent = false
is_blocked (Refused why) = false

abbrev pub is_refused : Fate → Bool
is_refused (Passed frame) = false
is_refused (Blocked frame) = false
is_refused Silent = false
is_refused (Refused why) = true

-- the part that decided, if a table judged a frame
abbrev pub decided_by : Fate → Option Part
decided_by (Passed frame) = frame.part
decided_by (Blocked frame) = frame.part
decided_by Silent = None
decided_by (Refused why) = None
