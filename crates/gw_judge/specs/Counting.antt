-- A tally with one line more.
use Rattle.std.specs.Prelude.{ℕ, ◌+◌, ◌==◌, if◌then◌else◌, slice_index, slice_index_or, slice_set, replicate, Option, Some, None}
use Rattle.gw_log.specs.declared.refusal.LogRefusal.{LogRefusal}
use Rattle.gw_table.specs.declared.table.Part.{Part}
use Rattle.gw_table.specs.declared.table.Part.TheVariants.{Rule, Default, Other}
use Rattle.gw_judge.specs.declared.fate.Fate.{Fate}
use Rattle.gw_judge.specs.declared.fate.Fate.TheVariants.{Passed, Blocked, Silent, Refused}
use Rattle.gw_judge.specs.declared.counts.Counts.{Counts}
use Rattle.gw_judge.specs.declared.groups.Verdicts.{Verdicts}
use Rattle.gw_judge.specs.declared.tally.Cause.{Cause}
use Rattle.gw_judge.specs.declared.tally.Tally.{Tally}
use Rattle.gw_judge.specs.Grouped.{Grouped, group_of, no_verdicts}
use Rattle.gw_judge.specs.Tallies.{up_to_most, no_cause, cause_place}

-- the counts of no line, and with one more
abbrev pub no_counts : Counts
no_counts = record { passed = 0; blocked = 0; refused = 0 }

abbrev pub counts_with : Fate → Counts → Counts
counts_with (Passed frame) counts = record counts { passed = up_to_most (counts.passed + 1) }
counts_with (Blocked frame) counts = record counts { blocked = up_to_most (counts.blocked + 1) }
counts_with Silent counts = counts
counts_with (Refused why) counts = record counts { refused = up_to_most (counts.refused + 1) }

-- the verdicts on the frames of a group, with one frame more
abbrev pub verdicts_with : Fate → Verdicts → Verdicts
verdicts_with (Passed frame) verdicts = record verdicts { passed = up_to_most (verdicts.passed + 1) }
verdicts_with (Blocked frame) verdicts = record verdicts { blocked = up_to_most (verdicts.blocked + 1) }
verdicts_with Silent verdicts = verdicts
verdicts_with (Refused why) verdicts = verdicts

abbrev pub group_with : ℕ → Fate → Grouped → Grouped
group_with group fate groups = record groups {
  verdicts = slice_set groups.verdicts group (verdicts_with fate (slice_index_or groups.verdicts group no_verdicts));
}

abbrev pub groups_with : Fate → Grouped → Grouped
groups_with (Passed frame) groups = group_with (group_of groups.grouping frame.word) (Passed frame) groups
groups_with (Blocked frame) groups = group_with (group_of groups.grouping frame.word) (Blocked frame) groups
groups_with Silent groups = groups
groups_with (Refused why) groups = groups

-- the tally of no line, with its groups
abbrev pub no_tally : Grouped → Tally
no_tally groups = record {
  lines = 0;
  counts = no_counts;
  by_rule = replicate 256 0;
  by_default = 0;
  by_other = 0;
  causes = replicate 13 no_cause;
  groups = groups;
}

-- a frame more that a part decided
abbrev pub with_part : Option Part → Tally → Tally
with_part (Some (Rule n)) tally =
    record tally { by_rule = slice_set tally.by_rule n (up_to_most (slice_index tally.by_rule n + 1)) }
with_part (Some Default) tally = record tally { by_default = up_to_most (tally.by_default + 1) }
with_part (Some Other) tally = record tally { by_other = up_to_most (tally.by_other + 1) }
with_part None tally = tally

-- the line of a number more, refused for a cause
abbrev pub cause_with : ℕ → Cause → Cause
cause_with number cause = record {
  count = up_to_most (cause.count + 1);
  first = if cause.first == 0 then number else cause.first;
}

abbrev pub with_cause : LogRefusal → Tally → Tally
with_cause why tally = record tally {
  causes = slice_set tally.causes (cause_place why)
      (cause_with tally.lines (slice_index_or tally.causes (cause_place why) no_cause));
}

-- a line more
abbrev pub counted : Fate → Tally → Tally
counted fate tally = record tally {
  lines = up_to_most (tally.lines + 1);
  counts = counts_with fate tally.counts;
  groups = groups_with fate tally.groups;
}

abbrev pub with_fate : Fate → Tally → Tally
with_fate (Passed frame) tally = with_part frame.part tally
with_fate (Blocked frame) tally = with_part frame.part tally
with_fate Silent tally = tally
with_fate (Refused why) tally = with_cause why tally

abbrev pub tally_with : Fate → Tally → Tally
tally_with fate tally = with_fate fate (counted fate tally)
