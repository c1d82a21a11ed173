-- How many lines had which fate: each number is that of the whole list of fates, a line one fate, up to 2^64 - 1.
use Rattle.std.specs.Prelude.{◌≡◌, ◌<◌, ℕ, ◌+◌, ◌-◌, ◌==◌, nat_lt, min, Bool, true, false, if◌then◌else◌, List, length}
use Rattle.std.specs.Prelude.{slice_index, slice_index_or, Option, Some, None}
use Rattle.std.specs.List.{filter, position_or_len}
use Rattle.gw_log.specs.declared.refusal.LogRefusal.{LogRefusal}
use Rattle.gw_log.specs.LogFrames.{refusal_number}
use Rattle.gw_table.specs.declared.table.Part.{Part}
use Rattle.gw_table.specs.declared.table.Part.TheVariants.{Rule, Default, Other}
use Rattle.gw_judge.specs.declared.fate.Fate.{Fate}
use Rattle.gw_judge.specs.declared.fate.Fate.TheVariants.{Passed, Blocked, Silent, Refused}
use Rattle.gw_judge.specs.declared.counts.Counts.{Counts}
use Rattle.gw_judge.specs.declared.groups.Grouping.{Grouping}
use Rattle.gw_judge.specs.declared.groups.Verdicts.{Verdicts}
use Rattle.gw_judge.specs.declared.tally.Cause.{Cause}
use Rattle.gw_judge.specs.declared.tally.Tally.{Tally}
use Rattle.gw_judge.specs.Grouped.{Grouped, group_of, group_count, no_verdicts}
use Rattle.gw_judge.specs.Fates.{is_passed, is_blocked, is_refused, decided_by}

abbrev pub up_to_most : ℕ → ℕ
up_to_most n = min n 18446744073709551615

-- how many fates pass a test
unfoldable pub count_of : (Fate → Bool) → List Fate → ℕ
count_of test fates = up_to_most (length (filter test fates))

-- the number of the first line whose fate passes a test, counted from 1, and 0 where there is none
abbrev pub number_at : ℕ → ℕ → ℕ
number_at place lines = if nat_lt place lines then up_to_most (place + 1) else 0

unfoldable pub first_of : (Fate → Bool) → List Fate → ℕ
first_of test fates = number_at (position_or_len test fates) (length fates)

abbrev pub counts_of : List Fate → Counts
counts_of fates = record {
  passed = count_of is_passed fates;
  blocked = count_of is_blocked fates;
  refused = count_of is_refused fates;
}

-- this part decided: the rule of a number, `default`, `other`
abbrev pub is_rule : ℕ → Option Part → Bool
is_rule number (Some (Rule n)) = n == number
is_rule number (Some Default) = false
is_rule number (Some Other) = false
is_rule number None = false

abbrev pub is_default : Option Part → Bool
is_default (Some (Rule n)) = false
is_default (Some Default) = true
is_default (Some Other) = false
is_default None = false

abbrev pub is_other : Option Part → Bool
is_other (Some (Rule n)) = false
is_other (Some Default) = false
is_other (Some Other) = true
is_other None = false

-- causes stand in the order of their numbers, from 101 on
abbrev pub cause_place : LogRefusal → ℕ
cause_place why = refusal_number why - 101

abbrev pub is_refused_for : LogRefusal → Fate → Bool
is_refused_for why (Passed frame) = false
is_refused_for why (Blocked frame) = false
is_refused_for why Silent = false
is_refused_for why (Refused cause) = cause_place cause == cause_place why

-- how many lines were refused for a cause, and which one first
abbrev pub cause_of : LogRefusal → List Fate → Cause
cause_of why fates = record { count = count_of (is_refused_for why) fates; first = first_of (is_refused_for why) fates }

abbrev pub no_cause : Cause
no_cause = record { count = 0; first = 0 }

abbrev pub cause_in : Tally → LogRefusal → Cause
cause_in tally why = slice_index_or tally.causes (cause_place why) no_cause

-- a frame of a group passes, or is blocked
abbrev pub is_passed_in : Grouping → ℕ → Fate → Bool
is_passed_in grouping group (Passed frame) = group_of grouping frame.word == group
is_passed_in grouping group (Blocked frame) = false
is_passed_in grouping group Silent = false
is_passed_in grouping group (Refused why) = false

abbrev pub is_blocked_in : Grouping → ℕ → Fate → Bool
is_blocked_in grouping group (Passed frame) = false
is_blocked_in grouping group (Blocked frame) = group_of grouping frame.word == group
is_blocked_in grouping group Silent = false
is_blocked_in grouping group (Refused why) = false

-- how many frames of a group passed, and how many were blocked
abbrev pub verdicts_of : Grouping → ℕ → List Fate → Verdicts
verdicts_of grouping group fates = record {
  passed = count_of (is_passed_in grouping group) fates;
  blocked = count_of (is_blocked_in grouping group) fates;
}

-- what is told of each group
pub record IsGrouped (fates : List Fate) (groups : Grouped) : Type 0 where
  pub all : length groups.verdicts ≡ group_count groups.grouping
  pub each : (group : ℕ) → group < group_count groups.grouping
      → slice_index_or groups.verdicts group no_verdicts ≡ verdicts_of groups.grouping group fates

-- what a tally of lines tells, where these are their fates
pub record IsTally (fates : List Fate) (tally : Tally) : Type 0 where
  pub lines : tally.lines ≡ up_to_most (length fates)
  pub counts : tally.counts ≡ counts_of fates
  pub rules : length tally.by_rule ≡ 256
  pub by_rule : (number : ℕ) → number < 256
      → slice_index tally.by_rule number ≡ count_of (λ fate. is_rule number (decided_by fate)) fates
  pub by_default : tally.by_default ≡ count_of (λ fate. is_default (decided_by fate)) fates
  pub by_other : tally.by_other ≡ count_of (λ fate. is_other (decided_by fate)) fates
  pub causes : length tally.causes ≡ 13
  pub by_cause : (why : LogRefusal) → cause_in tally why ≡ cause_of why fates
  pub groups : IsGrouped fates tally.groups
