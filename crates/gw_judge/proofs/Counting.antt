-- A tally with one line more.
use Rattle.std.proofs.Common.{◌≡◌, ℕ, ◌+◌, ◌≤◌, ◌<◌, ◌==◌, Bool, true, false, List, [], ◌∷◌, ◌++◌}
use Rattle.std.proofs.Common.{length, get_or, set, Option, Some, None, refl, sym, ap, ◌∙◌, subst, arith}
use Rattle.std.specs.Prelude.{if◌then◌else◌, slice_index}
use Rattle.std.proofs.lemmas.List.{length-append, length-replicate, length-set}
use Rattle.std.proofs.lemmas.List.{get_or-replicate}
use Rattle.gw_log.specs.declared.refusal.LogRefusal.{LogRefusal}
use Rattle.gw_log.specs.declared.refusal.LogRefusal.TheVariants as refusal
use Rattle.gw_log.specs.LogFrames.{refusal_number}
use Rattle.gw_table.specs.declared.table.Part.{Part}
use Rattle.gw_table.specs.declared.table.Part.TheVariants.{Rule, Default, Other}
use Rattle.gw_judge.specs.declared.fate.Fate.{Fate}
use Rattle.gw_judge.specs.declared.fate.Fate.TheVariants.{Passed, Blocked, Silent, Refused}
use Rattle.gw_judge.specs.declared.tally.Cause.{Cause}
use Rattle.gw_judge.specs.declared.tally.Tally.{Tally}
use Rattle.gw_judge.specs.Grouped.{Grouped, no_groups}
use Rattle.gw_judge.specs.Fates.{is_passed, is_blocked, is_refused, decided_by}
use Rattle.gw_judge.specs.Tallies.{up_to_most, count_of, first_of, counts_of, is_rule, is_default, is_other}
use Rattle.gw_judge.specs.Tallies.{cause_place, is_refused_for, cause_of, no_cause, IsTally}
use Rattle.gw_judge.specs.Tallies.{IsGrouped}
use Rattle.gw_judge.specs.Counting.{counts_with, no_tally, with_part, cause_with}
use Rattle.gw_judge.specs.Counting.{counted, tally_with}
use Rattle.gw_judge.proofs.OneMore.{saturates, count_more, first_more, get_set}
use Rattle.gw_judge.proofs.CountedGroups.{groups_more, none_grouped, same_grouping}

-- ---- the counts

counts_more : (fates : List Fate) (f : Fate) → counts_of (fates ++ f ∷ []) ≡ counts_with f (counts_of fates)
counts_more fates (Passed frame) =
    rw (
      count_more is_passed fates (Passed frame),
      count_more is_blocked fates (Passed frame),
      count_more is_refused fates (Passed frame),
    ) refl
counts_more fates (Blocked frame) =
    rw (
      count_more is_passed fates (Blocked frame),
      count_more is_blocked fates (Blocked frame),
      count_more is_refused fates (Blocked frame),
    ) refl
counts_more fates Silent =
    rw (count_more is_passed fates Silent, count_more is_blocked fates Silent, count_more is_refused fates Silent) refl
counts_more fates (Refused why) =
    rw (
      count_more is_passed fates (Refused why),
      count_more is_blocked fates (Refused why),
      count_more is_refused fates (Refused why),
    ) refl

-- ---- the parts of a table

record ArePartsTold (fates : List Fate) (t : Tally) : Type 0 where
  pub rules : length t.by_rule ≡ 256
  pub by_rule : (number : ℕ) → number < 256
      → slice_index t.by_rule number ≡ count_of (λ fate. is_rule number (decided_by fate)) fates
  pub by_default : t.by_default ≡ count_of (λ fate. is_default (decided_by fate)) fates
  pub by_other : t.by_other ≡ count_of (λ fate. is_other (decided_by fate)) fates

-- what is told of one part, with a frame more
told_more : (is : Option Part → Bool) (fates : List Fate) (f : Fate) (d : Option Part) (n : ℕ) → decided_by f ≡ d
    → n ≡ count_of (λ fate. is (decided_by fate)) fates
    → (if is d then up_to_most (n + 1) else n) ≡ count_of (λ fate. is (decided_by fate)) (fates ++ f ∷ [])
told_more is fates f d n by told =
    rw (sym by, told) (sym (count_more (λ fate. is (decided_by fate)) fates f))

parts_more : (fates : List Fate) (f : Fate) (t : Tally) (d : Option Part) → decided_by f ≡ d → ArePartsTold fates t
    → ArePartsTold (fates ++ f ∷ []) (with_part d t)
parts_more fates f t (Some (Rule n)) by h = record {
  rules = length-set t.by_rule n (up_to_most (slice_index t.by_rule n + 1)) ∙ h.rules;
  by_rule = λ number less.
      get_set t.by_rule n number (λ k. up_to_most (k + 1)) 0 (subst (λ len. number < len) (sym h.rules) less)
      ∙ told_more (is_rule number) fates f (Some (Rule n)) (slice_index t.by_rule number) by (h.by_rule number less);
  by_default = told_more is_default fates f (Some (Rule n)) t.by_default by h.by_default;
  by_other = told_more is_other fates f (Some (Rule n)) t.by_other by h.by_other;
}
parts_more fates f t (Some Default) by h = record {
  rules = h.rules;
  by_rule = λ number less.
      told_more (is_rule number) fates f (Some Default) (slice_index t.by_rule number) by (h.by_rule number less);
  by_default = told_more is_default fates f (Some Default) t.by_default by h.by_default;
  by_other = told_more is_other fates f (Some Default) t.by_other by h.by_other;
}
parts_more fates f t (Some Other) by h = record {
  rules = h.rules;
  by_rule = λ number less.
      told_more (is_rule number) fates f (Some Other) (slice_index t.by_rule number) by (h.by_rule number less);
  by_default = told_more is_default fates f (Some Other) t.by_default by h.by_default;
  by_other = told_more is_other fates f (Some Other) t.by_other by h.by_other;
}
parts_more fates f t None by h = record {
  rules = h.rules;
  by_rule = λ number less.
      told_more (is_rule number) fates f None (slice_index t.by_rule number) by (h.by_rule number less);
  by_default = told_more is_default fates f None t.by_default by h.by_default;
  by_other = told_more is_other fates f None t.by_other by h.by_other;
}

-- ---- the causes

record AreCausesTold (fates : List Fate) (causes : List Cause) : Type 0 where
  pub all : length causes ≡ 13
  pub by_cause : (why : LogRefusal) → get_or causes (cause_place why) no_cause ≡ cause_of why fates

pub place_below : (why : LogRefusal) → cause_place why < 13
place_below refusal.CanFd = omega arith
place_below refusal.OpenTime = omega arith
place_below refusal.NoFrame = omega arith
place_below refusal.WordsBefore = omega arith
place_below refusal.DigitsBehind = omega arith
place_below refusal.NoDigit = omega arith
place_below refusal.BadDigits = omega arith
place_below refusal.WideId = omega arith
place_below refusal.OddDigits = omega arith
place_below refusal.BadLength = omega arith
place_below refusal.BadRemote = omega arith
place_below refusal.BadCode = omega arith
place_below refusal.LongLine = omega arith

pub from_101 : (why : LogRefusal) → 101 ≤ refusal_number why
from_101 refusal.CanFd = omega arith
from_101 refusal.OpenTime = omega arith
from_101 refusal.NoFrame = omega arith
from_101 refusal.WordsBefore = omega arith
from_101 refusal.DigitsBehind = omega arith
from_101 refusal.NoDigit = omega arith
from_101 refusal.BadDigits = omega arith
from_101 refusal.WideId = omega arith
from_101 refusal.OddDigits = omega arith
from_101 refusal.BadLength = omega arith
from_101 refusal.BadRemote = omega arith
from_101 refusal.BadCode = omega arith
from_101 refusal.LongLine = omega arith

cause_more : (why : LogRefusal) (fates : List Fate) (f : Fate) → cause_of why (fates ++ f ∷ [])
    ≡ (if is_refused_for why f then cause_with (up_to_most (length fates + 1)) (cause_of why fates) else cause_of why fates)
cause_more why fates f =
    rw (count_more (is_refused_for why) fates f, first_more (is_refused_for why) fates f) (go (is_refused_for why f))
  where
    go : (b : Bool) → (record {
      count = if b then up_to_most (count_of (is_refused_for why) fates + 1) else count_of (is_refused_for why) fates;
      first = if b then (if first_of (is_refused_for why) fates == 0 then up_to_most (length fates + 1)
          else first_of (is_refused_for why) fates) else first_of (is_refused_for why) fates;
    }) ≡ (if b then cause_with (up_to_most (length fates + 1)) (cause_of why fates) else cause_of why fates)
    go true = refl
    go false = refl

causes_same : (fates : List Fate) (f : Fate) (causes : List Cause) → ((why : LogRefusal) → is_refused_for why f ≡ false)
    → AreCausesTold fates causes → AreCausesTold (fates ++ f ∷ []) causes
causes_same fates f causes none h = record {
  all = h.all;
  by_cause = λ why. h.by_cause why ∙ sym (cause_more why fates f
      ∙ ap (λ b. if b then cause_with (up_to_most (length fates + 1)) (cause_of why fates) else cause_of why fates) (none why));
}

causes_more : (fates : List Fate) (cause : LogRefusal) (causes : List Cause) (number : ℕ)
    → number ≡ up_to_most (length fates + 1) → AreCausesTold fates causes
    → AreCausesTold (fates ++ Refused cause ∷ [])
    (set causes (cause_place cause) (cause_with number (get_or causes (cause_place cause) no_cause)))
causes_more fates cause causes number at h = record {
  all = length-set causes (cause_place cause) (cause_with number (get_or causes (cause_place cause) no_cause)) ∙ h.all;
  by_cause = λ why.
      get_set causes (cause_place cause) (cause_place why) (cause_with number) no_cause
      (subst (λ len. cause_place why < len) (sym h.all) (place_below why))
      ∙ rw (h.by_cause why, at) (sym (cause_more why fates (Refused cause)));
}

-- ---- all of it

told : (fates : List Fate) (t : Tally) → t.lines ≡ up_to_most (length fates) → t.counts ≡ counts_of fates
    → ArePartsTold fates t → AreCausesTold fates t.causes → IsGrouped fates t.groups → IsTally fates t
told fates t lines counts parts causes groups = record {
  lines = lines;
  counts = counts;
  rules = parts.rules;
  by_rule = parts.by_rule;
  by_default = parts.by_default;
  by_other = parts.by_other;
  causes = causes.all;
  by_cause = causes.by_cause;
  groups = groups;
}

parts_told : (fates : List Fate) (f : Fate) (t : Tally) → IsTally fates t → ArePartsTold fates (counted f t)
parts_told fates f t h = record { rules = h.rules; by_rule = h.by_rule; by_default = h.by_default; by_other = h.by_other }

causes_told : (fates : List Fate) (t : Tally) → IsTally fates t → AreCausesTold fates t.causes
causes_told fates t h = record { all = h.causes; by_cause = h.by_cause }

lines_more : (fates : List Fate) (f : Fate) (t : Tally) → IsTally fates t
    → up_to_most (t.lines + 1) ≡ up_to_most (length (fates ++ f ∷ []))
lines_more fates f t h =
    ap (λ n. up_to_most (n + 1)) h.lines ∙ sym (saturates (length fates))
    ∙ ap up_to_most (sym (length-append fates (f ∷ [])))

number_more : (fates : List Fate) (f : Fate) (t : Tally) → IsTally fates t
    → up_to_most (t.lines + 1) ≡ up_to_most (length fates + 1)
number_more fates f t h = ap (λ n. up_to_most (n + 1)) h.lines ∙ sym (saturates (length fates))

all_counts : (fates : List Fate) (f : Fate) (t : Tally) → IsTally fates t → counts_with f t.counts ≡ counts_of (fates ++ f ∷ [])
all_counts fates f t h = ap (counts_with f) h.counts ∙ sym (counts_more fates f)

same_lines : (d : Option Part) (t : Tally) → (with_part d t).lines ≡ t.lines
same_lines (Some (Rule n)) t = refl
same_lines (Some Default) t = refl
same_lines (Some Other) t = refl
same_lines None t = refl

same_counts : (d : Option Part) (t : Tally) → (with_part d t).counts ≡ t.counts
same_counts (Some (Rule n)) t = refl
same_counts (Some Default) t = refl
same_counts (Some Other) t = refl
same_counts None t = refl

same_causes : (d : Option Part) (t : Tally) → (with_part d t).causes ≡ t.causes
same_causes (Some (Rule n)) t = refl
same_causes (Some Default) t = refl
same_causes (Some Other) t = refl
same_causes None t = refl

same_groups : (d : Option Part) (t : Tally) → (with_part d t).groups ≡ t.groups
same_groups (Some (Rule n)) t = refl
same_groups (Some Default) t = refl
same_groups (Some Other) t = refl
same_groups None t = refl

-- a line more that is not refused
fine_more : (fates : List Fate) (f : Fate) (t : Tally) (d : Option Part) → decided_by f ≡ d
    → ((why : LogRefusal) → is_refused_for why f ≡ false) → IsTally fates t
    → IsTally (fates ++ f ∷ []) (with_part d (counted f t))
fine_more fates f t d by none h =
    told (fates ++ f ∷ []) (with_part d (counted f t)) (same_lines d (counted f t) ∙ lines_more fates f t h)
    (same_counts d (counted f t) ∙ all_counts fates f t h) (parts_more fates f (counted f t) d by (parts_told fates f t h))
    (subst (AreCausesTold (fates ++ f ∷ [])) (sym (same_causes d (counted f t)))
    (causes_same fates f t.causes none (causes_told fates t h)))
    (subst (IsGrouped (fates ++ f ∷ [])) (sym (same_groups d (counted f t))) (groups_more fates f t.groups h.groups))

pub tally_more : (fates : List Fate) (f : Fate) (t : Tally) → IsTally fates t → IsTally (fates ++ f ∷ []) (tally_with f t)
tally_more fates (Passed frame) t h = fine_more fates (Passed frame) t frame.part refl (λ why. refl) h
tally_more fates (Blocked frame) t h = fine_more fates (Blocked frame) t frame.part refl (λ why. refl) h
tally_more fates Silent t h = fine_more fates Silent t None refl (λ why. refl) h
tally_more fates (Refused why) t h =
    let parts = parts_more fates (Refused why) (counted (Refused why) t) None refl (parts_told fates (Refused why) t h) in
    told (fates ++ Refused why ∷ []) (tally_with (Refused why) t) (lines_more fates (Refused why) t h)
    (all_counts fates (Refused why) t h)
    (record { rules = parts.rules; by_rule = parts.by_rule; by_default = parts.by_default; by_other = parts.by_other })
    (causes_more fates why t.causes (up_to_most (t.lines + 1)) (number_more fates (Refused why) t h) (causes_told fates t h))
    (groups_more fates (Refused why) t.groups h.groups)

-- frames are grouped as before
pub grouping_stays : (f : Fate) (t u : Tally) → u ≡ tally_with f t → u.groups.grouping ≡ t.groups.grouping
grouping_stays (Passed frame) t u one =
    ap (λ (u : Tally). u.groups.grouping) one
    ∙ ap (λ (g : Grouped). g.grouping) (same_groups frame.part (counted (Passed frame) t)) ∙ same_grouping (Passed frame) t.groups
grouping_stays (Blocked frame) t u one =
    ap (λ (u : Tally). u.groups.grouping) one
    ∙ ap (λ (g : Grouped). g.grouping) (same_groups frame.part (counted (Blocked frame) t))
    ∙ same_grouping (Blocked frame) t.groups
grouping_stays Silent t u one = ap (λ (u : Tally). u.groups.grouping) one
grouping_stays (Refused why) t u one = ap (λ (u : Tally). u.groups.grouping) one

-- no line
pub none_told : (groups : Grouped) → groups ≡ no_groups groups.grouping → IsTally [] (no_tally groups)
unfolding count_of first_of
none_told groups fresh = record {
  lines = refl;
  counts = refl;
  rules = length-replicate {A = ℕ} 256 0;
  by_rule = λ number less. get_or-replicate {A = ℕ} 256 number 0 0 less;
  by_default = refl;
  by_other = refl;
  causes = length-replicate {A = Cause} 13 no_cause;
  by_cause = λ why. get_or-replicate 13 (cause_place why) no_cause no_cause (place_below why);
  groups = subst (IsGrouped []) (sym fresh) (none_grouped groups.grouping);
}
