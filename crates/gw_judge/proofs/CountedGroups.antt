-- The groups of frames, with one line more.
use Rattle.std.proofs.Common.{◌≡◌, ℕ, ◌+◌, ◌<◌, ◌==◌, Bool, true, false, List, [], ◌∷◌, ◌++◌}
use Rattle.std.proofs.Common.{get_or, refl, sym, ap, ◌∙◌, subst}
use Rattle.std.specs.Prelude.{if◌then◌else◌}
use Rattle.std.proofs.lemmas.List.{length-replicate, length-set}
use Rattle.std.proofs.lemmas.List.{get_or-replicate}
use Rattle.gw_judge.specs.declared.fate.Fate.{Fate}
use Rattle.gw_judge.specs.declared.fate.Fate.TheVariants.{Passed, Blocked, Silent, Refused}
use Rattle.gw_judge.specs.declared.groups.Grouping.{Grouping}
use Rattle.gw_judge.specs.Grouped.{Grouped, group_of, group_count, no_verdicts, no_groups}
use Rattle.gw_judge.specs.Tallies.{up_to_most, count_of}
use Rattle.gw_judge.specs.Tallies.{is_passed_in, is_blocked_in, verdicts_of, IsGrouped}
use Rattle.gw_judge.specs.Counting.{verdicts_with, group_with, groups_with}
use Rattle.gw_judge.proofs.OneMore.{count_more, get_set}

-- a frame of a group passes or is blocked
abbrev is_in : Grouping → ℕ → Fate → Bool
is_in grouping group (Passed frame) = group_of grouping frame.word == group
is_in grouping group (Blocked frame) = group_of grouping frame.word == group
is_in grouping group Silent = false
is_in grouping group (Refused why) = false

verdicts_more : (grouping : Grouping) (group : ℕ) (fates : List Fate) (f : Fate) → verdicts_of grouping group (fates ++ f ∷ [])
    ≡ (if is_in grouping group f then verdicts_with f (verdicts_of grouping group fates) else verdicts_of grouping group fates)
verdicts_more grouping group fates (Passed frame) =
    rw (
      count_more (is_passed_in grouping group) fates (Passed frame),
      count_more (is_blocked_in grouping group) fates (Passed frame),
    ) (go (group_of grouping frame.word == group))
  where
    go : (b : Bool) → (record {
      passed = if b then up_to_most (count_of (is_passed_in grouping group) fates + 1)
          else count_of (is_passed_in grouping group) fates;
      blocked = count_of (is_blocked_in grouping group) fates;
    }) ≡ (if b then verdicts_with (Passed frame) (verdicts_of grouping group fates) else verdicts_of grouping group fates)
    go true = refl
    go false = refl
verdicts_more grouping group fates (Blocked frame) =
    rw (
      count_more (is_passed_in grouping group) fates (Blocked frame),
      count_more (is_blocked_in grouping group) fates (Blocked frame),
    ) (go (group_of grouping frame.word == group))
  where
    go : (b : Bool) → (record {
      passed = count_of (is_passed_in grouping group) fates;
      blocked = if b then up_to_most (count_of (is_blocked_in grouping group) fates + 1)
          else count_of (is_blocked_in grouping group) fates;
    }) ≡ (if b then verdicts_with (Blocked frame) (verdicts_of grouping group fates) else verdicts_of grouping group fates)
    go true = refl
    go false = refl
verdicts_more grouping group fates Silent =
    rw (count_more (is_passed_in grouping group) fates Silent, count_more (is_blocked_in grouping group) fates Silent) refl
verdicts_more grouping group fates (Refused why) =
    rw (
      count_more (is_passed_in grouping group) fates (Refused why),
      count_more (is_blocked_in grouping group) fates (Refused why),
    ) refl

-- a frame more in its group
group_more : (fates : List Fate) (f : Fate) (groups : Grouped) (group : ℕ)
    → ((other : ℕ) → is_in groups.grouping other f ≡ (group == other)) → IsGrouped fates groups
    → IsGrouped (fates ++ f ∷ []) (group_with group f groups)
group_more fates f groups group there h =
    let set_length = length-set groups.verdicts group (verdicts_with f (get_or groups.verdicts group no_verdicts)) in
    record {
      all = set_length ∙ h.all;
      each = λ other less.
          get_set groups.verdicts group other (verdicts_with f) no_verdicts (subst (λ len. other < len) (sym h.all) less)
          ∙ rw (h.each other less, sym (there other)) (sym (verdicts_more groups.grouping other fates f));
    }

-- a line more that says no frame
groups_same : (fates : List Fate) (f : Fate) (groups : Grouped) → ((other : ℕ) → is_in groups.grouping other f ≡ false)
    → IsGrouped fates groups → IsGrouped (fates ++ f ∷ []) groups
groups_same fates f groups none h = record {
  all = h.all;
  each = λ other less. h.each other less ∙ sym (verdicts_more groups.grouping other fates f
      ∙ ap (λ b. if b then verdicts_with f (verdicts_of groups.grouping other fates) else verdicts_of groups.grouping other fates)
      (none other));
}

pub groups_more : (fates : List Fate) (f : Fate) (groups : Grouped) → IsGrouped fates groups
    → IsGrouped (fates ++ f ∷ []) (groups_with f groups)
groups_more fates (Passed frame) groups h =
    group_more fates (Passed frame) groups (group_of groups.grouping frame.word) (λ other. refl) h
groups_more fates (Blocked frame) groups h =
    group_more fates (Blocked frame) groups (group_of groups.grouping frame.word) (λ other. refl) h
groups_more fates Silent groups h = groups_same fates Silent groups (λ other. refl) h
groups_more fates (Refused why) groups h = groups_same fates (Refused why) groups (λ other. refl) h

-- no line
pub none_grouped : (grouping : Grouping) → IsGrouped [] (no_groups grouping)
unfolding count_of
none_grouped grouping = record {
  all = length-replicate (group_count grouping) no_verdicts;
  each = λ group less. get_or-replicate (group_count grouping) group no_verdicts no_verdicts less;
}

-- frames are grouped as before
pub same_grouping : (f : Fate) (groups : Grouped) → (groups_with f groups).grouping ≡ groups.grouping
same_grouping (Passed frame) groups = refl
same_grouping (Blocked frame) groups = refl
same_grouping Silent groups = refl
same_grouping (Refused why) groups = refl
