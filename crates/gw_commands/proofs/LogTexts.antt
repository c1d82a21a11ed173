-- The lines of a table's rules and of groups, one after another.
use Rattle.std.proofs.Common.{◌≡◌, ℕ, ◌<◌, List, [], ◌++◌, length, flat_map, ap, sym, ◌∙◌, get_or}
use Rattle.std.specs.List.{range_with_len}
use Rattle.std.specs.Prelude.{slice_index}
use Rattle.std.specs.Option.{option_map_or}
use Rattle.std.proofs.lemmas.Option.{slice_get-get_or}
use Rattle.gw_table.specs.declared.table.Rule.{Rule}
use Rattle.gw_judge.specs.declared.tally.Tally.{Tally}
use Rattle.gw_judge.specs.Grouped.{Grouped}
use Rattle.gw_commands.specs.LogCounts.{rule_count, rule_counts, rule_line, group_line, group_lines}

-- the line of a rule that is there
pub rule_there : (lines : List ℕ) (tally : Tally) (rules : List Rule) (n : ℕ) (d : Rule) → n < length rules
    → rule_count lines n (slice_index tally.by_rule n) (get_or rules n d) ≡ rule_line lines tally rules n
rule_there lines tally rules n d below =
    ap (λ o. option_map_or (rule_count lines n (slice_index tally.by_rule n)) o []) (sym (slice_get-get_or rules n d below))

-- all lines behind a text
pub rules_done : (lines : List ℕ) (tally : Tally) (rules : List Rule) (n : ℕ) (before text : List ℕ) → n ≡ length rules
    → text ≡ before ++ flat_map (rule_line lines tally rules) (range_with_len 0 n)
    → text ≡ before ++ rule_counts lines tally rules
unfolding rule_counts
rules_done lines tally rules n before text all same =
    same ∙ ap (λ m. before ++ flat_map (rule_line lines tally rules) (range_with_len 0 m)) all

pub groups_done : (key : List ℕ) (groups : Grouped) (count n : ℕ) (before text : List ℕ) → n ≡ count
    → text ≡ before ++ flat_map (group_line key groups) (range_with_len 0 n) → text ≡ before ++ group_lines key groups count
unfolding group_lines
groups_done key groups count n before text all same =
    same ∙ ap (λ m. before ++ flat_map (group_line key groups) (range_with_len 0 m)) all
