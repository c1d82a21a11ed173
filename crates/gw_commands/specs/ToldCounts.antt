-- What is told of a tally, as lines or as a JSON object: in groups, or by the parts of what decides.
use Rattle.std.specs.Prelude.{List, ℕ, length, codes}
use Rattle.gw_table.specs.Table.{Meaning}
use Rattle.gw_policy.specs.Filter.{Filter}
use Rattle.gw_judge.specs.declared.groups.Grouping.{Grouping}
use Rattle.gw_judge.specs.declared.groups.Grouping.TheVariants as by
use Rattle.gw_judge.specs.declared.tally.Tally.{Tally}
use Rattle.gw_answers.specs.declared.requests.CountForm.{CountForm}
use Rattle.gw_answers.specs.declared.requests.CountForm.TheVariants.{Lines, Json}
use Rattle.gw_commands.specs.LogCounts.{group_counts, policy_counts, table_counts}
use Rattle.gw_commands.specs.JsonCounts.{grouped_json, policy_json, table_json}

-- by the parts of a table whose rules stand at these lines, or by a program, which has none
abbrev pub table_told : Meaning → List ℕ → CountForm → Tally → List ℕ
table_told table lines Lines tally = table_counts table lines tally
table_told table lines Json tally = table_json lines (length table.rules) tally

abbrev pub policy_told : Filter → List ℕ → CountForm → Tally → List ℕ
policy_told filter lines Lines tally = policy_counts filter lines tally
policy_told filter lines Json tally = policy_json tally

abbrev pub groups_told : List ℕ → CountForm → Tally → List ℕ
groups_told key Lines tally = group_counts key tally
groups_told key Json tally = grouped_json key tally

abbrev pub told_counts : (CountForm → Tally → List ℕ) → Grouping → CountForm → Tally → List ℕ
told_counts counts by.Nothing form tally = counts form tally
told_counts counts by.Pgn form tally = groups_told (codes "pgn") form tally
told_counts counts by.Source form tally = groups_told (codes "source") form tally
