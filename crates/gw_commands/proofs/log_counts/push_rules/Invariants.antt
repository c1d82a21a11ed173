use Rattle.std.proofs.Common.{◌≡◌, ◌++◌, flat_map, string_bytes}
use Rattle.std.specs.List.{range_with_len}
use Rattle.gw_commands.specs.LogCounts.{rule_line}
use Rattle.gw_commands.proofs.log_counts.push_rules.Given as goal

abbrev pub invariant-loop-number : goal.invariant-loop-number
invariant-loop-number l =
    string_bytes l.text ≡ string_bytes l.fn.text ++ flat_map (rule_line l.lines l.tally l.rules) (range_with_len 0 l.number)
