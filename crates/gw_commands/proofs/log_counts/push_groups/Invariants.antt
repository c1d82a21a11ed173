use Rattle.std.proofs.Common.{◌≡◌, ◌++◌, flat_map, string_bytes}
use Rattle.std.specs.List.{range_with_len}
use Rattle.gw_commands.specs.LogCounts.{group_line}
use Rattle.gw_commands.proofs.log_counts.push_groups.Given as goal

abbrev pub invariant-loop-group : goal.invariant-loop-group
invariant-loop-group l =
    string_bytes l.text ≡ string_bytes l.fn.text ++ flat_map (group_line l.key l.groups) (range_with_len 0 l.group)
