use Rattle.std.proofs.Common.{◌≡◌, ◌++◌, flat_map, string_bytes}
use Rattle.std.specs.List.{range_with_len}
use Rattle.gw_commands.specs.Shown.{words_of_rule}
use Rattle.gw_commands.proofs.show_command.push_rules.Given as goal

abbrev pub invariant-loop-number : goal.invariant-loop-number
invariant-loop-number l =
    string_bytes l.text ≡ string_bytes l.fn.text ++ flat_map (words_of_rule l.stated) (range_with_len 0 l.number)
