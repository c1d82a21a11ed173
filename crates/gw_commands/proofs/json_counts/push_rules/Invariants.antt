use Rattle.std.proofs.Common.{◌≡◌, ◌++◌, string_bytes}
use Rattle.std.specs.List.{join_with_byte}
use Rattle.gw_commands.proofs.JsonTexts.{rule_texts}
use Rattle.gw_commands.proofs.json_counts.push_rules.Given as goal

abbrev pub invariant-loop-number : goal.invariant-loop-number
invariant-loop-number l =
    string_bytes l.text ≡ string_bytes l.fn.text ++ join_with_byte 44 (rule_texts l.lines l.tally l.number)
