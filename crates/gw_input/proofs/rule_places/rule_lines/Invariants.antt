use Rattle.std.proofs.Common.{◌≡◌, ◌+◌, ◌≤◌, length, drop, flat_map}
use Rattle.std.specs.Prelude.{option_copied}
use Rattle.std.specs.List.{range_with_len}
use Rattle.gw_input.specs.Lines.{left_behind, lines_of}
use Rattle.gw_input.specs.RuleLines.{rule_at}
use Rattle.gw_input.proofs.LineByLine.{lines_behind}
use Rattle.gw_input.proofs.rule_places.rule_lines.Given as goal

abbrev pub invariant-loop-rest : goal.invariant-loop-rest
invariant-loop-rest l = record {
  place : drop l.number (lines_of l.text) ≡ lines_behind (option_copied l.rest);
  counted : l.number + left_behind (option_copied l.rest) ≤ length l.text + 1;
  within : l.number ≤ length (lines_of l.text);
  found : l.lines.items ≡ flat_map (rule_at (lines_of l.text)) (range_with_len 0 l.number);
}

abbrev pub decreases-loop-rest : goal.decreases-loop-rest
decreases-loop-rest l = left_behind (option_copied l.rest)
