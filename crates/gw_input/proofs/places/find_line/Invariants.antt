use Rattle.std.proofs.Common.{◌≡◌, ◌+◌, ◌≤◌, None, length, drop}
use Rattle.std.specs.Prelude.{option_copied}
use Rattle.std.specs.List.{find, range_with_len}
use Rattle.gw_input.specs.Lines.{left_behind, lines_of}
use Rattle.gw_input.specs.Places.{stands_on}
use Rattle.gw_input.proofs.LineByLine.{lines_behind}
use Rattle.gw_input.proofs.RulePlaces.{rules_above}
use Rattle.gw_input.proofs.places.find_line.Given as goal

abbrev pub invariant-loop-rest : goal.invariant-loop-rest
invariant-loop-rest l = record {
  place : drop l.number (lines_of l.text) ≡ lines_behind (option_copied l.rest);
  counted : l.number + left_behind (option_copied l.rest) ≤ length l.text + 1;
  within : l.number ≤ length (lines_of l.text);
  begun : l.begun ≡ rules_above (lines_of l.text) l.number;
  fewer : l.begun ≤ l.number;
  none : find (stands_on (lines_of l.text) l.location (option_copied l.key)) (range_with_len 0 l.number) ≡ None;
}

abbrev pub decreases-loop-rest : goal.decreases-loop-rest
decreases-loop-rest l = left_behind (option_copied l.rest)
