use Rattle.std.proofs.Common.{◌≡◌, ◌+◌, ◌≤◌, false, length, reverse, take, drop}
use Rattle.std.specs.Prelude.{option_copied}
use Rattle.std.specs.List.{list_any}
use Rattle.gw_claims.specs.Holders.{HoldsAfter}
use Rattle.gw_commands.specs.ClaimLines.{records_on, is_bad}
use Rattle.gw_input.specs.Lines.{left_behind, lines_of}
use Rattle.gw_input.proofs.Callers.{lines_behind}
use Rattle.gw_commands.proofs.claims_command.heard.Given as goal

abbrev pub invariant-loop-rest : goal.invariant-loop-rest
invariant-loop-rest g l = record {
  place : drop l.number (lines_of l.input) ≡ lines_behind (option_copied l.rest);
  counted : l.number + left_behind (option_copied l.rest) ≤ length l.input + 1;
  heard : HoldsAfter l.claims (reverse (records_on (take l.number (lines_of l.input))));
  good : list_any is_bad (take l.number (lines_of l.input)) ≡ false;
}

abbrev pub decreases-loop-rest : goal.decreases-loop-rest
decreases-loop-rest g l = left_behind (option_copied l.rest)
