use Rattle.std.proofs.Common.{take}
use Rattle.gw_commands.specs.Differences.{Appends, IsTextOf}
use Rattle.gw_commands.specs.PortDifferences.{IsCrossingLine}
use Rattle.gw_commands.proofs.crossing_lines.push_crossings.Given as goal

abbrev pub invariant-loop-crossing : goal.invariant-loop-crossing
invariant-loop-crossing l =
    Appends (IsTextOf (IsCrossingLine l.stated) (take l.crossing-index l.found)) l.fn.text.items l.text.items
