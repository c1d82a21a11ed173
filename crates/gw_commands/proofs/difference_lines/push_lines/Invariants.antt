use Rattle.std.proofs.Common.{take}
use Rattle.gw_commands.specs.Differences.{Appends, IsDifferenceLine, IsTextOf}
use Rattle.gw_commands.proofs.difference_lines.push_lines.Given as goal

abbrev pub invariant-loop-difference : goal.invariant-loop-difference
invariant-loop-difference l =
    Appends (IsTextOf (IsDifferenceLine l.old l.new) (take l.difference-index l.found)) l.fn.text.items l.text.items
