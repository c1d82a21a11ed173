use Rattle.std.proofs.Common.{◌≡◌, take}
use Rattle.gw_commands.specs.LogClaims.{segments_lines}
use Rattle.gw_commands.proofs.segments.lines_of.Given as goal

abbrev pub invariant-loop-segment : goal.invariant-loop-segment
invariant-loop-segment l = l.text.items ≡ segments_lines (take l.segment-index l.segments)
