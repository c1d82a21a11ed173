use Rattle.std.proofs.Common.{◌≡◌, ◌++◌, flat_map}
use Rattle.std.specs.List.{range_with_len}
use Rattle.gw_commands.specs.LogClaims.{line_of}
use Rattle.gw_commands.proofs.segments.Segment.push_lines.Given as goal

abbrev pub invariant-loop-address : goal.invariant-loop-address
invariant-loop-address l = l.text.items ≡ l.fn.text.items ++ flat_map (line_of l.self) (range_with_len 0 l.address)
