use Rattle.std.proofs.Common.{◌≡◌, ◌++◌, flat_map, string_bytes, take}
use Rattle.gw_run.specs.Forwarding.{lane_line}
use Rattle.gw_run.proofs.lines.push_lanes.Given as goal

abbrev pub invariant-loop-lane : goal.invariant-loop-lane
invariant-loop-lane l =
    string_bytes l.text ≡ string_bytes l.fn.text ++ flat_map lane_line (take l.lane-index l.lanes)
