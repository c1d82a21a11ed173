use Rattle.std.proofs.Common.{◌≡◌, map, string_bytes, take}
use Rattle.gw_run.specs.Forwarding.{lane_object}
use Rattle.gw_run.proofs.json.lane_objects.Given as goal

abbrev pub invariant-loop-lane : goal.invariant-loop-lane
invariant-loop-lane l = map string_bytes l.objects.items ≡ map lane_object (take l.lane-index l.lanes)
