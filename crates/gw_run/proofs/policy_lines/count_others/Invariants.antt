use Rattle.std.proofs.Common.{◌≡◌, ◌≤◌, ◌*◌, ◌^◌, sum_by, take}
use Rattle.gw_run.specs.Forwarding.{count_to}
use Rattle.gw_run.proofs.policy_lines.count_others.Given as goal

abbrev pub invariant-loop-lane : goal.invariant-loop-lane
invariant-loop-lane l = record {
  count : l.count ≡ sum_by (count_to l.what l.to) (take l.lane-index l.lanes);
  bound : l.count ≤ l.lane-index * 2 ^ 65;
}
