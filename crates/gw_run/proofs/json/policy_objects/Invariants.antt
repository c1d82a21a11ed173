use Rattle.std.proofs.Common.{◌≡◌, map, string_bytes}
use Rattle.std.specs.List.{range_with_len}
use Rattle.gw_run.specs.Forwarding.{policy_object}
use Rattle.gw_run.proofs.json.policy_objects.Given as goal

abbrev pub invariant-loop-to : goal.invariant-loop-to
invariant-loop-to l =
    map string_bytes l.objects.items ≡ map (policy_object l.lanes) (range_with_len 0 l.to)
