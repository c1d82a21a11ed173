use Rattle.std.proofs.Common.{◌≡◌, ◌++◌, flat_map, string_bytes}
use Rattle.std.specs.List.{range_with_len}
use Rattle.gw_run.specs.Forwarding.{policy_line}
use Rattle.gw_run.proofs.policy_lines.push_policies.Given as goal

abbrev pub invariant-loop-to : goal.invariant-loop-to
invariant-loop-to l =
    string_bytes l.text
    ≡ string_bytes l.fn.text ++ flat_map (policy_line l.lanes) (range_with_len 0 l.to)
