use Rattle.std.proofs.Common.{◌≡◌, All, map, vec_len}
use Rattle.gw_lanes.specs.Ends.{new_inlet, new_outlet}
use Rattle.gw_lanes.proofs.make.ends.Given as goal

-- the lanes made so far are new, and the two lists agree place by place
abbrev pub invariant-loop : goal.invariant-loop
invariant-loop l = record {
  count : vec_len l.ins ≡ l.counter;
  new : All (λ inlet. inlet ≡ new_inlet inlet.ring l.limits.lane) l.ins.items;
  paired : l.outs.items ≡ map new_outlet l.ins.items;
}
