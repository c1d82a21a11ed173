use Rattle.std.proofs.Common.{◌≡◌, ℕ, ◌<◌, ◌++◌}
use Rattle.gw_policy.specs.Batches.{pairs_of, policy_at, policy_after}
use Rattle.gw_policy.proofs.in_force.PolicySet.put_all.Given as goal

abbrev pub invariant-loop-pair : goal.invariant-loop-pair
invariant-loop-pair l = record {
  front : l.self.front ≡ l.initial.self.front;
  pairs : pairs_of (l.yielded ++ l.pair-iterator) ≡ l.batch;
  policies : (port : ℕ) → port < 16
      → policy_at port l.self ≡ policy_after port (pairs_of l.yielded) (policy_at port l.initial.self);
}
