use Rattle.std.proofs.Common.{◌≡◌}
use Rattle.test_libraries.proofs.lanes.passed.Given as goal

abbrev pub invariant-loop-number : goal.invariant-loop-number
invariant-loop-number g l = l.from.ring ≡ l.to.ring
