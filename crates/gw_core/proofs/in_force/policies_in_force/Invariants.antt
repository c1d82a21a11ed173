use Rattle.std.proofs.Common.{◌≡◌, List}
use Rattle.gw_policy.specs.Batches.{Pair}
use Rattle.gw_core.specs.Standing.{AreFound}
use Rattle.gw_core.specs.Renewing.{policies_below}
use Rattle.gw_core.proofs.in_force.policies_in_force.Given as goal

abbrev pub invariant-loop-port : goal.invariant-loop-port
invariant-loop-port l = (published : List (List Pair)) → AreFound l.batches l.latest published
    → l.batch ≡ policies_below published l.port
