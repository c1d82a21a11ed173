use Rattle.std.proofs.Common.{◌≡◌, ◌-◌, ◌≤◌, ℕ, List, Option, false}
use Rattle.std.specs.Io.KnownBytes.{Consumes}
use Rattle.gw_io.specs.Tries.{inner_of, has_failed}
use Rattle.gw_policy.specs.Batches.{Pair, StandsAfter}
use Rattle.gw_judge.specs.EgressUnderWay.{IsEgressUnderWay}
use Rattle.gw_judge.proofs.egress_log.write_egress.Given as goal

abbrev pub invariant-parts : goal.invariant-parts
invariant-parts g l = record {
  read : has_failed l.reader ≡ false;
  written : has_failed l.writer ≡ false;
  most : l.left ≤ 18446744073709551615;
  way : (batches : List (List Pair)) (before : Option (List ℕ)) → StandsAfter l.gateway.policies.now batches
      → Consumes before (g.R.Read.remaining (inner_of l.fn.reader)) l.first
      → IsEgressUnderWay l.gateway.names.now batches before (g.R.Read.remaining (inner_of l.reader))
      (g.W.Write.contents (inner_of l.fn.writer)) (g.W.Write.contents (inner_of l.writer))
      l.parts.rest l.egress (18446744073709551615 - l.left);
}

abbrev pub decreases-parts : goal.decreases-parts
decreases-parts g l = l.left
