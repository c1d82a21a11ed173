use Rattle.std.proofs.Common.{◌≡◌, ◌-◌, ◌≤◌, ℕ, List, Option, false}
use Rattle.std.specs.Io.KnownBytes.{Consumes}
use Rattle.gw_io.specs.Tries.{inner_of, has_failed}
use Rattle.gw_judge.specs.Fates.{fate_of}
use Rattle.gw_judge.specs.UnderWay.{IsUnderWay}
use Rattle.gw_judge.proofs.whole.judge_opened.Given as goal

abbrev pub invariant-parts : goal.invariant-parts
invariant-parts g l = record {
  read : has_failed l.reader ≡ false;
  written : has_failed l.writer ≡ false;
  most : l.left ≤ 18446744073709551615;
  grouping : l.judging.tally.groups.grouping ≡ l.fn.groups.grouping;
  way : (before : Option (List ℕ)) → Consumes before (g.R.Read.remaining (inner_of l.fn.reader)) l.first
      → IsUnderWay (fate_of (g.D.Decider.fate_by l.asked.decider.now l.asked.from))
      (g.P.Report.front_of l.asked.report.now) l.asked.strict
      before (g.R.Read.remaining (inner_of l.reader))
      (g.W.Write.contents (inner_of l.fn.writer)) (g.W.Write.contents (inner_of l.writer))
      l.parts.rest l.judging (18446744073709551615 - l.left);
}

abbrev pub decreases-parts : goal.decreases-parts
decreases-parts g l = l.left
