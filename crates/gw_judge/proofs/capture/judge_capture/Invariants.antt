use Rattle.std.proofs.Common.{◌≡◌, ◌-◌, ◌≤◌, false}
use Rattle.gw_io.specs.Tries.{inner_of, has_failed}
use Rattle.gw_judge.specs.CapturesUnderWay.{IsCaptureUnderWay}
use Rattle.gw_judge.proofs.capture.judge_capture.Given as goal

abbrev pub invariant-pieces : goal.invariant-pieces
invariant-pieces g l = record {
  read : has_failed l.reader ≡ false;
  most : l.left ≤ 18446744073709551615;
  grouping : l.judging.told.frames.groups.grouping ≡ l.fn.groups.grouping;
  way : IsCaptureUnderWay (g.D.Decider.fate_by l.decider l.from) l.strict l.first
      (g.R.Read.remaining (inner_of l.fn.reader)) (g.R.Read.remaining (inner_of l.reader)) l.judging
      (18446744073709551615 - l.left);
}

abbrev pub decreases-pieces : goal.decreases-pieces
decreases-pieces g l = l.left
