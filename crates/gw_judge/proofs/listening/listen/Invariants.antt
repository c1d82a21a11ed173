use Rattle.std.proofs.Common.{◌≡◌, ◌-◌, ◌≤◌, false}
use Rattle.gw_io.specs.Tries.{inner_of, has_failed}
use Rattle.gw_judge.specs.HearingUnderWay.{IsListening}
use Rattle.gw_judge.proofs.listening.listen.Given as goal

abbrev pub invariant-parts : goal.invariant-parts
invariant-parts g l = record {
  read : has_failed l.reader ≡ false;
  most : l.left ≤ 18446744073709551615;
  way : IsListening (g.L.Listener.has_heard l.listener) (g.R.Read.remaining (inner_of l.fn.reader))
      (g.R.Read.remaining (inner_of l.reader)) l.parts.rest l.listening (18446744073709551615 - l.left);
}

abbrev pub decreases-parts : goal.decreases-parts
decreases-parts g l = l.left
