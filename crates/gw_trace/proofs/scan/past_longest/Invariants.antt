use Rattle.std.proofs.Common.{◌≤◌, ◌-◌, length}
use Rattle.gw_trace.specs.Scans.{IsFront}
use Rattle.gw_trace.proofs.scan.past_longest.Given as goal

abbrev pub invariant-longest : goal.invariant-longest
invariant-longest l = record {
  front : IsFront l.order l.octets l.front;
  further : l.initial.front.end ≤ l.front.end;
}

abbrev pub decreases-longest : goal.decreases-longest
decreases-longest l = length l.octets - l.front.end
