use Rattle.std.proofs.Common.{◌-◌, length}
use Rattle.gw_trace.specs.Scans.{IsFront}
use Rattle.gw_trace.proofs.scan.over.Given as goal

abbrev pub invariant-records : goal.invariant-records
invariant-records l = IsFront l.order l.octets l.front

abbrev pub decreases-records : goal.decreases-records
decreases-records l = length l.octets - l.front.end
