use Rattle.std.proofs.Common.{arith}
use Rattle.gw_trace.proofs.Scanned.{frames_fit}
use Rattle.gw_trace.proofs.checked.Checked.len.Goals as goal

pub returns-clause-few : goal.returns-clause-few
returns-clause-few c =
    let fit = frames_fit c.self.inside.order c.self.inside.records.now in
    let counted = c.self.invariant.counted in
    omega arith
