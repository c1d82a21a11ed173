use Rattle.std.proofs.Common.{◌+◌, ◌++◌, ◌∷◌, [], arith, subst, sym}
use Rattle.gw_run.specs.Dealing.{AreNewRings}
use Rattle.gw_run.proofs.DealtRings.{one_ring_more}
use Rattle.gw_run.proofs.dealt_run.dealt_rings.Goals as goal

pub loop-port-preserved : goal.loop-port-preserved
loop-port-preserved g c =
    let port = c.loop-port._port in
    let so_far = c.loop-port.invariant in (
      subst (λ ins. AreNewRings (port + 1) ins c.push_reserved-in-loop-port.new.self.items) (sym c.push_reserved.ensures.items)
          (subst (λ outs. AreNewRings (port + 1) (c.loop-port.ins.items ++ c.in_ok-dealt_in.dealt_in ∷ []) outs)
          (sym c.push_reserved-in-loop-port.ensures.items)
          (one_ring_more port c.loop-port.ins.items c.loop-port.outs.items c.in_ok-dealt_in.dealt_in c.in_ok-dealt_in.dealt_out
          so_far.0 c.in_ok-dealt_in.ensures)),
      omega (arith, so_far.1, c.push_reserved.ensures.capacity),
      omega (arith, so_far.2, c.push_reserved-in-loop-port.ensures.capacity),
    )
