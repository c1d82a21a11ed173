use Rattle.std.proofs.Common.{◌≤◌, vec_capacity}
use Rattle.gw_run.specs.Dealing.{AreNewRings}
use Rattle.gw_run.proofs.dealt_run.dealt_rings.Given as goal

abbrev pub invariant-loop-port : goal.invariant-loop-port
invariant-loop-port g l =
    AreNewRings l._port l.ins.items l.outs.items × (l.ports ≤ vec_capacity l.ins) × (l.ports ≤ vec_capacity l.outs)
