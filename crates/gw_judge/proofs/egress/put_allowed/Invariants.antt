use Rattle.std.proofs.Common.{Ok}
use Rattle.gw_io.specs.Tries.{inner_of, has_failed}
use Rattle.gw_judge.specs.UnderWay.{Puts}
use Rattle.gw_judge.specs.EgressUnderWay.{lines_below}
use Rattle.gw_judge.proofs.egress.put_allowed.Given as goal

abbrev pub invariant-loop-port : goal.invariant-loop-port
invariant-loop-port g l =
    Puts {A = Unit {0}} (g.W.Write.contents (inner_of l.fn.writer)) (g.W.Write.contents (inner_of l.writer)) (has_failed l.writer)
    l.fn.gathered.held.items (lines_below l.gateway.names.now l.gateway.policies.now l.said l.ingress l.port) (Ok tt)
    l.gathered.held.items
