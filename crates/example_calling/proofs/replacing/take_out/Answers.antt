use Rattle.std.proofs.Common.{◌<◌, ◌∙◌, length, arith}
use Rattle.j1939_gateway.proofs.Callers.{ends_out_stay}
use Rattle.example_calling.proofs.replacing.take_out.Goals as goal

pub loop-port-preserved : goal.loop-port-preserved
loop-port-preserved c =
    let at = c.loop-port in
    let inside : at.port < length at.outs = let s = at.auto.outs in let t = c.loop-port-test.true in omega arith in
    ends_out_stay at.outs at.port c.index-outs-port.result c.drain.new.port inside c.drain.ensures ∙ at.invariant
