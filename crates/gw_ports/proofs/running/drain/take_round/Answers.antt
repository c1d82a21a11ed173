use Rattle.std.proofs.Common.{◌++◌, ◌∙◌}
use Rattle.gw_ports.proofs.Sinks.{handed_on}
use Rattle.gw_ports.proofs.Taking.{takes_on}
use Rattle.gw_ports.proofs.running.drain.take_round.Goals as goal

pub loop-ingress-preserved : goal.loop-ingress-preserved
loop-ingress-preserved g c =
    let so_far = c.loop-ingress.invariant.1 in
    let more = c.take_from.ensures.taken in (
      c.take_from.ensures.end ∙ c.loop-ingress.invariant.0,
      (
        so_far.0 ++ more.0,
        takes_on so_far.0 more.0 c.args.port.now c.loop-ingress.port c.take_from.new.port so_far.1 more.1,
        handed_on g.C.Sink.takes c.args.out.now so_far.0 more.0 c.loop-ingress.out c.take_from.new.out so_far.2 more.2,
      ),
    )
