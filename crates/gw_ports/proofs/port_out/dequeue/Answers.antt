use Rattle.gw_ports.proofs.Popping.{taken}
use Rattle.gw_ports.proofs.port_out.dequeue.Goals as goal

pub returns : goal.returns
returns c = taken c.dequeue_from.result c.args.lanes.now c.args.ingress c.index-lanes-ingress.result c.dequeue_from.new.lane
    c.if-ingress-lanes.false c.dequeue_from.ensures
