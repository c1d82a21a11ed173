use Rattle.std.proofs.Common.{◌∙◌, arith}
use Rattle.gw_run.specs.Forwarding.{object_of}
use Rattle.gw_run.proofs.Objects.{object_there, ports_whole, text_more}
use Rattle.gw_run.proofs.json.port_objects.Goals as goal

pub loop-port-preserved : goal.loop-port-preserved
loop-port-preserved c =
    text_more (object_of c.args.ledgers.now) c.loop-port.port c.loop-port.objects.items _ _ c.loop-port.invariant
    c.in_ok-push.ensures.items
    (c.in_ok-port_object.ensures
    ∙ object_there c.args.ledgers.now c.loop-port.port _ (let below = c.loop-port-test.true in omega arith))

pub returns : goal.returns
returns c =
    let last = c.loop-port-test.false in
    let end = c.loop-port.auto.port-end in
    ports_whole c.args.ledgers.now c.loop-port.port _ (omega arith) c.loop-port.invariant
