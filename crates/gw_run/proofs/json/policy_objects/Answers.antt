use Rattle.std.proofs.Common.{arith}
use Rattle.gw_run.specs.Forwarding.{policy_object}
use Rattle.gw_run.proofs.Objects.{policies_whole, text_more}
use Rattle.gw_run.proofs.json.policy_objects.Goals as goal

pub loop-to-preserved : goal.loop-to-preserved
loop-to-preserved c =
    text_more (policy_object c.args.lanes.now) c.loop-to.to c.loop-to.objects.items _ _
    c.loop-to.invariant c.in_ok-push.ensures.items c.in_ok-policy_object.ensures

pub returns : goal.returns
returns c =
    let last = c.loop-to-test.false in
    let end = c.loop-to.auto.to-end in
    policies_whole c.args.ports c.args.lanes.now c.loop-to.to _ (omega arith) c.loop-to.invariant
