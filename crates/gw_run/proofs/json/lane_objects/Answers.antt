use Rattle.std.proofs.Common.{arith}
use Rattle.gw_run.proofs.Objects.{lanes_whole, one_object_more}
use Rattle.gw_run.proofs.json.lane_objects.Goals as goal

pub loop-lane-preserved : goal.loop-lane-preserved
loop-lane-preserved c =
    one_object_more c.args.lanes.now c.loop-lane.lane-index _ c.loop-lane.objects.items c.push.new.self.items _
    c.loop-lane-test.true c.loop-lane.invariant c.in_ok-push.ensures.items c.in_ok-lane_object.ensures

pub returns : goal.returns
returns c =
    let last = c.loop-lane-test.false in
    let end = c.loop-lane.auto.lane-index-end in
    lanes_whole c.args.lanes.now c.loop-lane.lane-index _ (omega arith) c.loop-lane.invariant
