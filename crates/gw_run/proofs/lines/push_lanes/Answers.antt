use Rattle.std.proofs.Common.{arith, string_bytes}
use Rattle.gw_run.proofs.Forwarded.{lanes_done, one_lane_more}
use Rattle.gw_run.proofs.lines.push_lanes.Goals as goal

pub loop-lane-preserved : goal.loop-lane-preserved
loop-lane-preserved c =
    one_lane_more c.args.lanes.now c.loop-lane.lane-index _ (string_bytes c.args.text.now) (string_bytes c.loop-lane.text)
    (string_bytes c.push_lane.new.text) c.loop-lane-test.true c.loop-lane.invariant c.in_ok-push_lane.ensures

pub returns : goal.returns
returns c =
    let last = c.loop-lane-test.false in
    let end = c.loop-lane.auto.lane-index-end in
    lanes_done c.args.lanes.now c.loop-lane.lane-index (string_bytes c.args.text.now) (string_bytes c.loop-lane.text)
    (omega arith) c.loop-lane.invariant
