use Rattle.std.proofs.Common.{arith}
use Rattle.gw_run.proofs.PolicyLines.{count_done, count_more}
use Rattle.gw_run.proofs.policy_lines.count_others.Goals as goal

pub loop-lane-preserved : goal.loop-lane-preserved
loop-lane-preserved c =
    let at = c.loop-lane in
    let bound = at.invariant.bound in
    let few = c.count_to-count.ensures.few in
    record {
      count =
          count_more c.args.what c.args.to c.args.lanes.now at.lane-index _ at.count c.count_to-count.result c.loop-lane-test.true
          at.invariant.count c.count_to-count.ensures.count;
      bound = omega arith;
    }

pub returns : goal.returns
returns c =
    let last = c.loop-lane-test.false in
    let end = c.loop-lane.auto.lane-index-end in
    count_done c.args.what c.args.to c.args.lanes.now c.loop-lane.lane-index c.loop-lane.count (omega arith)
    c.loop-lane.invariant.count
