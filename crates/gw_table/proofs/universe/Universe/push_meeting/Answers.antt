use Rattle.gw_table.proofs.Searched.{with_box, without_box, outside_both}
use Rattle.gw_table.proofs.universe.Universe.push_meeting.Goals as goal
use Rattle.gw_table.proofs.universe.Universe.push_meeting.Goals.{then-not-is_empty+in_ok-push, else-not-is_empty}

pub loop-rule-preserved : goal.loop-rule-preserved
loop-rule-preserved c p inside =
    let rules = c.args.rules.now in
    let i = c.loop-rule.rule-index in
    let inside_list = c.loop-rule-test.true in
    let start = c.args.others.now.items in
    let block = c.block_of-block.result in
    let now = c.loop-rule.others.items in
    let so_far = c.loop-rule.invariant p inside in
    elim c.if-not-is_empty.branch [
      | then-not-is_empty+in_ok-push w ↦ rw (w.others-is, w.in_ok-push.ensures.items)
          (with_box c.args.self p rules i _ inside_list start now block c.block_of-block.ensures so_far)
      | else-not-is_empty w ↦
          let apart = outside_both p block c.args.part.now c.within.result (c.within.ensures p) inside
          (w.if-not-is_empty.ensures p) in
          rw w.others-is
          (without_box c.args.self p rules i _ inside_list start now block c.block_of-block.ensures apart so_far)
    ]
