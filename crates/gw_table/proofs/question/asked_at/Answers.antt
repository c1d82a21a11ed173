use Rattle.gw_table.proofs.Asked.{asked_short, asked_first}
use Rattle.gw_table.proofs.question.asked_at.Goals as goal
use Rattle.std.proofs.Common.{◌<◌, ◌≤◌, length, rules, sym}

pub returns-then-index-rules : goal.returns-then-index-rules
returns-then-index-rules c =
    let above : length c.args.table.now.rules < c.args.index = search rules in
    asked_short c.args.table.now c.args.question.now c.args.index above c.requires c.short_witness.result c.short_witness.ensures

pub returns-in-Some : goal.returns-in-Some
returns-in-Some c =
    let below : c.args.index ≤ length c.args.table.now.rules = search rules in
    asked_first c.args.table.now c.args.question.now c.args.index below c.in-Some.rule c.in-Some.ensures.1 c.common_frame.result
    (rw (sym c.rules-in-Some.ensures.rules) c.common_frame.ensures)
