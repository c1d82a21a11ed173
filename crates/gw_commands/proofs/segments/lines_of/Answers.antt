use Rattle.std.proofs.Common.{◌∙◌, arith}
use Rattle.gw_commands.proofs.LogClaims.{segments_none, segments_more}
use Rattle.gw_commands.proofs.segments.lines_of.Goals as goal

pub loop-segment-init : goal.loop-segment-init
loop-segment-init c = c.new-text.ensures.items ∙ segments_none

pub loop-segment-preserved : goal.loop-segment-preserved
loop-segment-preserved c =
    let below = c.loop-segment-test.true in
    segments_more c.args.segments.now c.loop-segment.segment-index c.segment-item.result c.loop-segment.text.items
    c.push_lines.new.text.items (omega arith) c.segment-item.is c.loop-segment.invariant c.in_ok-push_lines.ensures
