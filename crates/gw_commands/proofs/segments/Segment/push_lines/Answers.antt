use Rattle.std.proofs.Common.{refl, arith}
use Rattle.gw_commands.specs.LogClaims.{line_of}
use Rattle.gw_input.proofs.Callers.{line_more}
use Rattle.gw_commands.proofs.LogClaims.{segment_done}
use Rattle.gw_commands.proofs.segments.Segment.push_lines.Goals as goal

pub loop-address-preserved : goal.loop-address-preserved
loop-address-preserved c =
    line_more (line_of c.args.self.now) c.loop-address.address c.args.text.now.items c.loop-address.text.items
    (line_of c.args.self.now c.loop-address.address) c.push_line.new.text.items c.loop-address.invariant refl
    c.in_ok-push_line.ensures

pub returns : goal.returns
returns c =
    let last = c.loop-address-test.false in
    let end = c.loop-address.auto.address-end in
    segment_done c.args.self.now c.loop-address.address c.args.text.now.items c.loop-address.text.items (omega arith)
    c.loop-address.invariant
