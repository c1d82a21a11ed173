use Rattle.std.proofs.Common.{string_bytes, arith}
use Rattle.gw_commands.specs.LogCounts.{rule_line}
use Rattle.gw_input.proofs.Callers.{line_more}
use Rattle.gw_commands.proofs.LogTexts.{rule_there, rules_done}
use Rattle.gw_commands.proofs.log_counts.push_rules.Goals as goal

pub loop-number-preserved : goal.loop-number-preserved
loop-number-preserved c =
    line_more (rule_line c.args.lines.now c.args.tally.now c.args.rules.now) c.loop-number.number (string_bytes c.args.text.now)
    (string_bytes c.loop-number.text) _ (string_bytes c.push_rule.new.text) c.loop-number.invariant
    (rule_there c.args.lines.now c.args.tally.now c.args.rules.now c.loop-number.number _
    (let below = c.loop-number-test.true in omega arith))
    c.in_ok-push_rule.ensures

pub returns : goal.returns
returns c =
    let last = c.loop-number-test.false in
    let end = c.loop-number.auto.number-end in
    rules_done c.args.lines.now c.args.tally.now c.args.rules.now c.loop-number.number (string_bytes c.args.text.now)
    (string_bytes c.loop-number.text) (omega arith) c.loop-number.invariant
