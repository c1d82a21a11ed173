use Rattle.std.proofs.Common.{string_bytes, ap, length, arith}
use Rattle.gw_commands.specs.Shown.{words_of_rule}
use Rattle.gw_input.proofs.Callers.{line_more}
use Rattle.gw_commands.proofs.ShownTexts.{rule_there, rules_done}
use Rattle.gw_commands.proofs.show_command.push_rules.Goals as goal

pub loop-number-preserved : goal.loop-number-preserved
loop-number-preserved c =
    line_more (words_of_rule c.args.stated.now) c.loop-number.number (string_bytes c.args.text.now)
    (string_bytes c.loop-number.text) _ (string_bytes c.push_rule.new.text) c.loop-number.invariant
    (rule_there c.args.stated.now c.rules-rules.result.now c.loop-number.number _ c.rules-rules.ensures.rules
    (let below = c.loop-number-test.true in omega arith))
    c.in_ok-push_rule.ensures

pub returns : goal.returns
returns c =
    let last = c.loop-number-test.false in
    let end = c.loop-number.auto.number-end in
    let count = ap length c.rules-rules.ensures.rules in
    rules_done c.args.stated.now c.loop-number.number (string_bytes c.args.text.now)
    (string_bytes c.loop-number.text) (omega arith) c.loop-number.invariant
