use Rattle.std.proofs.Common.{◌++◌, string_bytes, sym, ap, ◌∙◌, arith}
use Rattle.std.specs.List.{join_with_byte}
use Rattle.gw_commands.proofs.JsonTexts.{joined_more, rule_at, rule_texts, rules_more, rules_first, rules_done}
use Rattle.gw_commands.proofs.json_counts.push_rules.Goals as goal

pub loop-number-preserved : goal.loop-number-preserved
loop-number-preserved c =
    joined_more (rule_texts c.args.lines.now c.args.tally.now c.loop-number.number)
    (rule_at c.args.lines.now c.args.tally.now c.loop-number.number) (string_bytes c.args.text.now)
    (string_bytes c.loop-number.text) (string_bytes c.push_comma.new.text) (string_bytes c.push_rule.new.text) _
    (rules_first c.args.lines.now c.args.tally.now c.loop-number.number) c.loop-number.invariant
    c.in_ok-push_comma.ensures c.in_ok-push_rule.ensures
    ∙ ap (λ texts. string_bytes c.args.text.now ++ join_with_byte 44 texts)
    (sym (rules_more c.args.lines.now c.args.tally.now c.loop-number.number))

pub returns : goal.returns
returns c =
    let last = c.loop-number-test.false in
    let end = c.loop-number.auto.number-end in
    rules_done c.args.lines.now c.args.tally.now c.loop-number.number c.args.count (string_bytes c.args.text.now)
    (string_bytes c.loop-number.text) (omega arith) c.loop-number.invariant
