use Rattle.gw_table.proofs.Codes.{rule_pushed}
use Rattle.gw_table.proofs.compiler.push_group.Goals as goal

pub loop-rule-preserved : goal.loop-rule-preserved
loop-rule-preserved c =
    rule_pushed c.args.group.now c.loop-rule.rule-index _ _ _ _ c.loop-rule-test.true c.loop-rule.invariant
    c.in_ok-push_rule.ensures
