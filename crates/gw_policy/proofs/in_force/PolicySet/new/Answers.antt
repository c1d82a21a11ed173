use Rattle.std.proofs.Common.{◌∙◌, rules, refl}
use Rattle.gw_policy.proofs.PolicySets.{empty_policies, none_in_force}
use Rattle.gw_policy.proofs.Recalling.{has_none}
use Rattle.gw_policy.proofs.in_force.PolicySet.new.Goals as goal

pub invariant_of-result : goal.invariant_of-result
invariant_of-result c = (
  c.default.ensures.long,
  c.each_alone.ensures _ _ c.below.ensures,
  λ port has. absurd (has_none c.new.result c.new.ensures port has),
)

pub returns-clause-blocks : goal.returns-clause-blocks
returns-clause-blocks c = empty_policies c.default.result (λ i d within. search rules)

pub returns-clause-start : goal.returns-clause-start
returns-clause-start c = record {
  front = refl;
  policies = λ port. empty_policies c.default.result (λ i d within. search rules) port
      ∙ none_in_force port;
}
