use Rattle.std.proofs.Common.{◌∙◌, ap, rules, sym, subst, List, Option}
use Rattle.gw_policy.specs.Filter.{Filter}
use Rattle.gw_policy.specs.Batches.{AreGroups, PortPolicies}
use Rattle.gw_policy.specs.Cached.{AreByWord}
use Rattle.gw_policy.proofs.PolicySets.{policies_copied}
use Rattle.gw_policy.proofs.in_force.PolicySetClone.clone.Goals as goal

pub invariant_of-result : goal.invariant_of-result
invariant_of-result c =
    let grouped : List (Option Filter) → Type 0 =
    λ policies. AreGroups (record { policies = policies; front = c.self.inside.front }) c.self.inside.groups
    c.self.inside.leaders in
    let copied = policies_copied _ c.self.inside.policies c.in_ok-clone.field-0 (λ x y same. search rules)
    c.in_ok-clone.ensures.cases.whole in
    let by_word : List (Option Filter) → Type 0 =
    λ policies. AreByWord (record { policies = policies; front = c.self.inside.front }) c.self.inside.by_word in (
      c.in_ok-clone.ensures.cases.long,
      subst grouped (sym copied) c.self.invariant.1,
      subst by_word (sym copied) c.self.invariant.2,
    )

pub returns : goal.returns
returns c =
    let set : List (Option Filter) → PortPolicies =
    λ policies. record { policies = policies; front = c.self.inside.front } in
    let copied = policies_copied _ c.self.inside.policies c.in_ok-clone.field-0 (λ x y same. search rules)
    c.in_ok-clone.ensures.cases.whole in
    record { cases = ap set copied ∙ c.self.view_is }
