use Rattle.std.proofs.Common.{◌++◌, ◌∷◌, [], sym, ◌∙◌, ap, arith}
use Rattle.gw_policy.specs.Batches.{PortPolicies, pairs_of, policy_at, policy_after}
use Rattle.gw_policy.proofs.PairLists.{handed_on, all_handed_on, nothing_more}
use Rattle.gw_policy.proofs.PolicySets.{policy_after-put, sixteen_policies}
use Rattle.gw_policy.proofs.in_force.PolicySet.put_all.Goals as goal

pub loop-pair-preserved-in-Some-pair : goal.loop-pair-preserved-in-Some-pair
loop-pair-preserved-in-Some-pair c = record {
  front = c.put.ensures.front ∙ c.loop-pair.invariant.front;
  pairs = handed_on c.loop-pair.yielded c.loop-pair.pair-iterator c.next.new.self c.in-Some.pair c.args.batch.now
      c.in-Some.ensures.steps c.loop-pair.invariant.pairs;
  policies = λ port below.
      policy_after-put port c.loop-pair.yielded c.in-Some-pair.port c.in-Some-pair.policy (policy_at port c.args.self.now)
      (policy_at port c.loop-pair.self) (policy_at port c.put.new.self) below
      (c.put.ensures.policies port) (c.loop-pair.invariant.policies port below)
      ∙ ap (λ pair. policy_after port (pairs_of (c.loop-pair.yielded ++ pair ∷ [])) (policy_at port c.args.self.now))
      (sym c.in-Some-pair.is);
}

pub loop-pair-preserved : goal.loop-pair-preserved
loop-pair-preserved c = record {
  front = c.loop-pair.invariant.front;
  pairs = handed_on c.loop-pair.yielded c.loop-pair.pair-iterator c.next.new.self c.in-Some.pair c.args.batch.now
      c.in-Some.ensures.steps c.loop-pair.invariant.pairs;
  policies = λ port below.
      c.loop-pair.invariant.policies port below
      ∙ ap (λ pairs. policy_after port pairs (policy_at port c.args.self.now))
      (nothing_more c.loop-pair.yielded c.in-Some.pair c.in_default.is);
}

pub returns-clause-absorbed : goal.returns-clause-absorbed
returns-clause-absorbed c =
    let whole = all_handed_on c.loop-pair.yielded c.loop-pair.pair-iterator c.args.batch.now c.in-None.ensures.steps.0
    c.loop-pair.invariant.pairs in
    let old = c.args.self.now in
    record {
      front = omega (
        arith,
        c.saturating_add-self-inside.ensures,
        ap (λ (set : PortPolicies). set.front) c.self.view_is,
        c.loop-pair.invariant.front,
      );
      policies =
          sixteen_policies c.self.inside.policies (λ port. policy_after port c.args.batch.now (policy_at port old))
          c.self.invariant.0 (λ port below.
          ap (policy_at port) c.self.view_is ∙ c.loop-pair.invariant.policies port below
          ∙ ap (λ pairs. policy_after port pairs (policy_at port old)) whole);
    }
