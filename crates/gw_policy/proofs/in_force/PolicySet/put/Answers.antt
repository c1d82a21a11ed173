use Rattle.std.proofs.Common.{◌≡◌, ℕ, ◌≤◌, Some, map, set, ap, ◌∙◌, subst, arith}
use Rattle.std.proofs.Math.ListN.{length-set}
use Rattle.gw_policy.proofs.PolicySets.{policy_in, policy_of, sixteen_after, put_within, put_beyond}
use Rattle.gw_policy.proofs.Recalling.{has_none}
use Rattle.gw_policy.specs.Batches.{PortPolicies, policy_at}
use Rattle.gw_policy.proofs.in_force.PolicySet.put.Goals as goal
use Rattle.gw_policy.proofs.in_force.PolicySet.put.Goals.{Joined-self-index, in-Some-1, in-None-1}

put_there : (c : Joined-self-index) (after : PortPolicies)
    → after ≡ record {
      policies = map policy_of (set c.self.inside.policies c.from-index.result (Some c.args.policy));
      front =
          c.self.inside.front;
    }
    → (other : ℕ) → policy_at other after ≡ sixteen_after c.args.port (Some c.args.policy.value) other
    (policy_at other c.args.self.now)
put_there c after is other =
    let port = c.from-index.result in
    let P : ℕ → PortPolicies → Type 0 = λ p before. policy_in (set c.self.inside.policies port (Some c.args.policy)) other
    ≡ sixteen_after p (Some c.args.policy.value) other (policy_at other before) in
    ap (policy_at other) is
    ∙ subst (λ before. P c.args.port before) c.self.view_is
    (subst (λ p. P p (record { policies = map policy_of c.self.inside.policies; front = c.self.inside.front }))
    c.from-index.ensures (put_within c.self.inside.policies port (Some c.args.policy) c.self.invariant.0
    c.if-index-lt-MAX_PORTS.true other))

pub invariant_of-self : goal.invariant_of-self
invariant_of-self c = (
  length-set c.self.inside.policies c.from-index.result (Some c.args.policy) ∙ c.self.invariant.0,
  c.each_alone-self-inside.ensures _ _ c.below-self-inside.ensures,
  λ port has. absurd (has_none c.new-self-inside.result c.new-self-inside.ensures port has),
)

pub invariant_of-self-then-index-lt-MAX_PORTS-2 : goal.invariant_of-self-then-index-lt-MAX_PORTS-2
invariant_of-self-then-index-lt-MAX_PORTS-2 c = (
  length-set c.self.inside.policies c.from-index.result (Some c.args.policy) ∙ c.self.invariant.0,
  c.each_alone-self-inside.ensures _ _ c.below-self-inside.ensures,
  λ port has. absurd (has_none c.new-self-inside.result c.new-self-inside.ensures port has),
)

pub returns-then-index-lt-MAX_PORTS-clause-policies : goal.returns-then-index-lt-MAX_PORTS-clause-policies
returns-then-index-lt-MAX_PORTS-clause-policies c =
    elim c.match-self-index.branch [
      | in-Some-1 w ↦ put_there c c.match-self-index.self w.self-is
      | in-None-1 w ↦
          put_there c c.match-self-index.self w.self-is
    ]

pub returns-else-index-lt-MAX_PORTS-clause-policies : goal.returns-else-index-lt-MAX_PORTS-clause-policies
returns-else-index-lt-MAX_PORTS-clause-policies c = λ other.
    let P : PortPolicies → Type 0 = λ set. policy_at other set ≡ sixteen_after c.args.port (Some c.args.policy.value) other
    (policy_at other set) in
    let beyond : 16 ≤ c.args.port = omega (arith, c.from-index.ensures, c.if-index-lt-MAX_PORTS.false) in
    subst P c.self.view_is (put_beyond c.self.inside.policies c.args.port (Some c.args.policy) c.self.invariant.0 beyond other)
