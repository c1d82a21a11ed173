use Rattle.std.proofs.Common.{◌≡◌, arith, refl, sym, subst, ap, ◌∙◌, ◌||◌, ◌==◌}
use Rattle.std.proofs.lemmas.Bool.{eq-eqb, or_right}
use Rattle.gw_ledger.specs.Ports.{has_port}
use Rattle.gw_policy.specs.Batches.{AreGroups, HasGroups, PassAlike, policy_at}
use Rattle.gw_policy.proofs.EgressPorts.{no_groups, one_more_group}
use Rattle.gw_policy.proofs.in_force.PolicySet.note_groups.Goals as goal

pub loop-port-init : goal.loop-port-init
loop-port-init c = record {
  same = refl;
  groups = no_groups c.args.self.now c.new-groups.result c.new-leaders.result c.new-groups.ensures;
}

pub loop-port-preserved : goal.loop-port-preserved
loop-port-preserved c =
    let set = c.args.self.now in
    let port = c.loop-port.port in
    record {
      same = c.loop-port.invariant.same;
      groups = one_more_group port c.from.result set c.loop-port.groups _ _ c.loop-port.leaders c.add-in-loop-port.new.self
          c.loop-port.invariant.groups (omega (arith, c.from.ensures, c.first_alike-first.ensures.first)) c.loop-port-test.true
          (subst (λ first. PassAlike (policy_at first set) (policy_at port set)) (sym c.from.ensures)
          c.first_alike-first.ensures.alike)
          c.add.ensures.members
          (c.add-in-loop-port.ensures.members c.from.result
          ∙ ap (λ b. b || has_port c.from.result c.loop-port.leaders)
          (eq-eqb c.first_alike-first.result c.from.result (sym c.from.ensures)))
          (λ other leads. c.add-in-loop-port.ensures.members other
          ∙ or_right (c.first_alike-first.result == other) (has_port other c.loop-port.leaders) leads);
    }

pub invariant_of-self : goal.invariant_of-self
invariant_of-self c =
    let set = c.args.self.now in
    let groups = c.loop-port.groups in
    let leaders = c.loop-port.leaders in
    let all : c.loop-port.port ≡ 16 = omega (arith, c.loop-port-test.false, c.loop-port.auto.port-end) in
    let whole : AreGroups set groups leaders = subst (λ n. HasGroups n set groups leaders) all c.loop-port.invariant.groups in
    (c.self.invariant.0, subst (λ s. AreGroups s groups leaders) (sym c.self.view_is) whole, c.self.invariant.2)
