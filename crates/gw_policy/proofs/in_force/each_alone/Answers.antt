use Rattle.std.proofs.Common.{◌≡◌, arith, subst, sym}
use Rattle.std.proofs.Common.{ap, ◌∙◌, ◌&&◌, true}
use Rattle.std.proofs.lemmas.Bool.{lt-ltb}
use Rattle.gw_ledger.specs.Ports.{ports_below}
use Rattle.gw_ledger.proofs.Callers.{has_port-ports_below}
use Rattle.gw_policy.specs.Batches.{HasGroups, policy_at}
use Rattle.gw_policy.proofs.EgressPorts.{alike_itself, no_groups, one_more_group}
use Rattle.gw_policy.proofs.in_force.each_alone.Goals as goal

pub loop-port-init : goal.loop-port-init
loop-port-init c = λ set. no_groups set c.new-groups.result (ports_below 16 (λ _. true)) c.new-groups.ensures

pub loop-port-preserved : goal.loop-port-preserved
loop-port-preserved c = λ set.
    let port = c.loop-port.port in
    one_more_group port port set c.loop-port.groups _ _ (ports_below 16 (λ _. true)) (ports_below 16 (λ _. true))
    (c.loop-port.invariant set) (omega arith) c.loop-port-test.true (alike_itself (policy_at port set)) c.add.ensures.members
    (has_port-ports_below 16 port (λ _. true) ∙ ap (λ b. b && true) (lt-ltb port 16 c.loop-port-test.true))
    (λ other leads. leads)

pub returns : goal.returns
returns c = λ set leaders is.
    let all : c.loop-port.port ≡ 16 = omega (arith, c.loop-port-test.false, c.loop-port.auto.port-end) in
    subst (λ l. HasGroups 16 set c.loop-port.groups l) (sym is)
    (subst (λ n. HasGroups n set c.loop-port.groups (ports_below 16 (λ _. true))) all (c.loop-port.invariant set))
