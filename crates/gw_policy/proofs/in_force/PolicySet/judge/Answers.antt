use Rattle.std.proofs.Common.{ℕ, ◌<◌, Bool, ◌&&◌, if◌then◌else◌, List, [], length, Option, slice_index_or, ap, ◌∙◌}
use Rattle.std.proofs.Common.{subst, arith}
use Rattle.std.proofs.lemmas.List.{get_or_default}
use Rattle.gw_frame.specs.Record.{IsRecord}
use Rattle.gw_ledger.specs.Ports.{has_port, ports_below}
use Rattle.gw_policy.specs.Filter.{Filter}
use Rattle.gw_policy.specs.Batches.{AreGroups, passes, policy_at}
use Rattle.gw_policy.proofs.EgressPorts.{all_gathered, next_low, nothing_yet, one_more_gathered}
use Rattle.gw_policy.proofs.in_force.PolicySet.judge.Goals as goal

pub bounds-self-inside-from : goal.bounds-self-inside-from
bounds-self-inside-from c =
    let test : ℕ → Bool = λ port. passes (policy_at port c.args.self.now) c.args.frame.now c.args.from in
    let low : c.in-Some.leader < 16 =
    next_low c.in-Some.leader c.loop-leader.leader-iterator c.next.new.self c.into_iter-leader-iterator.result
    c.self.inside.groups c.args.asked c.loop-leader.egress test c.loop-leader.invariant c.in-Some.ensures.steps in
    omega (arith, c.from.ensures, low)

pub listed : goal.listed
listed c =
    let low = bounds-self-inside-from c in
    let long = c.self.invariant.1.long in
    omega (arith, low, long)

pub loop-leader-init : goal.loop-leader-init
loop-leader-init c =
    nothing_yet c.into_iter-leader-iterator.result
    (λ port. has_port port c.self.inside.leaders && has_port port c.below.result) c.self.inside.groups
    c.args.asked c.new-egress.result (λ port. passes (policy_at port c.args.self.now) c.args.frame.now c.args.from)
    (c.into_iter-leader-iterator.ensures.into_iter_gives ∙ c.iter-leader-items.ensures ∙ c.intersection.ensures)
    c.new-egress.ensures

pub loop-leader-preserved : goal.loop-leader-preserved
loop-leader-preserved c =
    let set = c.args.self.now in
    let groups = c.self.inside.groups in
    let leaders = c.self.inside.leaders in
    let leader = c.in-Some.leader in
    let asked = c.args.asked in
    let grouped : AreGroups set groups leaders = subst (λ s. AreGroups s groups leaders) c.self.view_is c.self.invariant.1 in
    let test : ℕ → Bool = λ port. passes (policy_at port set) c.args.frame.now c.args.from in
    let low : leader < 16 =
    next_low leader c.loop-leader.leader-iterator c.next.new.self c.into_iter-leader-iterator.result groups asked
    c.loop-leader.egress test c.loop-leader.invariant c.in-Some.ensures.steps in
    let within : c.from.result < length groups = omega (arith, c.from.ensures, grouped.long, low) in
    let shared = c.intersection-in-loop-leader.result in
    one_more_gathered leader c.loop-leader.leader-iterator c.next.new.self c.into_iter-leader-iterator.result groups asked
    c.loop-leader.egress shared c.judged-passing.result c.union-egress.result test c.loop-leader.invariant c.in-Some.ensures.steps
    (λ port has. grouped.alike leader port has c.args.frame.now c.args.from
    (subst IsRecord c.bytes-octets.ensures.octets c.bytes-octets.ensures.record) (omega (arith, c.ranges.from.fits)))
    (c.intersection-in-loop-leader.ensures
    ∙ ap (λ (group : List ℕ). ports_below 16 (λ port. has_port port group && has_port port asked))
    (get_or_default groups c.from.result _ [] within ∙ ap (λ k. slice_index_or groups k []) c.from.ensures))
    (c.judged-passing.ensures
    ∙ ap (λ (policy : Option Filter). if passes policy c.new-fields.result c.args.from then shared else []) c.get.ensures
    ∙ ap (λ octets. if passes (policy_at leader set) octets c.args.from then shared else []) c.new-fields.ensures)
    c.union-egress.ensures

pub returns : goal.returns
returns c =
    let set = c.args.self.now in
    let groups = c.self.inside.groups in
    let leaders = c.self.inside.leaders in
    let grouped : AreGroups set groups leaders = subst (λ s. AreGroups s groups leaders) c.self.view_is c.self.invariant.1 in
    all_gathered c.args.ports c.below.result c.args.asked groups leaders c.into_iter-leader-iterator.result
    c.loop-leader.leader-iterator set c.loop-leader.egress (λ port. passes (policy_at port set) c.args.frame.now c.args.from)
    c.requires.fits c.below.ensures c.requires.within grouped
    (c.into_iter-leader-iterator.ensures.into_iter_gives ∙ c.iter-leader-items.ensures ∙ c.intersection.ensures)
    c.in-None.ensures.steps.0 c.loop-leader.invariant
