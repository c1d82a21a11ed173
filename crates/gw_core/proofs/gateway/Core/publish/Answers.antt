use Rattle.std.proofs.Common.{rules, ◌≡◌, ℕ, ◌+◌, ◌<◌, List, ◌∷◌, length, Ok, sym, ap, ◌∙◌, subst, arith, false}
use Rattle.gw_policy.specs.Batches.{Pair}
use Rattle.gw_core.specs.Start.{Heard}
use Rattle.gw_core.specs.Events.{names_no_port}
use Rattle.gw_core.specs.Gateway.{Gateway, Stands, StandsAt, CoreAnswers, IndicesWith}
use Rattle.gw_core.specs.declared.event.Event.{Event}
use Rattle.gw_core.specs.declared.event.Event.TheVariants.{Publish}
use Rattle.gw_core.specs.declared.event.Answer.TheVariants.{Published}
use Rattle.gw_core.proofs.GatewayPublishings.{core_publish, stands_publish}
use Rattle.gw_core.proofs.gateway.Core.publish.Goals as goal

pub invariant_of-self : goal.invariant_of-self
invariant_of-self c =
    let i = c.self.inside in
    let g : Gateway = record {
      limits = i.limits;
      batches = i.batches.items;
      latest = i.latest;
      workers = i.workers.items;
      outs = i.outs.items;
      turns = i.turns;
    } in
    let front : c.len-front.result ≡ length g.batches = search rules in
    let more : length g.batches < g.limits.versions = omega (arith, c.if-front-versions.false, c.versions.ensures.versions) in
    let made : IndicesWith c.args.batch (length g.batches) g.latest c.in-Some.latest = subst
    (λ n. IndicesWith c.args.batch n g.latest c.in-Some.latest) front c.in-Some.ensures.1 in
    let inv = c.self.invariant in (
      omega (arith, inv.0, c.push_reserved.ensures.capacity),
      (
        inv.1.0,
        Publish c.args.batch ∷ inv.1.1,
        subst (λ (xs : List (List Pair)). StandsAt (record g { batches = xs; latest = c.in-Some.latest }) inv.1.0
            (Publish c.args.batch ∷ inv.1.1)) (sym c.push_reserved.ensures.items)
            (stands_publish g inv.1.0 inv.1.1 c.args.batch c.in-Some.latest inv.1.2 more made),
      ),
    )

pub returns-clause-answers : goal.returns-clause-answers
returns-clause-answers c =
    let i = c.self.inside in
    let g : Gateway = record {
      limits = i.limits;
      batches = i.batches.items;
      latest = i.latest;
      workers = i.workers.items;
      outs = i.outs.items;
      turns = i.turns;
    } in
    let front : c.len-front.result ≡ length g.batches = search rules in
    let more : length g.batches < g.limits.versions = omega (arith, c.if-front-versions.false, c.versions.ensures.versions) in
    let made : IndicesWith c.args.batch (length g.batches) g.latest c.in-Some.latest = subst
    (λ n. IndicesWith c.args.batch n g.latest c.in-Some.latest) front c.in-Some.ensures.1 in
    let e = c.in-Some.ensures.0 in
    let is_view : g ≡ c.args.self.now = c.self.view_is in
    let F : Gateway → ℕ → List (List Pair) → Type 0 = λ x f xs. (known : Heard) (history : List Event) → Stands x known history
    → CoreAnswers x (Publish c.args.batch) (Ok (Published (f + 1))) (record g { batches = xs; latest = c.in-Some.latest }) known
    history in
    let there : names_no_port g.limits.ports c.args.batch
    ≡ false = ap (λ n. names_no_port n c.args.batch) (sym c.ports.ensures.ports) ∙ e in
    subst (λ (x : Gateway). F x c.len-front.result c.push_reserved.new.self.items) is_view
    (subst (λ f. F g f c.push_reserved.new.self.items) (sym front)
    (subst (λ (xs : List (List Pair)). F g (length g.batches) xs) (sym c.push_reserved.ensures.items)
    (core_publish g c.args.batch c.in-Some.latest more there made)))
