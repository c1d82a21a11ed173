use Rattle.std.proofs.Common.{◌≡◌, ◌<◌, List, subst, arith}
use Rattle.std.specs.Prelude.{OnErr}
use Rattle.gw_core.specs.Start.{Heard}
use Rattle.gw_core.specs.Gateway.{Gateway, Stands, CoreAnswers}
use Rattle.gw_core.specs.declared.event.Event.{Event}
use Rattle.gw_core.specs.declared.event.Event.TheVariants.{Step}
use Rattle.gw_core.proofs.GatewaySteps.{core_step, core_step_stays, core_step_same}
use Rattle.gw_core.proofs.Gateways.{with_worker, core_worker}
use Rattle.gw_core.proofs.gateway.Core.step.Goals as goal

pub step-requires : goal.step-requires
step-requires c =
    let i = c.self.inside in
    let g : Gateway = record {
      limits = i.limits;
      batches = i.batches.items;
      latest = i.latest;
      workers = i.workers.items;
      outs = i.outs.items;
      turns = i.turns;
    } in
    let within : c.from-2.result < g.limits.ports = omega (arith, c.from-2.ensures, c.from.ensures, c.ports.ensures.ports) in
    core_worker g c.deref.result.now c.from-2.result c.index_mut.result.now c.deref.ensures.value within c.index_mut.ensures.value
    c.self.invariant.1

pub invariant_of-self : goal.invariant_of-self
invariant_of-self c =
    let i = c.self.inside in
    let g : Gateway = record {
      limits = i.limits;
      batches = i.batches.items;
      latest = i.latest;
      workers = i.workers.items;
      outs = i.outs.items;
      turns = i.turns;
    } in
    let within : c.from-2.result < g.limits.ports = omega (arith, c.from-2.ensures, c.from.ensures, c.ports.ensures.ports) in (
      c.self.invariant.0,
      core_step_stays g c.deref.result.now c.from-2.result c.index_mut.result.now c.step.new.self c.step.result
          c.deref.ensures.value within c.index_mut.ensures.value
          c.step.ensures.answers c.step.ensures.limits c.step.ensures.own c.self.invariant.1,
    )

pub returns-clause-answers : goal.returns-clause-answers
returns-clause-answers c =
    let i = c.self.inside in
    let g : Gateway = record {
      limits = i.limits;
      batches = i.batches.items;
      latest = i.latest;
      workers = i.workers.items;
      outs = i.outs.items;
      turns = i.turns;
    } in
    let within : c.args.port < g.limits.ports = omega (arith, c.from-2.ensures, c.from.ensures, c.ports.ensures.ports) in
    let P : Gateway → Type 0 = λ x. (known : Heard) (history : List Event) → Stands x known history
    → CoreAnswers x (Step c.args.port) c.step.result (with_worker g c.from-2.result c.step.new.self) known history in
    let is_view : g ≡ c.args.self.now = c.self.view_is in
    subst P is_view (core_step g c.deref.result.now c.from-2.result c.args.port c.index_mut.result.now c.step.new.self
    c.step.result c.deref.ensures.value c.from-2.ensures within c.index_mut.ensures.value
    c.step.ensures.answers c.step.ensures.limits c.step.ensures.own)

pub returns-clause-refused : goal.returns-clause-refused
returns-clause-refused c =
    let i = c.self.inside in
    let g : Gateway = record {
      limits = i.limits;
      batches = i.batches.items;
      latest = i.latest;
      workers = i.workers.items;
      outs = i.outs.items;
      turns = i.turns;
    } in
    let within : c.from-2.result < g.limits.ports = omega (arith, c.from-2.ensures, c.from.ensures, c.ports.ensures.ports) in
    subst (λ (x : Gateway). OnErr c.step.result (with_worker g c.from-2.result c.step.new.self ≡ x)) c.self.view_is
    (core_step_same g c.deref.result.now c.from-2.result c.index_mut.result.now c.step.new.self c.step.result
    c.deref.ensures.value within c.index_mut.ensures.value c.step.ensures.answers c.self.invariant.1)
