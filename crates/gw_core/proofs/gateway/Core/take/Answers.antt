use Rattle.std.proofs.Common.{rules, ◌≡◌, ◌<◌, List, length, subst, arith}
use Rattle.std.specs.Prelude.{OnErr}
use Rattle.gw_frame.specs.Record.{IsRecord}
use Rattle.gw_core.specs.Start.{Heard}
use Rattle.gw_core.specs.Gateway.{Gateway, Stands, CoreAnswers}
use Rattle.gw_core.specs.declared.event.Event.{Event}
use Rattle.gw_core.specs.declared.event.Event.TheVariants.{Take}
use Rattle.gw_core.proofs.Gateways.{with_worker, core_worker}
use Rattle.gw_core.proofs.GatewayTakings.{core_take, core_take_stays}
use Rattle.gw_core.proofs.gateway.Core.take.Goals as goal

pub take-requires : goal.take-requires
take-requires c =
    let i = c.self.inside in
    let g : Gateway = record {
      limits = i.limits;
      batches = i.batches.items;
      latest = i.latest;
      workers = i.workers.items;
      outs = i.outs.items;
      turns = i.turns;
    } in
    let within : c.from-2.result < g.limits.ports = omega (arith, c.from-2.ensures, c.from.ensures, c.ports.ensures.ports) in (
      g.batches,
      core_worker g g.batches c.from-2.result c.index_mut.result.now (search rules) within c.index_mut.ensures.value
          c.self.invariant.1,
    )

pub invariant_of-self : goal.invariant_of-self
invariant_of-self c =
    let i = c.self.inside in
    let g : Gateway = record {
      limits = i.limits;
      batches = i.batches.items;
      latest = i.latest;
      workers = i.workers.items;
      outs = i.outs.items;
      turns = i.turns;
    } in
    let within : c.from-2.result < g.limits.ports = omega (arith, c.from-2.ensures, c.from.ensures, c.ports.ensures.ports) in
    let front : c.len-front.result ≡ length g.batches = search rules in
    let is_record : IsRecord c.args.frame = subst IsRecord c.bytes-record.ensures.octets c.bytes-record.ensures.record in (
      c.self.invariant.0,
      (core_take_stays g c.from-2.result c.index_mut.result.now c.take.new.self c.take.result c.args.frame c.len-front.result
          within is_record c.index_mut.ensures.value
          c.take.ensures.answers front c.take.ensures.limits c.take.ensures.own c.self.invariant.1).0,
    )

pub returns-clause-answers : goal.returns-clause-answers
returns-clause-answers c =
    let i = c.self.inside in
    let g : Gateway = record {
      limits = i.limits;
      batches = i.batches.items;
      latest = i.latest;
      workers = i.workers.items;
      outs = i.outs.items;
      turns = i.turns;
    } in
    let within : c.args.port < g.limits.ports = omega (arith, c.from-2.ensures, c.from.ensures, c.ports.ensures.ports) in
    let front : c.len-front.result ≡ length g.batches = search rules in
    let P : Gateway → Type 0 = λ x. (known : Heard) (history : List Event) → Stands x known history
    → CoreAnswers x (Take c.args.port c.args.frame) c.take.result (with_worker g c.from-2.result c.take.new.self) known history in
    let is_view : g ≡ c.args.self.now = c.self.view_is in
    let is_record : IsRecord c.args.frame = subst IsRecord c.bytes-record.ensures.octets c.bytes-record.ensures.record in
    subst P is_view
    (core_take g c.from-2.result c.args.port c.index_mut.result.now c.take.new.self c.take.result c.args.frame c.len-front.result
    c.from-2.ensures within is_record c.index_mut.ensures.value
    c.take.ensures.answers front c.take.ensures.limits c.take.ensures.own)

pub returns-clause-refused : goal.returns-clause-refused
returns-clause-refused c =
    let i = c.self.inside in
    let g : Gateway = record {
      limits = i.limits;
      batches = i.batches.items;
      latest = i.latest;
      workers = i.workers.items;
      outs = i.outs.items;
      turns = i.turns;
    } in
    let within : c.from-2.result < g.limits.ports = omega (arith, c.from-2.ensures, c.from.ensures, c.ports.ensures.ports) in
    let front : c.len-front.result ≡ length g.batches = search rules in
    let is_view : g ≡ c.args.self.now = c.self.view_is in
    let is_record : IsRecord c.args.frame = subst IsRecord c.bytes-record.ensures.octets c.bytes-record.ensures.record in
    subst (λ (x : Gateway). OnErr c.take.result (with_worker g c.from-2.result c.take.new.self ≡ x)) is_view
    ((core_take_stays g c.from-2.result c.index_mut.result.now c.take.new.self c.take.result c.args.frame c.len-front.result
    within is_record c.index_mut.ensures.value
    c.take.ensures.answers front c.take.ensures.limits c.take.ensures.own c.self.invariant.1).1)
