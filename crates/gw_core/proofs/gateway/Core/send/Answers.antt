use Rattle.std.proofs.Common.{◌≡◌, ◌≢◌, ◌<◌, List, ◌∷◌, arith, subst, Ok, slice_set}
use Rattle.gw_core.specs.Start.{Heard}
use Rattle.gw_core.specs.Gateway.{Gateway, Stands, CoreAnswers}
use Rattle.gw_core.specs.declared.event.Event.{Event}
use Rattle.gw_core.specs.declared.event.Event.TheVariants.{Send}
use Rattle.gw_core.specs.declared.event.Answer.TheVariants.{Sent, Empty}
use Rattle.gw_core.proofs.Gateways.{core_lanes, with_worker}
use Rattle.gw_core.proofs.GatewaySendings.{core_sent, core_empty}
use Rattle.gw_core.proofs.gateway.Core.send.Goals as goal

pub send-requires : goal.send-requires
send-requires c =
    let i = c.self.inside in
    let g : Gateway = record {
      limits = i.limits;
      batches = i.batches.items;
      latest = i.latest;
      workers = i.workers.items;
      outs = i.outs.items;
      turns = i.turns;
    } in
    let within : c.from-2.result < g.limits.ports = omega
    (arith, c.from-2.ensures, c.from-else-from-ports.ensures, c.ports-ports.ensures.ports) in
    let many = core_lanes g c.from-2.result c.index_mut.result.now within c.index_mut.ensures.value c.self.invariant.1 in
    omega (arith, many, c.from.ensures, c.ports-ports.ensures.ports)

pub invariant_of-self : goal.invariant_of-self
invariant_of-self c =
    let i = c.self.inside in
    let g : Gateway = record {
      limits = i.limits;
      batches = i.batches.items;
      latest = i.latest;
      workers = i.workers.items;
      outs = i.outs.items;
      turns = i.turns;
    } in
    let own : c.args.from < g.limits.ports = omega (arith, c.from-else-from-ports.ensures, c.ports-ports.ensures.ports) in
    let lt : c.args.to < g.limits.ports = omega (arith, c.from.ensures, c.ports-ports.ensures.ports) in
    let other : c.args.to ≢ c.args.from = c.if-to-from.false in
    let both = core_sent g c.from-2.result c.from-in-Some.result c.args.to c.args.from c.index_mut.result.now c.send.new.self
    c.index_mut-in-Some.result.now c.add_sent.new.self c.in-Some.copy
    c.from-2.ensures c.from-in-Some.ensures lt own other c.index_mut.ensures.value c.index_mut-in-Some.ensures.value
    c.in-Some.ensures.lanes c.in-Some.ensures.first c.add_sent.ensures in (
      c.self.invariant.0,
      (
        c.self.invariant.1.0,
        Send c.args.to c.args.from ∷ c.self.invariant.1.1,
        both.0 c.self.invariant.1.0
            c.self.invariant.1.1 c.self.invariant.1.2,
      ),
    )

pub returns-in-Some-clause-answers : goal.returns-in-Some-clause-answers
returns-in-Some-clause-answers c =
    let i = c.self.inside in
    let g : Gateway = record {
      limits = i.limits;
      batches = i.batches.items;
      latest = i.latest;
      workers = i.workers.items;
      outs = i.outs.items;
      turns = i.turns;
    } in
    let own : c.args.from < g.limits.ports = omega (arith, c.from-else-from-ports.ensures, c.ports-ports.ensures.ports) in
    let lt : c.args.to < g.limits.ports = omega (arith, c.from.ensures, c.ports-ports.ensures.ports) in
    let other : c.args.to ≢ c.args.from = c.if-to-from.false in
    let both = core_sent g c.from-2.result c.from-in-Some.result c.args.to c.args.from c.index_mut.result.now c.send.new.self
    c.index_mut-in-Some.result.now c.add_sent.new.self c.in-Some.copy
    c.from-2.ensures c.from-in-Some.ensures lt own other c.index_mut.ensures.value c.index_mut-in-Some.ensures.value
    c.in-Some.ensures.lanes c.in-Some.ensures.first c.add_sent.ensures in
    let is_view : g ≡ c.args.self.now = c.self.view_is in
    let P : Gateway → Type 0 = λ x. (known : Heard) (history : List Event) → Stands x known history
    → CoreAnswers x (Send c.args.to c.args.from) (Ok (Sent c.in-Some.copy))
    (record g {
      workers = slice_set g.workers c.from-2.result c.send.new.self;
      outs = slice_set g.outs c.from-in-Some.result c.add_sent.new.self;
    }) known history in
    subst P is_view both.1

pub returns-in-None-clause-answers : goal.returns-in-None-clause-answers
returns-in-None-clause-answers c =
    let i = c.self.inside in
    let g : Gateway = record {
      limits = i.limits;
      batches = i.batches.items;
      latest = i.latest;
      workers = i.workers.items;
      outs = i.outs.items;
      turns = i.turns;
    } in
    let own : c.args.from < g.limits.ports = omega (arith, c.from-else-from-ports.ensures, c.ports-ports.ensures.ports) in
    let lt : c.args.to < g.limits.ports = omega (arith, c.from.ensures, c.ports-ports.ensures.ports) in
    let other : c.args.to ≢ c.args.from = c.if-to-from.false in
    let is_view : g ≡ c.args.self.now = c.self.view_is in
    let P : Gateway → Type 0 = λ x. (known : Heard) (history : List Event) → Stands x known history
    → CoreAnswers x (Send c.args.to c.args.from) (Ok Empty) (with_worker g c.from-2.result c.send.new.self) known history in
    subst P is_view (core_empty g c.from-2.result c.args.to c.args.from c.index_mut.result.now c.send.new.self c.from-2.ensures
    lt own other c.index_mut.ensures.value c.in-None.ensures.lanes c.in-None.ensures.first)
