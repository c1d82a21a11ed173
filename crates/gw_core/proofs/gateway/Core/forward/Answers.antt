use Rattle.std.proofs.Common.{rules, ◌≡◌, ◌<◌, List, length, subst, arith}
use Rattle.std.specs.Prelude.{OnErr, IfOk}
use Rattle.gw_frame.specs.Record.{IsRecord}
use Rattle.gw_core.specs.Start.{Heard, begun}
use Rattle.gw_core.specs.Gateway.{Gateway, Stands}
use Rattle.gw_core.specs.Forwarding.{CoreForwards, ForwardsFrame}
use Rattle.gw_core.specs.declared.event.Event.{Event}
use Rattle.gw_core.proofs.Gateways.{with_worker}
use Rattle.gw_core.proofs.GatewayForwards.{can_forward, core_forward, core_forward_stays, forward_inside, headline_of}
use Rattle.gw_core.proofs.gateway.Core.forward.Goals as goal

pub forward-requires : goal.forward-requires
forward-requires c =
    let i = c.self.inside in
    let g : Gateway = record {
      limits = i.limits;
      batches = i.batches.items;
      latest = i.latest;
      workers = i.workers.items;
      outs = i.outs.items;
      turns = i.turns;
    } in
    let within : c.from-2.result < g.limits.ports = omega (arith, c.from-2.ensures, c.from.ensures, c.ports.ensures.ports) in
    let front : c.len-front.result ≡ length g.batches = search rules in
    can_forward g c.deref.result.now c.from-2.result c.index_mut.result.now c.len-front.result c.deref.ensures.value within
    c.index_mut.ensures.value front c.self.invariant.1

pub invariant_of-self : goal.invariant_of-self
invariant_of-self c =
    let i = c.self.inside in
    let g : Gateway = record {
      limits = i.limits;
      batches = i.batches.items;
      latest = i.latest;
      workers = i.workers.items;
      outs = i.outs.items;
      turns = i.turns;
    } in
    let within : c.from-2.result < g.limits.ports = omega (arith, c.from-2.ensures, c.from.ensures, c.ports.ensures.ports) in
    let front : c.len-front.result ≡ length g.batches = search rules in
    let is_record : IsRecord c.args.frame = subst IsRecord c.bytes-record.ensures.octets c.bytes-record.ensures.record in (
      c.self.invariant.0,
      (core_forward_stays g c.deref.result.now c.from-2.result c.index_mut.result.now c.forward.new.self c.forward.result
          c.args.frame c.len-front.result c.deref.ensures.value within is_record c.index_mut.ensures.value
          c.forward.ensures.answers front c.forward.ensures.limits c.forward.ensures.own c.self.invariant.1).0,
    )

pub returns-then-from-ports-clause-safe : goal.returns-then-from-ports-clause-safe
returns-then-from-ports-clause-safe c =
    let is_record : IsRecord c.args.frame = subst IsRecord c.bytes-record.ensures.octets c.bytes-record.ensures.record in
    forward_inside c.steps_are_safe.ensures c.args.self.now c.args.port c.args.frame (omega (arith, c.ranges.port.fits)) is_record

pub returns-clause-safe : goal.returns-clause-safe
returns-clause-safe c =
    let is_record : IsRecord c.args.frame = subst IsRecord c.bytes-record.ensures.octets c.bytes-record.ensures.record in
    forward_inside c.steps_are_safe.ensures c.args.self.now c.args.port c.args.frame (omega (arith, c.ranges.port.fits)) is_record

pub returns-clause-answers : goal.returns-clause-answers
returns-clause-answers c =
    let i = c.self.inside in
    let g : Gateway = record {
      limits = i.limits;
      batches = i.batches.items;
      latest = i.latest;
      workers = i.workers.items;
      outs = i.outs.items;
      turns = i.turns;
    } in
    let within : c.args.port < g.limits.ports = omega (arith, c.from-2.ensures, c.from.ensures, c.ports.ensures.ports) in
    let front : c.len-front.result ≡ length g.batches = search rules in
    let is_record : IsRecord c.args.frame = subst IsRecord c.bytes-record.ensures.octets c.bytes-record.ensures.record in
    let P : Gateway → Type 0 = λ x. (known : Heard) (history : List Event) → Stands x known history
    → CoreForwards x known history c.args.port c.args.frame c.forward.result (with_worker g c.from-2.result c.forward.new.self) in
    let is_view : g ≡ c.args.self.now = c.self.view_is in
    subst P is_view
    (core_forward g c.deref.result.now c.from-2.result c.args.port c.index_mut.result.now c.forward.new.self c.forward.result
    c.args.frame c.len-front.result c.deref.ensures.value c.from-2.ensures within is_record c.index_mut.ensures.value
    c.forward.ensures.answers front c.forward.ensures.limits c.forward.ensures.own)

pub returns-clause-headline : goal.returns-clause-headline
returns-clause-headline c =
    let i = c.self.inside in
    let g : Gateway = record {
      limits = i.limits;
      batches = i.batches.items;
      latest = i.latest;
      workers = i.workers.items;
      outs = i.outs.items;
      turns = i.turns;
    } in
    let within : c.args.port < g.limits.ports = omega (arith, c.from-2.ensures, c.from.ensures, c.ports.ensures.ports) in
    let front : c.len-front.result ≡ length g.batches = search rules in
    let is_record : IsRecord c.args.frame = subst IsRecord c.bytes-record.ensures.octets c.bytes-record.ensures.record in
    let P : Gateway → Type 0 = λ x. (known : Heard) (history : List Event) → Stands x known history
    → IfOk c.forward.result (λ outcome. ForwardsFrame (begun x.limits known) history c.args.port c.args.frame outcome) in
    let is_view : g ≡ c.args.self.now = c.self.view_is in
    subst P is_view (λ known history s.
    headline_of c.finished_frames_were_forwarded.ensures g
    (with_worker g c.from-2.result c.forward.new.self) known history c.args.port
    c.args.frame c.forward.result (omega (arith, c.ranges.port.fits)) is_record s
    (core_forward g c.deref.result.now c.from-2.result c.args.port c.index_mut.result.now c.forward.new.self c.forward.result
    c.args.frame c.len-front.result c.deref.ensures.value c.from-2.ensures within is_record c.index_mut.ensures.value
    c.forward.ensures.answers front c.forward.ensures.limits c.forward.ensures.own known history s))

pub returns-clause-refused : goal.returns-clause-refused
returns-clause-refused c =
    let i = c.self.inside in
    let g : Gateway = record {
      limits = i.limits;
      batches = i.batches.items;
      latest = i.latest;
      workers = i.workers.items;
      outs = i.outs.items;
      turns = i.turns;
    } in
    let within : c.from-2.result < g.limits.ports = omega (arith, c.from-2.ensures, c.from.ensures, c.ports.ensures.ports) in
    let front : c.len-front.result ≡ length g.batches = search rules in
    let is_record : IsRecord c.args.frame = subst IsRecord c.bytes-record.ensures.octets c.bytes-record.ensures.record in
    subst (λ (x : Gateway). OnErr c.forward.result (with_worker g c.from-2.result c.forward.new.self ≡ x)) c.self.view_is
    ((core_forward_stays g c.deref.result.now c.from-2.result c.index_mut.result.now c.forward.new.self c.forward.result
    c.args.frame c.len-front.result c.deref.ensures.value within is_record c.index_mut.ensures.value
    c.forward.ensures.answers front c.forward.ensures.limits c.forward.ensures.own c.self.invariant.1).1)
