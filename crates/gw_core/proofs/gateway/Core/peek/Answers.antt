use Rattle.std.proofs.Common.{rules, ◌≡◌, ◌<◌, List, Some, Ok, sym, subst, arith}
use Rattle.gw_core.specs.Start.{Heard}
use Rattle.gw_core.specs.Gateway.{Gateway, Stands}
use Rattle.gw_core.specs.Circle.{FindsSource, PeeksNext}
use Rattle.gw_core.specs.declared.event.Event.{Event}
use Rattle.gw_core.proofs.Gateways.{core_lanes}
use Rattle.gw_core.proofs.Circles.{peeks}
use Rattle.gw_core.proofs.gateway.Core.peek.Goals as goal

pub returns-in_default : goal.returns-in_default
returns-in_default c =
    let i = c.self.inside in
    let g : Gateway = record {
      limits = i.limits;
      batches = i.batches.items;
      latest = i.latest;
      workers = i.workers.items;
      outs = i.outs.items;
      turns = i.turns;
    } in
    let within : c.args.to < g.limits.ports = omega (arith, c.from.ensures, c.ports.ensures.ports) in
    λ known history s. (
      subst (λ (x : Gateway). c.args.to < x.limits.ports) c.self.view_is within,
      c.in_default.ensures.found
          known history s,
    )

pub first-requires : goal.first-requires
first-requires c =
    let i = c.self.inside in
    let g : Gateway = record {
      limits = i.limits;
      batches = i.batches.items;
      latest = i.latest;
      workers = i.workers.items;
      outs = i.outs.items;
      turns = i.turns;
    } in
    let is_view : g ≡ c.args.self.now = c.self.view_is in
    let within : c.args.to < g.limits.ports = omega (arith, c.from.ensures, c.ports.ensures.ports) in
    let there : c.in-Some.from < g.limits.ports = subst (λ (x : Gateway). c.in-Some.from < x.limits.ports) (sym is_view)
    c.in-Some.ensures.there in
    let many = core_lanes g c.from-2.result c.index.result.now (omega (arith, c.from-2.ensures, there)) (search rules)
    c.self.invariant.1 in
    omega (arith, many, within)

pub returns : goal.returns
returns c =
    let i = c.self.inside in
    let g : Gateway = record {
      limits = i.limits;
      batches = i.batches.items;
      latest = i.latest;
      workers = i.workers.items;
      outs = i.outs.items;
      turns = i.turns;
    } in
    let is_view : g ≡ c.args.self.now = c.self.view_is in
    let within : c.args.to < g.limits.ports = omega (arith, c.from.ensures, c.ports.ensures.ports) in
    let source : (known : Heard) (history : List Event) → Stands g known history
    → FindsSource g known history c.args.to (Some c.in-Some.from) =
    subst (λ (x : Gateway). (known : Heard) (history : List Event) → Stands x known history
    → FindsSource x known history c.args.to (Some c.in-Some.from))
    (sym is_view) c.in-Some.ensures.found in
    let P : Gateway → Type 0 = λ x. (known : Heard) (history : List Event) → Stands x known history
    → PeeksNext x known history c.args.to (Ok c.first.result) in
    subst P is_view (λ known history s. peeks g known history c.from-2.result c.args.to c.in-Some.from c.index.result.now
    c.first.result s
    c.from-2.ensures (search rules) within (source known history s) c.first.ensures)
