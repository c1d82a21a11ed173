use Rattle.std.proofs.Common.{rules, ◌≡◌, ◌<◌, List, length, arith, sym, subst, ◌∙◌}
use Rattle.gw_core.specs.Start.{Heard, begun}
use Rattle.gw_core.specs.Gateway.{Gateway, Stands}
use Rattle.gw_core.specs.Events.{waiting_after, accepted}
use Rattle.gw_core.specs.declared.event.Event.{Event}
use Rattle.gw_core.proofs.Gateways.{read_waiting, core_lanes}
use Rattle.gw_core.proofs.gateway.Core.waiting.Goals as goal

pub waiting-requires : goal.waiting-requires
waiting-requires c =
    let i = c.self.inside in
    let g : Gateway = record {
      limits = i.limits;
      batches = i.batches.items;
      latest = i.latest;
      workers = i.workers.items;
      outs = i.outs.items;
      turns = i.turns;
    } in
    let is_view : g ≡ c.args.self.now = c.self.view_is in
    let own : c.args.from < g.limits.ports = subst (λ (x : Gateway). c.args.from < x.limits.ports) (sym is_view)
    c.requires.from in
    let lt : c.args.to < g.limits.ports = subst (λ (x : Gateway). c.args.to < x.limits.ports) (sym is_view) c.requires.to in
    let many = core_lanes g c.from.result c.index.result.now (omega (arith, c.from.ensures)) (search rules) c.self.invariant.1 in
    omega (arith, many)

pub returns : goal.returns
returns c =
    let i = c.self.inside in
    let g : Gateway = record {
      limits = i.limits;
      batches = i.batches.items;
      latest = i.latest;
      workers = i.workers.items;
      outs = i.outs.items;
      turns = i.turns;
    } in
    let is_view : g ≡ c.args.self.now = c.self.view_is in
    let own : c.args.from < g.limits.ports = subst (λ (x : Gateway). c.args.from < x.limits.ports) (sym is_view)
    c.requires.from in
    let lt : c.args.to < g.limits.ports = subst (λ (x : Gateway). c.args.to < x.limits.ports) (sym is_view) c.requires.to in
    let P : Gateway → Type 0 = λ x. (known : Heard) (history : List Event) → Stands x known history
    → c.waiting.result ≡ length (waiting_after (begun x.limits known) c.args.from c.args.to (accepted
    (begun x.limits known) history)) in
    subst P is_view (λ known history s. c.waiting.ensures
    ∙ read_waiting g c.from.result c.args.from c.args.to c.index.result.now c.from.ensures own lt (search rules) known history s)
