use Rattle.std.proofs.Common.{rules, ◌≡◌, ◌<◌, List, sym, subst, ◌∙◌}
use Rattle.gw_core.specs.Start.{Heard, begun}
use Rattle.gw_core.specs.Gateway.{Gateway, Stands}
use Rattle.gw_core.specs.Events.{ledger_after, accepted}
use Rattle.gw_core.specs.declared.event.Event.{Event}
use Rattle.gw_core.proofs.Gateways.{read_ledger}
use Rattle.gw_core.proofs.gateway.Core.ledger.Goals as goal

pub returns : goal.returns
returns c =
    let i = c.self.inside in
    let g : Gateway = record {
      limits = i.limits;
      batches = i.batches.items;
      latest = i.latest;
      workers = i.workers.items;
      outs = i.outs.items;
      turns = i.turns;
    } in
    let is_view : g ≡ c.args.self.now = c.self.view_is in
    let within : c.args.port < g.limits.ports = subst (λ (x : Gateway). c.args.port < x.limits.ports) (sym is_view) c.requires in
    let P : Gateway → Type 0 = λ x. (known : Heard) (history : List Event) → Stands x known history
    → c.ledger.result.now ≡ ledger_after (begun x.limits known) c.args.port (accepted (begun x.limits known) history) in
    subst P is_view (λ known history s. c.ledger.ensures
    ∙ read_ledger g c.from.result c.args.port c.index.result.now c.from.ensures within (search rules) known history s)
