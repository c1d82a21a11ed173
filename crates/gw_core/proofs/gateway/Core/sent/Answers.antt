use Rattle.std.proofs.Common.{rules, ◌≡◌, ℕ, ◌<◌, List, sym, subst}
use Rattle.std.specs.Prelude.{slice_index}
use Rattle.gw_core.specs.Start.{Heard, begun}
use Rattle.gw_core.specs.Gateway.{Gateway, Stands}
use Rattle.gw_core.specs.Events.{sent_after, accepted}
use Rattle.gw_core.specs.declared.event.Event.{Event}
use Rattle.gw_core.proofs.Counts.{read_sent}
use Rattle.gw_core.proofs.gateway.Core.sent.Goals as goal

pub returns : goal.returns
returns c =
    let i = c.self.inside in
    let g : Gateway = record {
      limits = i.limits;
      batches = i.batches.items;
      latest = i.latest;
      workers = i.workers.items;
      outs = i.outs.items;
      turns = i.turns;
    } in
    let is_view : g ≡ c.args.self.now = c.self.view_is in
    let within : c.args.port < g.limits.ports = subst (λ (x : Gateway). c.args.port < x.limits.ports) (sym is_view) c.requires in
    let P : Gateway → Type 0 = λ x. (known : Heard) (history : List Event) (from : ℕ) → Stands x known history
    → slice_index c.index.result.now.sent from
    ≡ sent_after (begun x.limits known) from c.args.port (accepted (begun x.limits known) history) in
    subst P is_view (λ known history from s. read_sent g c.from.result c.args.port c.index.result.now c.from.ensures within
    (search rules) known history from s)
