use Rattle.std.proofs.Common.{◌≡◌, ap, ◌∙◌}
use Rattle.std.specs.Prelude.{slice_index}
use Rattle.gw_core.specs.Start.{begun}
use Rattle.gw_core.specs.Events.{accepted}
use Rattle.gw_core.specs.Gateway.{Gateway}
use Rattle.gw_core.proofs.Circles.{source_up, source_down}
use Rattle.gw_core.proofs.gateway.Core.source.Goals as goal

pub returns-in-Some-clause-found : goal.returns-in-Some-clause-found
returns-in-Some-clause-found c =
    let i = c.self.inside in
    let g : Gateway = record {
      limits = i.limits;
      batches = i.batches.items;
      latest = i.latest;
      workers = i.workers.items;
      outs = i.outs.items;
      turns = i.turns;
    } in
    let is_view : g ≡ c.args.self.now = c.self.view_is in
    let turn : slice_index g.turns c.from.result ≡ slice_index c.args.self.now.turns c.args.to =
    ap (λ n. slice_index g.turns n) c.from.ensures ∙ ap (λ (x : Gateway). slice_index x.turns c.args.to) is_view in
    let ports : c.ports-ports.result ≡ c.args.self.now.limits.ports = c.ports-ports.ensures.ports
    ∙ ap (λ (x : Gateway). x.limits.ports) is_view in
    λ known history s. source_up (begun c.args.self.now.limits known) (accepted (begun c.args.self.now.limits known) history)
    (slice_index c.args.self.now.turns c.args.to) (slice_index g.turns c.from.result) c.ports-ports.result c.args.to
    c.in-Some.from turn ports (c.in-Some.ensures.found known history s)

pub returns-in-None-clause-found : goal.returns-in-None-clause-found
returns-in-None-clause-found c =
    let i = c.self.inside in
    let g : Gateway = record {
      limits = i.limits;
      batches = i.batches.items;
      latest = i.latest;
      workers = i.workers.items;
      outs = i.outs.items;
      turns = i.turns;
    } in
    let is_view : g ≡ c.args.self.now = c.self.view_is in
    let turn : slice_index g.turns c.from.result ≡ slice_index c.args.self.now.turns c.args.to =
    ap (λ n. slice_index g.turns n) c.from.ensures ∙ ap (λ (x : Gateway). slice_index x.turns c.args.to) is_view in
    let ports : c.ports-ports.result ≡ c.args.self.now.limits.ports = c.ports-ports.ensures.ports
    ∙ ap (λ (x : Gateway). x.limits.ports) is_view in
    λ known history s. source_down c.args.self.now known history
    (slice_index g.turns c.from.result) c.ports-ports.result c.min.result
    c.args.to c.first_from-in-None.result s turn ports c.min.ensures (c.in-None.ensures.found known history s)
    (c.first_from-in-None.ensures.found known history s)
