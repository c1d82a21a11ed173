use Rattle.std.proofs.Common.{◌≡◌, ◌<◌, List, Option, length, arith, sym, subst, ap, ◌∙◌}
use Rattle.gw_lanes.specs.Ends.{Outlet}
use Rattle.gw_ports.specs.Ends.{HasLanes, CountsSent}
use Rattle.gw_ports.proofs.Placing.{has_one_more}
use Rattle.gw_ports.proofs.Counting.{one_more_ingress}
use Rattle.gw_ports.proofs.port_out.PortOut.add.Goals as goal

pub invariant_of-self-2 : goal.invariant_of-self-2
invariant_of-self-2 c =
    let inside = c.self.inside in
    let lane = c.args.lane in
    let items = c.in_ok-push.ensures.items in
    let port : inside.port ≡ c.args.self.now.port = ap (λ e. e.port) c.self.view_is in
    let size : length inside.lanes.items ≡ length c.args.self.now.lanes = ap (λ e. length e.lanes) c.self.view_is in
    let few : length inside.lanes.items < 16 = let less = c.requires.few in omega arith in (
      subst (λ (l : List (Option Outlet)). HasLanes inside.port l) (sym items)
          (has_one_more inside.port inside.lanes.items lane c.self.invariant.0 few
          (λ last. c.requires.none (sym size ∙ last ∙ port))
          (λ apart. c.requires.there (λ last. apart (size ∙ last ∙ sym port)))),
      subst (λ (l : List (Option Outlet)). CountsSent inside.ledger l) (sym items)
          (one_more_ingress inside.ledger inside.lanes.items lane c.self.invariant.1 c.requires.new),
      c.self.invariant.2,
    )
