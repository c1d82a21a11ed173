use Rattle.std.proofs.Common.{ℕ, ◌≤◌, drop, sym, subst}
use Rattle.gw_board.proofs.Visits.{greatest_is_no_smaller, shows}
use Rattle.gw_board.proofs.count.show_next.Goals as goal

pub publish_as-requires : goal.publish_as-requires
publish_as-requires g c next is =
    let now = c.args.writer.desk.shown.value in
    let pending = drop c.args.writer.behind c.args.writer.log.items in
    shows _ _ now next (subst (λ (n : ℕ). now.0 ≤ n) (sym is) (greatest_is_no_smaller now.0 pending))
