use Rattle.std.proofs.Common.{rules, ◌≡◌, [], ◌∷◌, ◌++◌, List, All, arith, sym, subst}
use Rattle.gw_board.specs.Ends.{Board, Watching, new_watch}
use Rattle.gw_board.proofs.Lists.{All-push}
use Rattle.gw_board.proofs.make.ends.Goals as goal

abbrev IsNewWatch : Board → Watching → Type 0
IsNewWatch board watch = watch ≡ new_watch board

pub loop-preserved : goal.loop-preserved
loop-preserved c =
    let board = c.nothing.inside.seen.book in
    let one : IsNewWatch board c.in_ok-watch.field-0 = search rules in
    let all : All (IsNewWatch board) (c.loop.watches.items ++ c.in_ok-watch.field-0 ∷ []) =
    All-push (IsNewWatch board) c.loop.watches.items c.in_ok-watch.field-0 c.loop.invariant.1 one in (
      omega (arith, c.in_ok-push.ensures.len, c.loop.invariant.0),
      subst (λ (l : List Watching). All (IsNewWatch board) l) (sym c.in_ok-push.ensures.items) all,
    )
