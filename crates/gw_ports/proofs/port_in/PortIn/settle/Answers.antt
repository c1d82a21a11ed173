use Rattle.std.proofs.Common.{◌≡◌, List, length, ◌∙◌, ap, subst, refl, arith}
use mathlib.Core.List.{IsPrefix}
use Rattle.gw_policy.specs.Batches.{Pair}
use Rattle.gw_board.proofs.Callers.{prefix_trans}
use Rattle.gw_ports.proofs.Settling.{settled, renewed}
use Rattle.gw_ports.proofs.port_in.PortIn.settle.Goals as goal

-- A reading is no shorter than what was learnt, so one that is as long as what was published is just that.
pub returns-clause-settled : goal.returns-clause-settled
returns-clause-settled c =
    let published = c.args.published.now.batches in
    let read = c.with.new.self.batches in
    let size : length read ≡ length published = omega arith in
    let s =
    settled c.self.inside.watch.batches c.learn.new.self.batches read published c.learn.ensures.kept c.learn.ensures.told
    c.in_ok-with.ensures.read.0 size in
    let known : c.self.inside.watch.batches ≡ c.args.self.now.known = ap (λ a. a.known) c.self.view_is in
    let board : c.with.new.self.board ≡ c.self.inside.watch.board = c.with.ensures.board ∙ c.learn.ensures.board in (
      renewed _ _ c.with.new.self.board read published c.self.view_is board s.0,
      subst (λ (l : List (List Pair)). IsPrefix l published) known s.1,
    )

-- A longer reading is known all the same.
pub returns-then-len-clause-more : goal.returns-then-len-clause-more
returns-then-len-clause-more c =
    let read = c.with.new.self.batches in
    let before = c.self.inside.watch.batches in
    let later : IsPrefix before read = prefix_trans before c.learn.new.self.batches read c.learn.ensures.kept
    c.in_ok-with.ensures.read.0 in
    let known : before ≡ c.args.self.now.known = ap (λ a. a.known) c.self.view_is in
    let board : c.with.new.self.board ≡ c.self.inside.watch.board = c.with.ensures.board ∙ c.learn.ensures.board in (
      renewed _ _ c.with.new.self.board read read c.self.view_is board refl,
      subst (λ (l : List (List Pair)). IsPrefix l read) known later,
    )
