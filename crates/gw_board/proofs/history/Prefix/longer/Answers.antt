use Rattle.std.proofs.Common.{◌≡◌, ◌≤◌, ap, sym, ◌∙◌, subst, arith, length, List}
use mathlib.Core.List.{IsPrefix}
use Rattle.gw_policy.specs.Batches.{Pair}
use Rattle.gw_board.proofs.Prefixes.{prefix_shorter, prefix_as}
use Rattle.gw_board.proofs.history.Prefix.longer.Goals as goal

-- Both begin the list that is learnt from both, so the shorter begins the longer.

pub returns-then-self-other-clause-this : goal.returns-then-self-other-clause-this
returns-then-self-other-clause-this c =
    let mine = c.self.inside.seen.log in
    let theirs = c.other.inside.seen.log in
    let both = c.learn.new.self.log in
    let this : IsPrefix mine both =
    subst (λ (l : List (List Pair)). IsPrefix l both) (ap (λ s. s.log) c.again-both.ensures) c.learn.ensures.2 in
    let less : length mine ≤ length theirs = omega (arith, c.self.invariant.0, c.other.invariant.0) in
    let shown : mine ≡ c.args.self.now.batches = ap (λ k. k.batches) c.self.view_is in
    let answered : theirs ≡ c.again.result.batches =
    ap (λ k. k.batches) c.other.view_is ∙ sym (ap (λ k. k.batches) c.again.ensures) in
    prefix_as _ _ _ _ shown answered (prefix_shorter mine theirs both this c.learn.ensures.3 less)

pub returns-clause-that : goal.returns-clause-that
returns-clause-that c =
    let mine = c.self.inside.seen.log in
    let theirs = c.other.inside.seen.log in
    let both = c.learn.new.self.log in
    let this : IsPrefix mine both =
    subst (λ (l : List (List Pair)). IsPrefix l both) (ap (λ s. s.log) c.again-both.ensures) c.learn.ensures.2 in
    let less : length theirs ≤ length mine = omega (arith, c.self.invariant.0, c.other.invariant.0) in
    let shown : theirs ≡ c.args.other.now.batches = ap (λ k. k.batches) c.other.view_is in
    let answered : mine ≡ c.again-else-self-other.result.batches =
    ap (λ k. k.batches) c.self.view_is ∙ sym (ap (λ k. k.batches) c.again-else-self-other.ensures) in
    prefix_as _ _ _ _ shown answered (prefix_shorter theirs mine both c.learn.ensures.3 this less)
