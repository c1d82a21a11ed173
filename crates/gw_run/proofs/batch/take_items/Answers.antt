use Rattle.std.proofs.Common.{◌≤◌, ◌^◌, ◌++◌, ◌∙◌, List, ap, arith, length, subst, sym, take}
use Rattle.std.proofs.lemmas.List.{length-take}
use Rattle.rtrb.specs.Fifo.{Allowed}
use Rattle.rtrb.specs.Ring.{received}
use Rattle.gw_run.specs.Dealt.{Dealt, MayFollow}
use Rattle.gw_run.proofs.Batches.{bounded}
use Rattle.gw_run.proofs.batch.take_items.Goals as goal

pub returns-then-count-gt0-clause-few : goal.returns-then-count-gt0-clause-few
returns-then-count-gt0-clause-few g c =
    let taken = c.pop_partial_slice-count in
    let count = length-take taken.result taken.new.slice in
    subst (λ (l : List Dealt). length l ≤ 2 ^ 64)
    (sym (taken.ensures.received.1 ∙ ap (λ (l : List Dealt). l ++ take taken.result taken.new.slice) c.loop.invariant.1))
    (bounded (received c.args.ring.now) (take taken.result taken.new.slice)
    (omega (arith, count, taken.auto.slice, taken.ensures.received.0, c.if-count-gt0.true))
    (subst (λ (l : List Dealt). Allowed MayFollow l (take taken.result taken.new.slice)) c.loop.invariant.1
    taken.ensures.allowed))
