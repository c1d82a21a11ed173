use Rattle.std.proofs.Common.{◌≡◌, ◌∙◌, ◌<◌, ◌++◌, ℕ, List, Vec, Global, ap, subst, sym, drop, length, slice_index_or, arith, []}
use Rattle.gw_judge.specs.Interfaces.{port_named}
use Rattle.gw_run.specs.Logs.{taken_at}
use Rattle.gw_run.proofs.LogLines.{lists_of_all}
use Rattle.gw_run.proofs.log.named_lists.Goals as goal

pub returns-clause-frames : goal.returns-clause-frames
returns-clause-frames c =
    let count = c.in_ok-lists.ensures.ports in
    let same = c.in_ok-take_log.ensures.ports in
    let len = c.as_mut_slice.ensures.len in
    lists_of_all (port_named c.args.names.now) c.args.ports c.in_ok-lists.lists.len c.args.log.now c.take_log.new.lists
    (drop (length c.take_log.new.lists) c.in_ok-lists.lists.items) count (same ∙ len ∙ count)
    (λ k d below.
    let there : k < length c.as_mut_slice.result.now = omega arith in
    let taken = c.in_ok-take_log.ensures.taken k d there in
    let empty = c.in_ok-lists.ensures.empty k d below in
    let begun : (slice_index_or c.as_mut_slice.result.now k d).items ≡ [] =
    subst (λ (lists : List (Vec (List ℕ) Global)). (slice_index_or lists k d).items ≡ [])
    (sym c.as_mut_slice.ensures.value) empty in
    taken ∙ ap (λ front. front ++ taken_at (port_named c.args.names.now) k c.args.log.now) begun)
