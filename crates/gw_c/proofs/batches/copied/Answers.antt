use Rattle.std.proofs.Common.{rules, ◌≡◌, ◌∷◌, [], ◌++◌, take, Some, sym, ap, ◌∙◌}
use Rattle.std.specs.Prelude.{slice_get}
use Rattle.std.proofs.lemmas.List.{take_more}
use Rattle.std.proofs.lemmas.Option.{slice_get_within, get_or_from_slice_get}
use Rattle.gw_policy.specs.Batches.{Pair}
use Rattle.gw_c.proofs.batches.copied.Goals as goal

pub loop-index-preserved : goal.loop-index-preserved
loop-index-preserved c =
    let batch = c.args.batch.now in let index = c.loop-index.index in
    let pair : Pair = record { port = c.in-Some.port; policy = c.in-Some.policy.now.value } in
    let at : slice_get batch index ≡ Some pair = search rules in
    c.add.ensures.added (search rules)
    ∙ ap (λ copy. copy ++ pair ∷ []) c.loop-index.invariant
    ∙ ap (λ next. take index batch ++ next ∷ []) (sym (get_or_from_slice_get batch index pair pair at))
    ∙ sym (take_more batch index pair (slice_get_within batch index pair at))
