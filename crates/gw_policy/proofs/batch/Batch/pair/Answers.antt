use Rattle.std.proofs.Common.{sym, ◌∙◌, ap}
use Rattle.std.specs.Prelude.{is_some, option_map}
use Rattle.std.specs.List.{list_all}
use Rattle.std.specs.Option.{option_and_then}
use Rattle.gw_policy.specs.Batches.{pair_of, pairs_of}
use Rattle.gw_policy.proofs.PairLists.{pair_found}
use Rattle.gw_policy.proofs.batch.Batch.pair.Goals as goal

pub returns-in_default : goal.returns-in_default
returns-in_default c =
    let items = c.as_slice.ensures.value in
    sym (ap (λ found. option_and_then pair_of (option_map (λ held. held.now) found)) c.in_default.is)
    ∙ pair_found (λ held. held.now) c.as_slice.result.now c.args.self.now c.args.index c.get.result (ap (list_all is_some) items
    ∙ c.self.invariant) (ap pairs_of items ∙ c.self.view_is) c.get.ensures.lookup

pub returns-in-Some-held : goal.returns-in-Some-held
returns-in-Some-held c =
    let items = c.as_slice.ensures.value in
    sym (ap (λ found. option_and_then pair_of (option_map (λ held. held.now) found)) c.in-Some.is ∙ ap pair_of c.in-Some-held.is)
    ∙ pair_found (λ held. held.now) c.as_slice.result.now c.args.self.now c.args.index c.get.result (ap (list_all is_some) items
    ∙ c.self.invariant) (ap pairs_of items ∙ c.self.view_is) c.get.ensures.lookup
