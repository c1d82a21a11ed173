use Rattle.std.proofs.Common.{◌∙◌, ap, rules, tests}
use Rattle.std.proofs.lemmas.Iterator.{YieldsList-from_slice}
use Rattle.std.proofs.lemmas.Iterator.Search.{any_from_yields_List}
use Rattle.gw_policy.specs.Batches.{names_port}
use Rattle.gw_policy.proofs.PairLists.{is_for, names_any}
use Rattle.gw_policy.proofs.batch.Batch.names.Goals as goal

pub returns : goal.returns
returns c =
    any_from_yields_List (is_for c.args.port) _ _ _ c.any.ensures.ran (YieldsList-from_slice c.self.inside.pairs.items cc)
    (λ x b q k. search (rules, tests))
    ∙ names_any c.args.port c.self.inside.pairs.items ∙ ap (names_port c.args.port) c.self.view_is
