use Rattle.std.proofs.Common.{◌∙◌, rules}
use Rattle.std.proofs.lemmas.Result.{MatchResult-weaker}
use Rattle.gw_policy.proofs.PairLists.{pairs_copied}
use Rattle.gw_policy.proofs.batch.Batch.copies.Goals as goal

pub returns : goal.returns
returns c =
    MatchResult-weaker c.clone.result c.clone.ensures.cases (λ copies all. pairs_copied _ c.self.inside.pairs.items copies.items
    (λ x y same. search rules) all ∙ c.self.view_is) (λ _ _. tt)
