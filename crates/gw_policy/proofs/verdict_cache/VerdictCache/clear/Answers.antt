use Rattle.std.proofs.lemmas.List.Elements.{All-replicate}
use Rattle.gw_policy.specs.Cached.{Tells}
use Rattle.gw_policy.proofs.verdict_cache.VerdictCache.clear.Goals as goal

pub returns : goal.returns
returns c = λ set. let none = c.none-places.result in
    All-replicate (Tells set) 1024 none (λ frame is same. c.none-places.ensures set frame none.from)
