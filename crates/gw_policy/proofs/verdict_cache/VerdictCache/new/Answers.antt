use Rattle.std.proofs.lemmas.List.Elements.{All-replicate}
use Rattle.gw_policy.specs.Cached.{Tells}
use Rattle.gw_policy.proofs.verdict_cache.VerdictCache.new.Goals as goal

pub returns : goal.returns
returns c = λ set. All-replicate (Tells set) 1024 c.none.result (λ frame is same. c.none.ensures set frame c.none.result.from)
