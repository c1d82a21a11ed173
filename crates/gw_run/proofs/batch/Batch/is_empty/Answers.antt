use Rattle.std.proofs.Common.{◌<◌, ◌≡◌, [], List, MatchBool, length, nat_eq, subst}
use Rattle.gw_run.specs.Dealt.{Dealt}
use Rattle.gw_run.proofs.Batches.{given_all}
use Rattle.gw_run.proofs.batch.Batch.is_empty.Goals as goal

pub returns : goal.returns
returns c =
    subst (λ (l : List Dealt). MatchBool (nat_eq c.self.inside.given c.self.inside.count) (l ≡ []) (0 < length l)) c.self.view_is
    (given_all c.self.inside.items c.self.inside.given c.self.inside.count c.self.invariant.0 c.self.invariant.1)
