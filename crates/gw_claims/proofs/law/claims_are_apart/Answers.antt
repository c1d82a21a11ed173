use Rattle.gw_claims.proofs.Apart.{apart_after}
use Rattle.gw_claims.proofs.law.claims_are_apart.Goals as goal

pub returns : goal.returns
returns c = apart_after
