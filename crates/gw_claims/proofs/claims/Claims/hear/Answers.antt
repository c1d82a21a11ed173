use Rattle.std.proofs.Common.{List}
use Rattle.gw_claims.specs.Claims.{Claim, is_claim, claimed_address, claimed_name, claims_with, claims_after}
use Rattle.gw_claims.specs.Holders.{IsTableOf}
use Rattle.gw_claims.proofs.Tables.{record_followed}
use Rattle.gw_claims.proofs.claims.Claims.hear.Goals as goal
use Rattle.gw_claims.proofs.claims.Claims.hear.Goals.{After-claim}

followed : (c : After-claim) (claims : List Claim) → IsTableOf c.args.self.now claims
    → IsTableOf c.claim.new.self (claims_with c.args.frame.now claims)
followed c claims t =
    record_followed c.claim.new.self claims (is_claim c.args.frame.now)
    (claimed_address c.args.frame.now) (claimed_name c.args.frame.now)
    c.in-Some.claim c.in-Some.ensures (c.claim.ensures claims t)

pub returns-in-Some-clause-heard : goal.returns-in-Some-clause-heard
returns-in-Some-clause-heard c = λ heard t. followed c (claims_after heard) t

pub returns-in-Some-clause-step : goal.returns-in-Some-clause-step
returns-in-Some-clause-step c = followed c
