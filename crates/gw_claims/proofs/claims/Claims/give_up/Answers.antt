use Rattle.gw_claims.proofs.Tables.{table_cleared}
use Rattle.gw_claims.proofs.claims.Claims.give_up.Goals as goal

pub invariant_of-self : goal.invariant_of-self
invariant_of-self c = table_cleared c.self.inside.holders c.from.result c.self.invariant
