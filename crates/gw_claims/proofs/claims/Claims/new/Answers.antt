use Rattle.std.proofs.Common.{refl}
use Rattle.gw_claims.proofs.Tables.{nobody, nobody_twice, empty_table}
use Rattle.gw_claims.proofs.claims.Claims.new.Goals as goal

pub invariant_of-result : goal.invariant_of-result
invariant_of-result c = record { addresses = refl; one_each = nobody_twice 254 }

pub returns-clause-empty : goal.returns-clause-empty
returns-clause-empty c = nobody 254

pub returns-clause-start : goal.returns-clause-start
returns-clause-start c = empty_table
