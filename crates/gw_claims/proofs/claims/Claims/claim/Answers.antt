use Rattle.std.proofs.Common.{refl}
use Rattle.gw_claims.proofs.Tables.{claim_followed, claimed_again}
use Rattle.gw_claims.proofs.claims.Claims.claim.Goals as goal

pub take-requires : goal.take-requires
take-requires c = λ other has. ((c.give_up.ensures.others.others other _).0 has).1 refl

pub returns : goal.returns
returns c = λ claims. claim_followed c.args.self.now c.give_up.new.self c.take.new.self claims c.args.address c.args.name
    c.give_up.ensures.others c.take.ensures c.give_up.ensures.addresses

pub returns-then-is_held_by : goal.returns-then-is_held_by
returns-then-is_held_by c =
    claimed_again c.args.self.now c.args.address c.args.name c.is_held_by.ensures.table
    (c.is_held_by.ensures.held c.if-is_held_by.true)
