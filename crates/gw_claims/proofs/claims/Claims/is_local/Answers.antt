use Rattle.std.proofs.Common.{◌≡◌, List, Some, sym, ◌∙◌, ap}
use Rattle.std.specs.Option.{is_some}
use Rattle.gw_ident.specs.Identifier.{is_extended_data, is_pdu1, pdu_specific, destination}
use Rattle.gw_frame.specs.Record.{word_of}
use Rattle.gw_claims.specs.Claims.{Claim, is_local_among, claims_after}
use Rattle.gw_claims.specs.Holders.{IsTableOf}
use Rattle.gw_claims.proofs.Tables.{local_where}
use Rattle.gw_claims.proofs.claims.Claims.is_local.Goals as goal
use Rattle.gw_claims.proofs.claims.Claims.is_local.Goals.{After-is_some}

local : (c : After-is_some) (claims : List Claim) → IsTableOf c.args.self.now claims
    → c.is_some.result ≡ is_local_among claims c.args.frame.now
local c claims t =
    let word = word_of c.args.frame.now in
    let goes_to : destination word ≡ Some c.in-Some.address = ap destination (sym c.id.ensures) ∙ sym c.in-Some.ensures in
    c.is_some.ensures ∙ ap is_some c.holder.ensures.holder
    ∙ local_where c.args.self.now claims t (is_extended_data word) (is_pdu1 word) (pdu_specific word) c.in-Some.address goes_to
    (λ high. sym c.holder.ensures.holder ∙ c.holder.ensures.above high)

pub returns-clause-heard : goal.returns-clause-heard
returns-clause-heard c = λ heard. local c (claims_after heard)

pub returns-clause-step : goal.returns-clause-step
returns-clause-step c = local c
