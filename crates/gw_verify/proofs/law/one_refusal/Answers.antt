use Rattle.gw_verify.proofs.Refusals.{one_refusal_of}
use Rattle.gw_verify.proofs.law.one_refusal.Goals as goal

pub returns : goal.returns
returns c = λ forms cause other i j r s. one_refusal_of forms cause other i j r s
