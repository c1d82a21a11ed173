use Rattle.std.proofs.Common.{arith, option_map}
use Rattle.gw_insn.specs.Form.{form}
use Rattle.gw_verify.specs.Flow.{forms_of}
use Rattle.gw_verify.proofs.Decoding.{form_at, length_forms}
use Rattle.gw_verify.proofs.Faults.{own_more}
use Rattle.gw_verify.proofs.checks.first_own_fault.Goals as goal

pub loop-place-preserved : goal.loop-place-preserved
loop-place-preserved c =
    let code = c.args.code.now in
    let at = form_at code c.loop-place.place _ _ (omega arith) c.decode.ensures.table in
    own_more (forms_of code) c.loop-place.place (option_map form c.decode.result) at
    (rw (length_forms code) c.in_default.ensures.none) c.loop-place.invariant

pub returns-in-Some-clause-some : goal.returns-in-Some-clause-some
returns-in-Some-clause-some c =
    let code = c.args.code.now in
    let found = option_map form c.decode.result in
    let at = form_at code c.loop-place.place _ _ (omega arith) c.decode.ensures.table in
    let len = length_forms code in
    (record { found = found; here = at; fault = rw len c.in-Some.ensures.some }, c.loop-place.invariant)
