use Rattle.std.proofs.Common.{◌-◌, length, arith}
use Rattle.gw_insn.specs.Form.{form}
use Rattle.gw_verify.specs.Flow.{forms_of}
use Rattle.gw_verify.proofs.Decoding.{form_at, length_forms}
use Rattle.gw_verify.proofs.Faults.{ends_by, ends_unknown}
use Rattle.gw_verify.proofs.checks.ends_in_return.Goals as goal

pub returns-in-Some : goal.returns-in-Some
returns-in-Some c =
    let code = c.args.code.now in
    let len = length_forms code in
    let at = form_at code (length code - 1) _ _ (omega arith) c.in-Some.ensures.table in
    ends_by (forms_of code) (length code - 1) (form c.in-Some.insn) c.is_return.result (omega arith) at
    c.is_return.ensures

pub returns-in-None : goal.returns-in-None
returns-in-None c =
    let code = c.args.code.now in
    let len = length_forms code in
    let at = form_at code (length code - 1) _ _ (omega arith) c.in-None.ensures.table in
    ends_unknown (forms_of code) (length code - 1) (omega arith) at
