use Rattle.std.proofs.Common.{◌+◌, ◌++◌, ◌∷◌, [], List, arith, subst, sym, take}
use Rattle.std.proofs.lemmas.Result.{err_from_is_err_and}
use Rattle.gw_run.specs.PortInputs.{AreNew}
use Rattle.gw_run.specs.declared.port_input.PortInput.{PortInput}
use Rattle.gw_run.proofs.FirstRefusals.{known_new, new_known, new_more, refused_before, refused_there}
use Rattle.gw_run.proofs.inputs.open_inputs.Goals as goal

pub returns-in_err-finish_inputs-in-Err-clause-refused : goal.returns-in_err-finish_inputs-in-Err-clause-refused
returns-in_err-finish_inputs-in-Err-clause-refused g c =
    let files = take c.loop-port.port c.args.files.now in
    let inputs = c.loop-port.inputs.items in
    let fault = err_from_is_err_and c.from_residual-in_err-finish_inputs-in-Err.result
    c.from_residual-in_err-finish_inputs-in-Err.ensures.1 in
    rw (fault.1, fault.2)
    (refused_before c.args.files.now c.loop-port.port inputs c.in_err-finish_inputs-in-Err.field-0.0
    (c.in_err-finish_inputs-in-Err.ensures.refused (new_known files)
    (known_new g.R.File.Read.remaining files inputs c.loop-port.invariant)))

pub returns-in-Err-clause-refused : goal.returns-in-Err-clause-refused
returns-in-Err-clause-refused g c =
    let files = take c.loop-port.port c.args.files.now in
    let inputs = c.loop-port.inputs.items in
    refused_there c.args.files.now c.loop-port.port inputs c.in-Err.refusal
    (let below = c.loop-port-test.true in omega arith)
    (c.in_ok-finish_inputs-in-Err.ensures.finished (new_known files)
    (known_new g.R.File.Read.remaining files inputs c.loop-port.invariant))
    c.in-Err.ensures.refused

pub loop-port-preserved : goal.loop-port-preserved
loop-port-preserved g c =
    let files = c.args.files.now in
    let n = c.loop-port.port in
    subst (AreNew g.R.File.Read.remaining (take (n + 1) files)) {x = c.loop-port.inputs.items ++ c.in-Ok.input ∷ []}
    (sym {A = List (PortInput g.row.R-File.Denot)} c.in_ok-push-in-Ok.ensures.items)
    (new_more g.R.File.Read.remaining files n c.loop-port.inputs.items c.in-Ok.input
    (let below = c.loop-port-test.true in omega arith) c.in-Ok.ensures.input c.loop-port.invariant)
