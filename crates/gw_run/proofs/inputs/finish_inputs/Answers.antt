use Rattle.std.proofs.Common.{subst, sym}
use Rattle.std.proofs.lemmas.Result.{err_from_is_err_and}
use Rattle.std.specs.Vec.Iter.{into_iter_items}
use Rattle.gw_run.proofs.ListRuns.{none_left}
use Rattle.gw_run.proofs.FirstRefusals.{IsFinishedTo, all_finished_to, finished_more, none_finished, refused_more}
use Rattle.gw_run.proofs.inputs.finish_inputs.Goals as goal

pub loop-input-init : goal.loop-input-init
loop-input-init g c = λ known are.
    subst (λ rest. IsFinishedTo g.R.Read.remaining known c.args.inputs.items rest)
    (sym c.into_iter-input-iterator.ensures.into_iter_gives.0)
    (none_finished g.R.Read.remaining known c.args.inputs.items are)

pub loop-input-preserved : goal.loop-input-preserved
loop-input-preserved g c = λ known are.
    finished_more g.R.Read.remaining known c.args.inputs.items c.in-Some.input (into_iter_items c.next.new.self)
    (subst (λ rest. IsFinishedTo g.R.Read.remaining known c.args.inputs.items rest) c.in-Some.ensures.steps.0
    (c.loop-input.invariant known are))
    (λ one has.
    let ended = c.in_ok-finish.ensures one.file one.given has in
    record { left = ended.0; found = ended.1.0; is_found = ended.1.1; frames = ended.1.2; spent = ended.2 })

pub returns-clause-finished : goal.returns-clause-finished
returns-clause-finished g c = λ known are.
    all_finished_to g.R.Read.remaining known c.args.inputs.items (into_iter_items c.loop-input.input-iterator)
    (none_left c.loop-input.input-iterator c.in-None.ensures.steps.0) (c.loop-input.invariant known are)

pub returns-in_err-finish-clause-refused : goal.returns-in_err-finish-clause-refused
returns-in_err-finish-clause-refused g c = λ known are.
    let fault = err_from_is_err_and c.from_residual.result c.from_residual.ensures.1 in
    rw (fault.1, fault.2)
    (refused_more g.R.Read.remaining known c.args.inputs.items c.in-Some.input (into_iter_items c.next.new.self)
    c.in_err-finish.field-0.0
    (subst (λ rest. IsFinishedTo g.R.Read.remaining known c.args.inputs.items rest) c.in-Some.ensures.steps.0
    (c.loop-input.invariant known are))
    (λ one has. (c.in_err-finish.ensures one.file one.given has).1))
