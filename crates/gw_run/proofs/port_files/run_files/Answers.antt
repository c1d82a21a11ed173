use Rattle.std.proofs.Common.{◌≡◌, ◌⊎◌, [], List, Option, ap, append-nil, map, inl, inr, subst, sym, ◌∙◌}
use Rattle.std.proofs.lemmas.Result.{IfErr-weaker, IfOk-weaker, err_from_is_err_and}
use Rattle.gw_ports.specs.declared.closing.Report.{Report}
use Rattle.gw_ports.specs.declared.refusals.OfferRefusal.{OfferRefusal}
use Rattle.gw_answers.specs.declared.refusal.Refusal.TheVariants.{OutOfMemory}
use Rattle.gw_run.specs.declared.refusal.ForwardRefusal.TheVariants.{Command}
use Rattle.gw_run.specs.Forwarding.{IsListRun, IsStopOf}
use Rattle.gw_run.specs.PortInputs.{RefusesFiles}
use Rattle.gw_run.proofs.Forwards.{both_ok, kept_run, stop_refuses}
use Rattle.gw_run.proofs.FirstRefusals.{refused_finished}
use Rattle.gw_run.proofs.PortInputs.{ended_run, files_known, files_refused, known_after, run_refused}
use Rattle.gw_run.proofs.port_files.run_files.Goals as goal

pub returns-clause-ran : goal.returns-clause-ran
returns-clause-ran g c = λ files new.
    let is = c.in_ok-ended.ensures.ran in
    let ended = c.in_ok-ended.ended in
    let run =
    ended_run g.I.Read.remaining c.args.limits c.args.first files c.args.inputs.items g.G.Gate.waits ended is new
    c.in_ok-finish_inputs.ensures.finished in
    IfOk-weaker c.unstopped.result _ _
    (λ kept whole. (
      run.0,
      run.1,
      run.2,
      run.3,
      kept_run c.args.limits.ports (IsListRun c.args.limits c.args.first run.1) g.G.Gate.waits is.ran kept ended.report.ins
          ended.stops.items whole.0 whole.1 (ap (λ (r : Report). r.ins.items) is.told.1) is.told.0 run.4 is.none_lost,
    ))
    (both_ok c.unstopped.result _ _ c.unstopped.ensures.ledgers
    (c.unstopped.ensures.lanes c.args.limits c.args.first is.ran is.few (sym is.told.1) is.counted))

pub returns-clause-refused : goal.returns-clause-refused
returns-clause-refused g c = λ files new.
    let is = c.in_ok-ended.ensures.ran in
    let ended = c.in_ok-ended.ended in
    let run =
    ended_run g.I.Read.remaining c.args.limits c.args.first files c.args.inputs.items g.G.Gate.waits ended is new
    c.in_ok-finish_inputs.ensures.finished in
    IfErr-weaker c.unstopped.result _ _
    (λ refusal stop. (
      run.0,
      run.2,
      inr (inl (
        run.1,
        run.3,
        stop_refuses (IsListRun c.args.limits c.args.first run.1) c.args.limits c.args.first is.ran refusal run.4
            (subst (λ (l : List (Option OfferRefusal)). IsStopOf l refusal ⊎ (refusal ≡ Command OutOfMemory)) is.told.0 stop),
      )),
    ))
    c.unstopped.ensures.stopped

pub returns-in_err-ended-clause-refused : goal.returns-in_err-ended-clause-refused
returns-in_err-ended-clause-refused g c = λ files new.
    let fault = err_from_is_err_and c.from_residual.result c.from_residual.ensures.1 in
    rw (fault.1, fault.2)
    (run_refused g.I.Read.remaining c.args.limits c.args.first files c.args.inputs.items c.in_err-ended.field-0.0 new
    c.in_err-ended.ensures.refused)

pub returns-in_err-finish_inputs-clause-refused : goal.returns-in_err-finish_inputs-clause-refused
returns-in_err-finish_inputs-clause-refused g c = λ files new.
    let is = c.in_ok-ended.ensures.ran in
    let rests = c.in_ok-ended.ended.inputs.items in
    let steps = g.I.Read.remaining in
    let after = known_after steps files is.is_run.feeds is.is_run.done is.is_run.offered in
    let known = files_known steps c.args.limits c.args.first files c.args.inputs.items rests is.ran is.is_run new in
    let refusal = c.in_err-finish_inputs.field-0.0 in
    let fault = err_from_is_err_and c.from_residual-in_err-finish_inputs.result
    c.from_residual-in_err-finish_inputs.ensures.1 in
    rw (fault.1, fault.2)
    (files_refused c.args.limits c.args.first files refusal
    (subst (λ l. RefusesFiles l refusal) (append-nil (map (λ one. one.file) after) ∙ known.1)
    (refused_finished after rests [] refusal (c.in_err-finish_inputs.ensures.refused after known.0))))
