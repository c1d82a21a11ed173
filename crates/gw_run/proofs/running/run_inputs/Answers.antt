use Rattle.std.proofs.Common.{◌≡◌, ◌⊎◌, List, Option, ap, subst, sym}
use Rattle.std.proofs.lemmas.Result.{IfErr-weaker, IfOk-weaker}
use Rattle.gw_ports.specs.declared.closing.Report.{Report}
use Rattle.gw_ports.specs.declared.refusals.OfferRefusal.{OfferRefusal}
use Rattle.gw_answers.specs.declared.refusal.Refusal.TheVariants.{OutOfMemory}
use Rattle.gw_run.specs.declared.refusal.ForwardRefusal.TheVariants.{Command}
use Rattle.gw_run.specs.Forwarding.{IsRunOver, IsStopOf}
use Rattle.gw_run.proofs.Forwards.{both_ok, kept_run, stop_refuses}
use Rattle.gw_run.proofs.running.run_inputs.Goals as goal

pub returns-clause-ran : goal.returns-clause-ran
returns-clause-ran g c =
    let is = c.in_ok-ended.ensures.ran in
    let ended = c.in_ok-ended.ended in
    IfOk-weaker c.unstopped.result _ _
    (λ kept whole.
    kept_run c.args.limits.ports (IsRunOver g.I.Iterator.next_gives c.args.limits c.args.first c.args.inputs.items)
    g.G.Gate.waits is.ran kept ended.report.ins ended.stops.items whole.0 whole.1
    (ap (λ (r : Report). r.ins.items) is.told.1) is.told.0 (ended.inputs.items, is.is_run) is.none_lost)
    (both_ok c.unstopped.result _ _ c.unstopped.ensures.ledgers
    (c.unstopped.ensures.lanes c.args.limits c.args.first is.ran is.few (sym is.told.1) is.counted))

pub returns-clause-refused : goal.returns-clause-refused
returns-clause-refused g c =
    let is = c.in_ok-ended.ensures.ran in
    let ended = c.in_ok-ended.ended in
    IfErr-weaker c.unstopped.result _ _
    (λ refusal stop.
    stop_refuses (IsRunOver g.I.Iterator.next_gives c.args.limits c.args.first c.args.inputs.items) c.args.limits c.args.first
    is.ran refusal (ended.inputs.items, is.is_run)
    (subst (λ (l : List (Option OfferRefusal)). IsStopOf l refusal ⊎ (refusal ≡ Command OutOfMemory)) is.told.0 stop))
    c.unstopped.ensures.stopped
