use Rattle.std.proofs.Common.{◌≡◌, ◌<◌, ◌⊎◌, ◌∙◌, List, Option, ap, inr, length, slice_index_or, subst, sym}
use Rattle.std.proofs.lemmas.Result.{IfErr-weaker, IfOk-weaker, err_from_is_err_and}
use Rattle.gw_io.specs.Tries.{has_failed, inner_of, unended_reads}
use Rattle.gw_ports.specs.declared.closing.Report.{Report}
use Rattle.gw_ports.specs.declared.refusals.OfferRefusal.{OfferRefusal}
use Rattle.gw_answers.specs.declared.refusal.Refusal.TheVariants.{OutOfMemory}
use Rattle.gw_run.specs.Dealing.{AreFronts}
use Rattle.gw_run.specs.Dealt.{Putting, Taken}
use Rattle.gw_run.specs.Forwarding.{IsRunOf, IsRunOn, IsStopOf}
use Rattle.gw_run.specs.declared.refusal.ForwardRefusal.TheVariants.{Command}
use Rattle.gw_run.specs.declared.taking.Taking.TheVariants.{InTurn}
use Rattle.gw_run.proofs.DealtForwards.{end_of, end_refuses, whole_rings, whole_run}
use Rattle.gw_run.proofs.Forwards.{both_ok, kept_run, stop_refuses}
use Rattle.gw_run.proofs.dealt_run.run_dealt.Goals as goal

pub returns-in_err-dealer-clause-refused : goal.returns-in_err-dealer-clause-refused
returns-in_err-dealer-clause-refused g c =
    let fault = err_from_is_err_and c.from_residual-in_err-dealer.result c.from_residual-in_err-dealer.ensures.1 in
    let after = c.deal_and_run-end.new.reader in
    rw (fault.1, fault.2)
    (end_refuses _ g.G.Gate.waits (g.I.Read.remaining (inner_of c.args.reader.now)) (g.I.Read.remaining (inner_of after))
    (has_failed after) (unended_reads c.args.reader.now after) c.deal_and_run-end.result c.in_err-dealer.field-0.0
    c.deal_and_run-end.ensures c.in_err-dealer.ensures)

pub compare_all-requires-clause-rings : goal.compare_all-requires-clause-rings
compare_all-requires-clause-rings g c k d e below =
    let after = c.deal_and_run-end.new.reader in
    let whole = c.in_ok-dealer.field-0 in
    let is =
    end_of _ g.G.Gate.waits (g.I.Read.remaining (inner_of c.args.reader.now)) (g.I.Read.remaining (inner_of after))
    (has_failed after) (unended_reads c.args.reader.now after) c.deal_and_run-end.result whole c.deal_and_run-end.ensures
    c.in_ok-dealer.ensures in
    let outs = c.deref_mut.ensures.value in
    ap (λ (l : List Putting). (slice_index_or l k e).ring) c.deref_mut-2.ensures.value
    ∙ whole_rings _ g.G.Gate.waits (g.I.Read.remaining (inner_of c.args.reader.now)) (g.I.Read.remaining (inner_of after))
    (has_failed after) whole is k d e (subst (λ (l : List Taken). k < length l) outs below)
    ∙ sym (ap (λ (l : List Taken). (slice_index_or l k d).ring) outs)

pub returns-clause-ran : goal.returns-clause-ran
returns-clause-ran g c =
    let after = c.deal_and_run-end.new.reader in
    let whole = c.in_ok-dealer.field-0 in
    let is =
    end_of _ g.G.Gate.waits (g.I.Read.remaining (inner_of c.args.reader.now)) (g.I.Read.remaining (inner_of after))
    (has_failed after) (unended_reads c.args.reader.now after) c.deal_and_run-end.result whole c.deal_and_run-end.ensures
    c.in_ok-dealer.ensures in
    let ran = is.ran in
    let run =
    whole_run _ g.G.Gate.waits (g.I.Read.remaining (inner_of c.args.reader.now)) (g.I.Read.remaining (inner_of after))
    (has_failed after) whole is
    (subst (λ (l : List Taken). AreFronts l whole.dealer.ports.items) c.deref_mut.ensures.value
    (subst (λ (l : List Putting). AreFronts c.deref_mut.result.now l) c.deref_mut-2.ensures.value c.compare_all.ensures)) in
    IfOk-weaker c.unstopped.result _ _
    (λ kept told. (
      is.read.octets,
      is.read.input,
      kept_run c.args.limits.ports (IsRunOf InTurn c.args.limits c.args.first is.read.octets) g.G.Gate.waits ran.ran kept
          whole.ended.report.ins whole.ended.stops.items told.0 told.1 (ap (λ (r : Report). r.ins.items) ran.told.1) ran.told.0
          run ran.none_lost,
    ))
    (both_ok c.unstopped.result _ _ c.unstopped.ensures.ledgers
    (c.unstopped.ensures.lanes c.args.limits c.args.first ran.ran ran.few (sym ran.told.1) ran.counted))

pub returns-clause-refused : goal.returns-clause-refused
returns-clause-refused g c =
    let after = c.deal_and_run-end.new.reader in
    let whole = c.in_ok-dealer.field-0 in
    let is =
    end_of _ g.G.Gate.waits (g.I.Read.remaining (inner_of c.args.reader.now)) (g.I.Read.remaining (inner_of after))
    (has_failed after) (unended_reads c.args.reader.now after) c.deal_and_run-end.result whole c.deal_and_run-end.ensures
    c.in_ok-dealer.ensures in
    let ran = is.ran in
    let run =
    whole_run _ g.G.Gate.waits (g.I.Read.remaining (inner_of c.args.reader.now)) (g.I.Read.remaining (inner_of after))
    (has_failed after) whole is
    (subst (λ (l : List Taken). AreFronts l whole.dealer.ports.items) c.deref_mut.ensures.value
    (subst (λ (l : List Putting). AreFronts c.deref_mut.result.now l) c.deref_mut-2.ensures.value c.compare_all.ensures)) in
    IfErr-weaker c.unstopped.result _ _
    (λ refusal stop.
    inr (
      is.read.octets,
      is.read.input,
      inr (
        run.0,
        run.1,
        stop_refuses (IsRunOn c.args.limits c.args.first run.0) c.args.limits c.args.first ran.ran refusal run.2
            (subst (λ (l : List (Option OfferRefusal)). IsStopOf l refusal ⊎ (refusal ≡ Command OutOfMemory)) ran.told.0 stop),
      ),
    ))
    c.unstopped.ensures.stopped
