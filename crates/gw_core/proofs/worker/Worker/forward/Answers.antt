use Rattle.std.proofs.Common.{◌≡◌, [], List, ℕ, Ok, Bool, true, length, sym, ap, subst, ◌∙◌, arith}
use Rattle.std.proofs.lemmas.Result.{err_from_is_err_and}
use Rattle.std.proofs.lemmas.List.{with_items_is}
use Rattle.gw_ledger.specs.Ledgers.{ledger_with, HasRoom}
use Rattle.gw_ledger.specs.Ports.{IsPartOf}
use Rattle.gw_ledger.specs.declared.ledger.InLedger.{InLedger}
use Rattle.gw_ledger.specs.declared.outcome.Outcome.{Outcome}
use Rattle.gw_core.specs.LaneView.{LaneView}
use Rattle.gw_core.specs.Standing.{Worker, outcome_held}
use Rattle.gw_core.specs.Forwarding.{Admits, AnswersForward, HeardForeign, held_by}
use Rattle.gw_core.proofs.Finishes.{judged_start, forwards_judged, forwards_local, room_heard}
use Rattle.gw_core.proofs.worker.Worker.forward.Goals as goal

pub returns-in_err-local-clause-answers : goal.returns-in_err-local-clause-answers
returns-in_err-local-clause-answers c = λ done s found fronts.
    let p = err_from_is_err_and c.from_residual.result c.from_residual.ensures.1 in
    rw (p.1, p.2) (c.in_err-local.ensures.answers c.args.batches.now done s fronts)

pub returns-then-local-clause-answers : goal.returns-then-local-clause-answers
returns-then-local-clause-answers c = λ done s found fronts.
    let all = c.args.batches.now in
    let v = c.args.self.now in
    let told = subst (λ b. Admits all v (Ok b) c.admit.new.self done c.args.frame c.args.front) c.if-local.true
    (c.in_ok-local.ensures.answers all done s fronts) in
    let taken : c.self.inside.taken ≡ v.taken = ap (λ (w : Worker). w.taken) c.self.view_is in
    let F : ℕ → Bool → List ℕ → List ℕ → Type 0 = λ n local allowed placed.
    AnswersForward all v (Ok (record { number = n; front = c.args.front; local = local; allowed = allowed; placed = placed }))
    c.admit.new.self done c.args.frame in
    subst (λ n. F n c.in_ok-local.local c.new.result c.new-then-local.result) (sym taken)
    (subst (λ b. F v.taken b c.new.result c.new-then-local.result) (sym c.if-local.true)
    (subst (λ x. F v.taken true x c.new-then-local.result) (sym c.new.ensures)
    (subst (λ x. F v.taken true [] x) (sym c.new-then-local.ensures)
    (forwards_local all v c.admit.new.self done c.args.frame c.args.front told))))

pub judge_all-requires : goal.judge_all-requires
judge_all-requires c =
    let s = c.requires.stands in
    let heard : HeardForeign c.args.self.now c.admit.new.self c.requires.done c.args.frame =
    subst (λ b. Admits c.args.batches.now c.args.self.now (Ok b) c.admit.new.self c.requires.done c.args.frame c.args.front)
    c.if-local.false (c.in_ok-local.ensures.answers c.args.batches.now c.requires.done s c.requires.published) in
    let lanes : c.self-2.inside.lanes.items ≡ c.args.self.now.lanes =
    ap (λ (w : Worker). w.lanes) (c.self-2.view_is ∙ heard.becomes) in
    let many = s.many in
    let most = s.limits.most_ports in
    let lent = ap length (c.deref_mut.ensures.value ∙ lanes) in
    omega arith

pub add_outcome-requires-clause-room : goal.add_outcome-requires-clause-room
add_outcome-requires-clause-room c =
    let s = c.requires.stands in
    let heard : HeardForeign c.args.self.now c.admit.new.self c.requires.done c.args.frame =
    subst (λ b. Admits c.args.batches.now c.args.self.now (Ok b) c.admit.new.self c.requires.done c.args.frame c.args.front)
    c.if-local.false (c.in_ok-local.ensures.answers c.args.batches.now c.requires.done s c.requires.published) in
    subst (λ (w : Worker). HasRoom w.ledger) (sym c.self-2.view_is)
    (room_heard c.args.batches.now c.args.self.now c.admit.new.self c.args.frame c.requires.done s heard)

pub add_outcome-requires-clause-part : goal.add_outcome-requires-clause-part
add_outcome-requires-clause-part c =
    let all = c.args.batches.now in
    let v = c.args.self.now in
    let done = c.requires.done in
    let s = c.requires.stands in
    let heard : HeardForeign v c.admit.new.self done c.args.frame =
    subst (λ b. Admits all v (Ok b) c.admit.new.self done c.args.frame c.args.front) c.if-local.false
    (c.in_ok-local.ensures.answers all done s c.requires.published) in
    let seen = c.self-2.view_is in
    let judged = c.judge_all.ensures v c.args.frame done
    (judged_start all v c.admit.new.self c.args.indices.now c.args.frame done c.args.front c.self-2.inside.own c.self.inside.taken
    c.new-2.result c.new-3.result c.deref_mut.result.now s heard c.requires.found c.requires.published
    (ap (λ (w : Worker). w.own) seen) (ap (λ (w : Worker). w.taken) c.self.view_is) c.new-2.ensures c.new-3.ensures
    (c.deref_mut.ensures.value ∙ ap (λ (w : Worker). w.lanes) seen)) in
    subst (λ (o : Outcome). IsPartOf o.placed o.allowed) (sym c.outcome-outcome.ensures) judged.so_far.part

pub returns-clause-answers : goal.returns-clause-answers
returns-clause-answers c = λ done s found fronts.
    let all = c.args.batches.now in
    let v = c.args.self.now in
    let i = c.self-2.inside in
    let heard : HeardForeign v c.admit.new.self done c.args.frame =
    subst (λ b. Admits all v (Ok b) c.admit.new.self done c.args.frame c.args.front) c.if-local.false
    (c.in_ok-local.ensures.answers all done s fronts) in
    let seen = c.self-2.view_is in
    let lanes = c.judge_all.new.lanes in
    let j = c.judge_all.ensures v c.args.frame done
    (judged_start all v c.admit.new.self c.args.indices.now c.args.frame done c.args.front i.own c.self.inside.taken
    c.new-2.result c.new-3.result c.deref_mut.result.now s heard found fronts
    (ap (λ (w : Worker). w.own) seen) (ap (λ (w : Worker). w.taken) c.self.view_is) c.new-2.ensures c.new-3.ensures
    (c.deref_mut.ensures.value ∙ ap (λ (w : Worker). w.lanes) seen)) in
    let size : length lanes ≡ length i.lanes.items =
    j.many ∙ sym s.many ∙ sym (ap (λ (w : Worker). length w.lanes) (seen ∙ heard.becomes)) in
    let items = with_items_is i.lanes lanes (size ∙ sym i.lanes.ok.0) in
    let o = outcome_held (held_by c.judge_all.new.self) in
    let F : Outcome → InLedger → List LaneView → Type 0 = λ o ledger lanes.
    AnswersForward all v (Ok o)
    (record {
      limits = i.limits;
      own = i.own;
      claims = i.claims;
      taken = i.taken;
      ledger = ledger;
      active = i.active;
      lanes = lanes;
    }) done c.args.frame in
    subst (λ (x : List LaneView). F c.outcome-outcome.result c.add_outcome.new.self x) (sym items)
    (subst (λ (x : InLedger). F c.outcome-outcome.result x lanes) (sym c.add_outcome.ensures)
    (subst (λ (o : Outcome). F o (ledger_with i.ledger o) lanes) (sym c.outcome-outcome.ensures)
    (subst (λ (x : Worker). AnswersForward all v (Ok o) (record x { lanes = lanes; ledger = ledger_with x.ledger o }) done
    c.args.frame) (sym seen)
    (forwards_judged c.one_answer.ensures.steps all v c.admit.new.self c.args.indices.now c.args.frame done
    c.judge_all.new.self lanes j heard))))
