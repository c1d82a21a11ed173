use Rattle.std.proofs.Common.{◌≡◌, ◌+◌, ◌<◌, ℕ, suc, List, Ok, refl, sym, ap, subst, ◌∙◌, arith}
use Rattle.std.specs.Prelude.{slice_set}
use Rattle.gw_core.specs.Gateway.{Gateway, CoreAnswers}
use Rattle.gw_core.specs.declared.event.Event.TheVariants.{Send}
use Rattle.gw_core.proofs.Circles.{sends_next, sends_some, turned}
use Rattle.gw_core.proofs.gateway.Core.next.Goals as goal

pub returns-in_default-clause-answers : goal.returns-in_default-clause-answers
returns-in_default-clause-answers c =
    let i = c.self.inside in
    let g : Gateway = record {
      limits = i.limits;
      batches = i.batches.items;
      latest = i.latest;
      workers = i.workers.items;
      outs = i.outs.items;
      turns = i.turns;
    } in
    let within : c.args.to < g.limits.ports = omega (arith, c.from.ensures, c.ports.ensures.ports) in
    λ known history s. (
      subst (λ (x : Gateway). c.args.to < x.limits.ports) c.self.view_is within,
      c.in_default.ensures.found known history s,
      refl,
    )

pub invariant_of-self : goal.invariant_of-self
invariant_of-self c =
    let i = c.self-2.inside in
    let g : Gateway = record {
      limits = i.limits;
      batches = i.batches.items;
      latest = i.latest;
      workers = i.workers.items;
      outs = i.outs.items;
      turns = i.turns;
    } in
    let inv = c.self-2.invariant in
    (inv.0, (inv.1.0, inv.1.1, turned g inv.1.0 inv.1.1 (slice_set i.turns c.from-in-Sent.result (c.in-Some.from + 1)) inv.1.2))

pub returns-in-Sent-clause-answers : goal.returns-in-Sent-clause-answers
returns-in-Sent-clause-answers c =
    let i = c.self.inside in
    let g : Gateway = record {
      limits = i.limits;
      batches = i.batches.items;
      latest = i.latest;
      workers = i.workers.items;
      outs = i.outs.items;
      turns = i.turns;
    } in
    let j = c.self-2.inside in
    let h : Gateway = record {
      limits = j.limits;
      batches = j.batches.items;
      latest = j.latest;
      workers = j.workers.items;
      outs = j.outs.items;
      turns = j.turns;
    } in
    let old = c.args.self.now in
    let from = c.in-Some.from in
    let is_sent : h ≡ c.send.new.self = c.self-2.view_is in
    let within : c.args.to < g.limits.ports = omega (arith, c.from.ensures, c.ports.ensures.ports) in
    let there : c.args.to < old.limits.ports = subst (λ (x : Gateway). c.args.to < x.limits.ports) c.self.view_is within in
    let kept : h.turns ≡ old.turns = ap (λ (x : Gateway). x.turns) is_sent ∙ c.send.ensures.turns in
    let more : from + 1 ≡ suc from = omega arith in
    let set : slice_set h.turns c.from-in-Sent.result (from + 1) ≡ slice_set old.turns c.args.to (suc from) =
    ap (λ (t : List ℕ). slice_set t c.from-in-Sent.result (from + 1)) kept
    ∙ ap (λ n. slice_set old.turns n (from + 1)) c.from-in-Sent.ensures ∙ ap (λ n. slice_set old.turns c.args.to n) more in
    λ known history s.
    let told : CoreAnswers old (Send c.args.to from) (Ok c.in_ok-copy.field-0) h known history =
    subst (λ (x : Gateway). CoreAnswers old (Send c.args.to from) (Ok c.in_ok-copy.field-0) x known history) (sym is_sent)
    (c.in_ok-copy.ensures.answers known history s) in
    sends_next old h known history c.args.to from (slice_set h.turns c.from-in-Sent.result (from + 1)) c.in_ok-copy.field-0
    c.in-Sent.copy there (c.in-Some.ensures.found known history s) told c.in-Sent.is set

pub returns-in_default-2-clause-answers : goal.returns-in_default-2-clause-answers
returns-in_default-2-clause-answers c =
    let i = c.self.inside in
    let g : Gateway = record {
      limits = i.limits;
      batches = i.batches.items;
      latest = i.latest;
      workers = i.workers.items;
      outs = i.outs.items;
      turns = i.turns;
    } in
    let within : c.args.to < g.limits.ports = omega (arith, c.from.ensures, c.ports.ensures.ports) in
    let there : c.args.to < c.args.self.now.limits.ports
    = subst (λ (x : Gateway). c.args.to < x.limits.ports) c.self.view_is within in
    λ known history s. absurd (sends_some c.args.self.now c.send.new.self known history c.args.to c.in-Some.from
    c.in_ok-copy.field-0 there (c.in-Some.ensures.found known history s) (c.in_ok-copy.ensures.answers known history s)
    c.in_default-2.not-Sent)
