use Rattle.std.proofs.Common.{◌<◌, inl, inr, ap, ◌∙◌, arith}
use Rattle.gw_trace.specs.Traces.{beginning}
use Rattle.gw_trace.proofs.Parting.{ends_bad, ends_cut}
use Rattle.gw_trace.proofs.records.Records.end_among.Goals as goal

pub returns-in-Bad : goal.returns-in-Bad
returns-in-Bad c = λ octets records h.
    let bad = ends_bad c.args.self.now c.args.order c.in-Bad.why octets records c.requires
    (c.in-Bad.ensures.begins
    ∙ ap (beginning c.args.order) (c.octets.ensures.octets ∙ ap (λ kept. kept.front) c.self.view_is)) h in
    (bad.0, ap (λ kept. kept.count) c.self.view_is ∙ bad.1)

pub returns-in-Unfinished : goal.returns-in-Unfinished
returns-in-Unfinished c = λ octets records h.
    let some : 0 < c.self.inside.there = grind (arith, c.if-self-eq0.false) in
    let same = ap (λ kept. kept.there) c.self.view_is in
    ends_cut c.args.self.now c.args.order c.begins.result octets records c.requires
    (c.begins.ensures.begins
    ∙ ap (beginning c.args.order) (c.octets.ensures.octets ∙ ap (λ kept. kept.front) c.self.view_is))
    (λ why bad. elim c.in-Unfinished.is [
      | inl unfinished ↦ absurd (cc)
      | inr whole ↦ absurd (cc)
    ])
    (omega (arith, some, same)) h
