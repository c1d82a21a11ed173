use Rattle.std.proofs.Common.{inl, refl, map}
use Rattle.std.proofs.lemmas.Result.{IfErr-weaker, IfOk-weaker}
use Rattle.gw_io.specs.Tries.{inner_of, has_failed, unended_reads}
use Rattle.gw_run.proofs.Forwards.{refused_under_policies, under_policies}
use Rattle.gw_run.proofs.forwarding.forwarded.Goals as goal

pub returns-in-Ok-clause-forwarded : goal.returns-in-Ok-clause-forwarded
returns-in-Ok-clause-forwarded g c =
    IfOk-weaker c.run_input.result _ _
    (λ text run. under_policies c.args.taking.now c.args.limits c.args.sources.now
    (map (λ text. text.items) c.args.texts.now) g.G.Gate.waits c.args.shown
    (g.I.Read.remaining (inner_of c.args.input.now)) (g.I.Read.remaining (inner_of c.run_input.new.input))
    (has_failed c.run_input.new.input) c.in-Ok.first text.items c.in-Ok.ensures.first run)
    c.run_input.ensures.ran

pub returns-in-Ok-clause-refused : goal.returns-in-Ok-clause-refused
returns-in-Ok-clause-refused g c =
    IfErr-weaker c.run_input.result _ _
    (λ refusal why. refused_under_policies c.args.taking.now c.args.limits c.args.sources.now
    (map (λ text. text.items) c.args.texts.now)
    (g.I.Read.remaining (inner_of c.args.input.now)) (g.I.Read.remaining (inner_of c.run_input.new.input))
    (has_failed c.run_input.new.input) (unended_reads c.args.input.now c.run_input.new.input)
    c.in-Ok.first refusal c.in-Ok.ensures.first why)
    c.run_input.ensures.refused

pub returns-in-Err-clause-refused : goal.returns-in-Err-clause-refused
returns-in-Err-clause-refused g c = inl (c.in-Err.refusal, refl, c.in-Err.ensures.refused)
