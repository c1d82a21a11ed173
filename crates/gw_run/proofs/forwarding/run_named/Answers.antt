use Rattle.std.proofs.Common.{List, ℕ, inr, subst}
use Rattle.std.proofs.lemmas.Result.{IfErr-weaker, IfOk-weaker}
use Rattle.gw_run.specs.Forwarding.{KeepsRun, LogRuns, RefusesLog}
use Rattle.gw_run.proofs.forwarding.run_named.Goals as goal

pub returns-in-Ok-clause-ran : goal.returns-in-Ok-clause-ran
returns-in-Ok-clause-ran g c =
    IfOk-weaker c.run_log.result _ _
    (λ kept run. (
      c.in-Ok.octets.items,
      c.in-Ok.ensures.input,
      subst
          (λ (o : List ℕ).
          KeepsRun c.args.limits.ports (LogRuns c.args.names.now c.args.limits c.args.first o) g.G.Gate.waits kept)
          c.as_slice.ensures.value run,
    ))
    c.run_log.ensures.ran

pub returns-in-Ok-clause-refused : goal.returns-in-Ok-clause-refused
returns-in-Ok-clause-refused g c =
    IfErr-weaker c.run_log.result _ _
    (λ refusal why.
    inr (
      c.in-Ok.octets.items,
      c.in-Ok.ensures.input,
      subst (λ (o : List ℕ). RefusesLog c.args.names.now c.args.limits c.args.first o refusal) c.as_slice.ensures.value why,
    ))
    c.run_log.ensures.refused
