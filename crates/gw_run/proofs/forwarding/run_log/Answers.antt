use Rattle.std.proofs.Common.{List, rules, subst}
use Rattle.std.proofs.lemmas.Result.{IfOk-weaker}
use Rattle.gw_run.specs.Forwarding.{IsListRun}
use Rattle.gw_run.proofs.forwarding.run_log.Goals as goal

pub returns-clause-ran : goal.returns-clause-ran
returns-clause-ran g c =
    IfOk-weaker c.run_lists-ran.result _ _
    (λ kept is. (
      is.0,
      is.1,
      (
        search rules,
        subst (λ (l : List (List (List _))). IsListRun c.args.limits c.args.first l is.0) (search rules) is.2,
      ),
      is.3,
    ))
    c.run_lists-ran.ensures.ran
