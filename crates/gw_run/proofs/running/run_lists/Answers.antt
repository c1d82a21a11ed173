use Rattle.std.proofs.Common.{map}
use Rattle.std.proofs.lemmas.Result.{IfErr-weaker, IfOk-weaker}
use Rattle.gw_run.specs.Forwarding.{IsListRun}
use Rattle.gw_run.proofs.Forwards.{kept_as, refuses_as}
use Rattle.gw_run.proofs.ListRuns.{run_on_lists}
use Rattle.gw_run.proofs.running.run_lists.Goals as goal

pub returns-clause-ran : goal.returns-clause-ran
returns-clause-ran g c =
    let lists = map (λ list. list.items) c.args.lists.items in
    IfOk-weaker c.run_inputs.result _ _
    (λ kept. kept_as c.args.limits.ports _ (IsListRun c.args.limits c.args.first lists) g.G.Gate.waits kept
    (λ ran. run_on_lists c.args.limits c.args.first lists c.in_ok-inputs.inputs.items ran c.in_ok-inputs.ensures.items))
    c.run_inputs.ensures.ran

pub returns-clause-refused : goal.returns-clause-refused
returns-clause-refused g c =
    let lists = map (λ list. list.items) c.args.lists.items in
    IfErr-weaker c.run_inputs.result _ _
    (λ refusal. refuses_as _ (IsListRun c.args.limits c.args.first lists) c.args.limits c.args.first refusal
    (λ ran. run_on_lists c.args.limits c.args.first lists c.in_ok-inputs.inputs.items ran c.in_ok-inputs.ensures.items))
    c.run_inputs.ensures.refused
