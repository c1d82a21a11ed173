use Rattle.std.proofs.Common.{◌≡◌, ◌⊎◌, inr, ℕ, List, arith, length, map}
use Rattle.std.proofs.lemmas.List.{length-map}
use Rattle.std.proofs.lemmas.Result.{IfErr-weaker}
use Rattle.gw_ports.specs.Runs.{RefusesRun}
use Rattle.gw_ports.specs.declared.running.RunRefusal.TheVariants.{OutOfMemory}
use Rattle.gw_ports.proofs.ReportLists.{answer_of_lists}
use Rattle.gw_ports.proofs.running.run.Goals as goal

-- The lists are the inputs.
pub returns-clause-reported : goal.returns-clause-reported
returns-clause-reported g c =
    let lists : List (List (List ℕ)) = map (λ list. list.items) c.args.inputs.items in
    let many : length lists ≡ c.args.limits.ports =
    (let a = length-map c.args.inputs.items (λ list. list.items) in
    let b = c.args.inputs.ok.0 in
    let n = c.requires in
    omega arith) in
    answer_of_lists c.args.limits c.args.first lists c.in-Ok.inputs.items c.args.batches.items c.run_from.result
    c.in-Ok.ensures.items many c.run_from.ensures.reported

-- A refusal is that of the run over iterators.
pub returns-clause-refused : goal.returns-clause-refused
returns-clause-refused g c =
    let limits = c.args.limits in
    let first = c.args.first in
    IfErr-weaker c.run_from.result (RefusesRun limits first) (λ why. (why ≡ OutOfMemory) ⊎ RefusesRun limits first why)
    (λ why refuses. inr refuses) c.run_from.ensures.refused
