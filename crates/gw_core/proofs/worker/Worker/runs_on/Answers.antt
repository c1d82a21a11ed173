use Rattle.std.proofs.Common.{◌≡◌, true, false, sym, ◌∙◌}
use Rattle.gw_core.proofs.PortTurns.{turn, turn_runs, turn_stays, turn_waits}
use Rattle.gw_core.proofs.worker.Worker.runs_on.Goals as goal
use Rattle.gw_core.proofs.worker.Worker.runs_on.Goals.{in-Runs, in-Blocks, in-Places}

pub returns-clause-runs : goal.returns-clause-runs
returns-clause-runs c = λ done s is_true.
    let t = turn c.self.view_is s c.in-Some.is in
    elim c.match-instruct.branch [
      | in-Runs x ↦ turn_runs t x.in-Runs.is c.instruct.ensures
      | in-Blocks x ↦ let never : false ≡ true = sym x.result-is ∙ is_true in cc
      | in-Places x ↦ let never : false ≡ true = sym x.result-is ∙ is_true in cc
    ]

pub returns-clause-stays : goal.returns-clause-stays
returns-clause-stays c = λ is_false.
    let t = turn c.self.view_is c.requires.1 c.in-Some.is in
    elim c.match-instruct.branch [
      | in-Runs x ↦ let never : true ≡ false = sym x.result-is ∙ is_false in cc
      | in-Blocks x ↦ turn_stays t x.in-Blocks.is c.instruct.ensures
      | in-Places x ↦ (turn_waits t x.in-Places.is c.instruct.ensures).0
    ]
