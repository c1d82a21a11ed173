use Rattle.gw_machine.specs.Runs.{ShowsRunning}
use Rattle.test_libraries.proofs.machine.answer_by_steps.Given as goal

abbrev pub invariant-loop-n : goal.invariant-loop-n
invariant-loop-n l = ShowsRunning l.program l.frame l.port l.state
