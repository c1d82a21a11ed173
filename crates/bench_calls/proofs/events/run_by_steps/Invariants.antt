use Rattle.gw_machine.specs.Runs.{ShowsRunning}
use Rattle.bench_calls.proofs.events.run_by_steps.Given as goal

abbrev pub invariant-loop-step : goal.invariant-loop-step
invariant-loop-step l = ShowsRunning l.program l.frame 0 l.state
