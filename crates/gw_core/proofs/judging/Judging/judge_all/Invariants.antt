use Rattle.std.proofs.Common.{ℕ, List}
use Rattle.gw_core.specs.PortHistory.{PortEvent}
use Rattle.gw_core.specs.Standing.{Worker}
use Rattle.gw_core.specs.Forwarding.{Judged}
use Rattle.gw_core.proofs.judging.Judging.judge_all.Given as goal

abbrev pub invariant-loop-port : goal.invariant-loop-port
invariant-loop-port l = (w : Worker) (frame : List ℕ) (done : List PortEvent)
    → Judged l.batches w l.indices frame done 0 l.initial.self l.initial.lanes
    → Judged l.batches w l.indices frame done l.port l.self l.lanes
