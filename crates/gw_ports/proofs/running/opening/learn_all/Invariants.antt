use Rattle.gw_ports.proofs.SettlingAll.{SettledBelow}
use Rattle.gw_ports.proofs.running.opening.learn_all.Given as goal

abbrev pub invariant-loop-index : goal.invariant-loop-index
invariant-loop-index l = SettledBelow l.index l.told.batches l.initial.ports l.ports
