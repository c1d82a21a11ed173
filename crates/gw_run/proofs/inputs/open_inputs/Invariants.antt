use Rattle.std.proofs.Common.{take}
use Rattle.gw_run.specs.PortInputs.{AreNew}
use Rattle.gw_run.proofs.inputs.open_inputs.Given as goal

abbrev pub invariant-loop-port : goal.invariant-loop-port
invariant-loop-port g l = AreNew g.R.File.Read.remaining (take l.port l.files) l.inputs.items
