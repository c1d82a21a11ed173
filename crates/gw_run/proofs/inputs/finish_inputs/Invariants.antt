use Rattle.std.proofs.Common.{List}
use Rattle.std.specs.Vec.Iter.{into_iter_items}
use Rattle.gw_run.specs.PortInputs.{AreKnown, Known}
use Rattle.gw_run.proofs.FirstRefusals.{IsFinishedTo}
use Rattle.gw_run.proofs.inputs.finish_inputs.Given as goal

abbrev pub invariant-loop-input : goal.invariant-loop-input
invariant-loop-input g l = (known : List Known) → AreKnown g.R.Read.remaining known l.fn.inputs.items
    → IsFinishedTo g.R.Read.remaining known l.fn.inputs.items (into_iter_items l.input-iterator)
