use Rattle.std.proofs.Common.{[], subst, sym}
use Rattle.std.proofs.lemmas.Result.{IfOk-weaker}
use Rattle.gw_io.specs.Tries.{inner_of}
use Rattle.gw_run.specs.PortInputs.{HasGiven}
use Rattle.gw_run.proofs.TraceInputs.{opened_new}
use Rattle.gw_run.proofs.inputs.open_input.Goals as goal

pub returns-in-Ok-clause-input : goal.returns-in-Ok-clause-input
returns-in-Ok-clause-input g c =
    IfOk-weaker c.read_input.result _ _
    (λ input opened.
    subst (λ file. HasGiven g.R.File.Read.remaining file [] input) (sym c.in-Some.is)
    (opened_new g.R.File.Read.remaining c.in-Some.file (g.R.File.Read.remaining (inner_of c.new-in-Ok.result)) input opened))
    c.read_input.ensures.input
