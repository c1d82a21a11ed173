use Rattle.std.proofs.Common.{◌≡◌, [], subst, sym}
use Rattle.gw_run.specs.PortInputs.{HasGiven, IsSpent}
use Rattle.gw_run.proofs.port_input.PortInput.finish.Goals as goal

pub returns : goal.returns
returns g c = λ file given has.
    let is = subst (HasGiven g.R.Read.remaining file given) c.in-Streamed.is has in
    let ended = c.finish_trace.ensures file is.0 is.1 given is.2 is.3 is.4 in
    (ended.0, ended.1, subst (λ input. IsSpent input → ended.0 ≡ []) (sym c.in-Streamed.is) ended.2)
