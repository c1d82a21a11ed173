use Rattle.std.proofs.Common.{arith, rules}
use Rattle.std.proofs.lemmas.Grind.{common_steps}
use Rattle.gw_run.proofs.forwarding.report_octets.Goals as goal

pub returns-in-Ok-clause-lines : goal.returns-in-Ok-clause-lines
returns-in-Ok-clause-lines g c =
    let text = c.in-Ok.ensures in
    let ports = c.ports.ensures.ports in
    let octets = c.into_bytes.ensures.value in
    first_of (search rules, grind (arith, common_steps))
