use Rattle.std.proofs.Common.{ℕ, List, ◌++◌, subst}
use Rattle.gw_log.specs.LogLines.{line_of}
use Rattle.gw_judge.specs.Interfaces.{port_named, taken}
use Rattle.gw_judge.specs.Egress.{heard_at}
use Rattle.gw_judge.specs.EgressUnderWay.{HearPorts}
use Rattle.gw_judge.proofs.egress.Egress.put_kept.Goals as goal

pub returns-clause-heard : goal.returns-clause-heard
returns-clause-heard g c lines hears =
    let names = c.args.gateway.now.names.now in
    subst (λ (line : List ℕ). HearPorts c.put_line.new.claims
    (λ port. taken (port_named names) port (line_of line) ++ heard_at names lines port)) c.as_slice-line.ensures.value
    (c.put_line.ensures.heard (heard_at names lines) hears)
