use Rattle.std.proofs.Common.{◌≡◌}
use Rattle.gw_ports.specs.Sending.{sent_many}
use Rattle.gw_ports.proofs.port_out.add_sent.Given as goal

abbrev pub invariant-loop : goal.invariant-loop
invariant-loop l = l.ledger ≡ sent_many l.fn.ledger l.ingress l.counter
