use Rattle.std.proofs.Common.{◌≡◌, ◌++◌, ◌+◌, ◌*◌, ◌≤◌, length}
use Rattle.gw_ledger.specs.Ports.{ports_below, has_port}
use Rattle.gw_input.specs.PortTexts.{commas}
use Rattle.gw_input.proofs.PortLists.{is_some_port}
use Rattle.gw_input.proofs.line.Line.ports.Given as goal

abbrev pub invariant-loop-port : goal.invariant-loop-port
invariant-loop-port l = record {
  octets : l.line ≡ l.fn.self ++ commas (ports_below l.port (λ q. has_port q l.fn.ports));
  some : l.some ≡ is_some_port (ports_below l.port (λ q. has_port q l.fn.ports));
  len : length l.line ≤ length l.fn.self + 4 * l.port;
}
