use Rattle.std.proofs.Common.{◌≡◌, map, take}
use Rattle.std.specs.List.{All}
use Rattle.gw_ports.specs.Ends.{IsSoundIngress}
use Rattle.gw_ports.proofs.closing.ledgers_in.Given as goal

-- the ledgers of the ports so far, which are sound
abbrev pub invariant-loop-port : goal.invariant-loop-port
invariant-loop-port l = (l.ledgers.items ≡ map (λ port. port.ledger) (take l.port-index l.ins))
    × All IsSoundIngress (take l.port-index l.ins)
