use Rattle.std.proofs.Common.{◌≡◌, map, take}
use Rattle.std.specs.List.{All}
use Rattle.gw_ports.specs.Ends.{IsSoundEgress}
use Rattle.gw_ports.proofs.closing.ledgers_out.Given as goal

-- the ledgers of the ports so far, which are sound
abbrev pub invariant-loop-port : goal.invariant-loop-port
invariant-loop-port l = (l.ledgers.items ≡ map (λ port. port.ledger) (take l.port-index l.outs))
    × All IsSoundEgress (take l.port-index l.outs)
