use Rattle.std.proofs.Common.{◌≡◌, ◌<◌, ◌^◌}
use Rattle.gw_ledger.specs.Ports.{has_port, ports_below}
use Rattle.gw_c.specs.Offers.{mask_of}
use Rattle.gw_c.proofs.offering.mask_of.Given as goal

abbrev pub invariant-loop-port : goal.invariant-loop-port
invariant-loop-port l =
    (l.mask ≡ mask_of (ports_below l.port (λ port. has_port port l.fn.ports))) × (l.mask < 2 ^ l.port)
