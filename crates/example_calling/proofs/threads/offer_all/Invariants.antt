use Rattle.std.proofs.Common.{◌≡◌, [], take, vec_capacity, vec_len}
use Rattle.j1939_gateway.specs.Holders.{HoldsAfter}
use Rattle.j1939_gateway.specs.PortEnds.{end_in}
use Rattle.j1939_gateway.specs.PortRuns.{Offers}
use Rattle.j1939_gateway.proofs.Callers.{heard_after}
use Rattle.example_calling.proofs.threads.offer_all.Given as goal

abbrev pub invariant-loop-frame : goal.invariant-loop-frame
invariant-loop-frame l =
    HoldsAfter l.port.claims (heard_after [] (take l.frame-index l.frame-items))
    × Offers [] l.initial.port (take l.frame-index l.frame-items) l.outcomes.items l.port
    × (end_in l.port ≡ end_in l.initial.port)
    × (l.port.frames ≡ l.initial.port.frames)
    × (l.port.ledger.taken ≡ l.frame-index)
    × (vec_len l.outcomes ≡ l.frame-index)
    × (vec_capacity l.outcomes ≡ vec_capacity l.initial.outcomes)
