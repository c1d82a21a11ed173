use Rattle.std.proofs.Common.{◌≡◌, length, true}
use Rattle.gw_ports.proofs.Placing.{AllBelow, PlacesBelow}
use Rattle.gw_ports.proofs.enqueue.enqueue.Given as goal

abbrev pub invariant-loop-index : goal.invariant-loop-index
invariant-loop-index g l =
    (length l.lanes ≡ length l.initial.lanes)
    × PlacesBelow l.index l.allowed l.copy l.placed l.initial.lanes l.lanes
    × (g.F.FullLane.waits ≡ true → AllBelow l.index l.allowed l.placed)
