use Rattle.std.proofs.Common.{◌≡◌, ℕ, ◌<◌, [], length, slice_index_or, vec_len}
use Rattle.gw_ports.specs.Ends.{Egress}
use Rattle.gw_ports.specs.Making.{new_egress}
use Rattle.gw_ports.proofs.parts.deal.without_lanes.Given as goal

abbrev pub invariant-loop-port : goal.invariant-loop-port
invariant-loop-port l = (vec_len l.outs ≡ l.port)
    × ((k : ℕ) (d : Egress) → k < length l.outs.items → slice_index_or l.outs.items k d ≡ new_egress k [])
