-- The parts of a gateway.
use Rattle.std.specs.Prelude.{◌≡◌, ℕ, ◌<◌, ◌≤◌, List, [], ◌++◌, ◌∷◌, length, map, replicate, slice_index_or, Option, option_map}
use Rattle.std.specs.Prelude.{IfSome, All}
use Rattle.gw_board.specs.Ends.{Board, Known, Publishing}
use Rattle.gw_claims.specs.Holders.{HoldsAfter}
use Rattle.gw_ledger.specs.declared.ledger.InLedger.{InLedger}
use Rattle.gw_lanes.specs.Ends.{Inlet, Outlet, new_inlet, new_outlet}
use Rattle.gw_ports.specs.Ends.{Ingress, Egress, EndIn, EndOut, end_in, end_out, HasLanes, lane_at, lane_to}

-- the batches that a port knows, and its board
abbrev pub known_at : Ingress → Known
known_at ingress = record { board = ingress.board; batches = ingress.known }

-- the other ends of the lanes to a port: a column of the lanes of all ingress ports
abbrev pub lanes_from : ℕ → List Ingress → List (Option Outlet)
lanes_from port ins = map (λ ingress. option_map new_outlet (lane_to port ingress)) ins

abbrev pub nothing_counted : InLedger
nothing_counted = record { taken = 0; local = 0; allowed = 0; placed = 0; lost = 0 }

-- a lane, if there is one, with nothing placed and this much room
abbrev pub IsNewLane : ℕ → Option Inlet → Type 0
IsNewLane room lane = IfSome lane (λ inlet. inlet ≡ new_inlet inlet.ring room)

-- the end of a new gateway at which a port takes frames
pub record IsNewIngress (ports frames room port : ℕ) (ingress : Ingress) : Type 0 where
  pub number : ingress.port ≡ port
  pub most : ingress.frames ≡ frames
  pub claims : HoldsAfter ingress.claims []
  pub ledger : ingress.ledger ≡ nothing_counted
  pub lanes : (length ingress.lanes ≡ ports) × HasLanes port ingress.lanes
  pub empty : All (IsNewLane room) ingress.lanes

abbrev pub new_egress : ℕ → List (Option Outlet) → Egress
new_egress port lanes = record { port = port; lanes = lanes; ledger = record { sent = replicate 16 0 } }

-- the end with the lane of one more ingress port
abbrev pub egress_with : Egress → Option Outlet → Egress
egress_with egress lane = record egress { lanes = egress.lanes ++ lane ∷ [] }

-- the ends of a new gateway: at place k both those of port k, and of each lane both ends
pub record AreNewEnds (ports frames room : ℕ) (ins : List Ingress) (outs : List Egress) : Type 0 where
  pub enough_ins : length ins ≡ ports
  pub enough_outs : length outs ≡ ports
  pub ingress : (k : ℕ) (d : Ingress) → k < length ins → IsNewIngress ports frames room k (slice_index_or ins k d)
  pub egress : (k : ℕ) (d : Egress) → k < length outs → slice_index_or outs k d ≡ new_egress k (lanes_from k ins)

-- the ends of a port of a gateway
abbrev pub IsEndIn : Board → ℕ → ℕ → EndIn → Type 0
IsEndIn board ports port e = (e.port ≡ port) × (e.board ≡ board) × (length e.rings ≡ ports)

abbrev pub IsEndOut : ℕ → ℕ → EndOut → Type 0
IsEndOut ports port e = (e.port ≡ port) × (length e.rings ≡ ports)

-- the ends of a gateway with this board and as many ports: at place k both those of port k, each with a place for the lane of
-- each port; and of the lane between two ports both ends are of one ring, or there is neither
pub record AreEnds (board : Board) (ports : ℕ) (ins : List EndIn) (outs : List EndOut) : Type 0 where
  pub few : ports ≤ 16
  pub enough_ins : length ins ≡ ports
  pub enough_outs : length outs ≡ ports
  pub ingress : (k : ℕ) (d : EndIn) → k < ports → IsEndIn board ports k (slice_index_or ins k d)
  pub egress : (k : ℕ) (d : EndOut) → k < ports → IsEndOut ports k (slice_index_or outs k d)
  pub lanes : (from to : ℕ) (d : EndIn) (e : EndOut) → from < ports → to < ports
      → lane_at (slice_index_or ins from d).rings to ≡ lane_at (slice_index_or outs to e).rings from

-- these are the parts of one gateway, each once and in the order of their ports
abbrev pub AreOfOneGateway : Publishing → List Ingress → List Egress → Type 0
AreOfOneGateway operator ins outs = AreEnds operator.board operator.ports (map end_in ins) (map end_out outs)
