-- What placing the copies of a frame does to lanes.
use Rattle.std.specs.Prelude.{◌≡◌, ℕ, ◌≤◌, List, ◌++◌, ◌∷◌, [], length, Option, Some, IsTrue, MatchBool}
use Rattle.gw_ledger.specs.Ports.{has_port}
use Rattle.gw_ledger.specs.declared.outcome.FrameCopy.{FrameCopy}
use Rattle.gw_lanes.specs.Ends.{Inlet}
use Rattle.gw_ports.specs.Ends.{lane_at}

-- the copy was placed on the lane, behind those placed before
pub record Appends (old : Option Inlet) (copy : FrameCopy) (new : Option Inlet) : Type 0 where
  pub before : Inlet
  pub was : old ≡ Some before
  pub is : new ≡ Some (record before { placed = before.placed ++ copy ∷ [] })

-- as many copies were placed on the lane as it has room for
pub record WasFull (lane : Option Inlet) : Type 0 where
  pub before : Inlet
  pub was : lane ≡ Some before
  pub full : before.room ≤ length before.placed

-- where a port is in `placed`, the frame is allowed to it and the copy was placed on its lane; else the lane is as before, and
-- where the frame is allowed to the port the lane was full
abbrev pub PlacesAt : List ℕ → FrameCopy → List ℕ → List (Option Inlet) → List (Option Inlet) → ℕ → Type 0
PlacesAt allowed copy placed old new port =
    MatchBool (has_port port placed)
    (IsTrue (has_port port allowed) × Appends (lane_at old port) copy (lane_at new port))
    ((lane_at new port ≡ lane_at old port) × (IsTrue (has_port port allowed) → WasFull (lane_at old port)))

-- the copy was placed once on the lane to each port of `placed`, which is a part of `allowed`, and on no other
pub record PlacesCopies (allowed : List ℕ) (copy : FrameCopy) (placed : List ℕ) (old new : List (Option Inlet)) : Type 0 where
  pub size : length new ≡ length old
  pub ports : (port : ℕ) → PlacesAt allowed copy placed old new port

-- the copy was placed on the lane to each port to which the frame is allowed
abbrev pub PlacesAll : List ℕ → List ℕ → Type 0
PlacesAll allowed placed = (port : ℕ) → IsTrue (has_port port allowed) → IsTrue (has_port port placed)
