-- What closing a gateway tells.
use Rattle.std.specs.Prelude.{◌≡◌, ℕ, ◌+◌, ◌<◌, ◌≤◌, suc, List, [], ◌++◌, ◌∷◌, length, map, drop, sum_by, slice_index_or}
use Rattle.std.specs.Prelude.{vec_capacity, Option, Some, None, All}
use mathlib.Core.List.{IsPrefix}
use Rattle.gw_board.specs.Ends.{Publishing}
use Rattle.gw_ledger.specs.Ledgers.{AreBalanced}
use Rattle.gw_lanes.specs.Ends.{Inlet, Outlet}
use Rattle.gw_ports.specs.Ends.{Ingress, Egress, lane_at, ring_to, ring_from}
use Rattle.gw_ports.specs.declared.closing.LaneLeft.{LaneLeft}
use Rattle.gw_ports.specs.declared.closing.Report.{Report}
use Rattle.gw_ports.specs.declared.parts.Parts.{Parts}
use Rattle.gw_ports.specs.declared.closing.CloseRefusal.{CloseRefusal}
use Rattle.gw_ports.specs.declared.closing.CloseRefusal.TheVariants.{OutOfMemory, NoReading}

-- the lanes of all ports in, by ingress port and then egress port; and those of all ports out, by egress port and then ingress
-- port
abbrev pub rows_of : List Ingress → List (List (Option Inlet))
rows_of ins = map (λ ingress. ingress.lanes) ins

abbrev pub columns_of : List Egress → List (List (Option Outlet))
columns_of outs = map (λ egress. egress.lanes) outs

-- the lanes from one port, as all ports out have them
abbrev pub column_at : ℕ → List Egress → List (Option Outlet)
column_at ingress outs = map (λ egress. lane_at egress.lanes ingress) outs

-- the first lane of each column, and the others
abbrev pub heads : List (List (Option Outlet)) → List (Option Outlet)
heads columns = map (λ column. lane_at column 0) columns

abbrev pub tails : List (List (Option Outlet)) → List (List (Option Outlet))
tails columns = map (λ column. drop 1 column) columns

-- of each lane both ends are of one ring, or there is neither
abbrev pub Match : List (List (Option Inlet)) → List (List (Option Outlet)) → Type 0
Match [] columns = Unit {0}
Match (row ∷ rows) columns = (map ring_to row ≡ map ring_from (heads columns)) × Match rows (tails columns)

-- a lane, by its ports and its ends
pub record Lane : Type 0 where
  pub ingress : ℕ
  pub egress : ℕ
  pub inlet : Inlet
  pub outlet : Outlet

-- the lane of which these are the ends, if there is one
abbrev pub lane_of : ℕ → ℕ → Option Inlet → Option Outlet → List Lane
lane_of ingress egress (Some inlet) (Some outlet) =
    record { ingress = ingress; egress = egress; inlet = inlet; outlet = outlet } ∷ []
lane_of ingress egress (Some inlet) None = []
lane_of ingress egress None outlet = []

-- the lanes from an ingress port to the egress ports from a number on
abbrev pub lanes_to : ℕ → ℕ → List (Option Inlet) → List (Option Outlet) → List Lane
lanes_to ingress egress [] outlets = []
lanes_to ingress egress (inlet ∷ inlets) [] = []
lanes_to ingress egress (inlet ∷ inlets) (outlet ∷ outlets) =
    lane_of ingress egress inlet outlet ++ lanes_to ingress (suc egress) inlets outlets

-- the lanes from the ingress ports from a number on, by ingress port and then egress port
abbrev pub lanes_of : ℕ → List (List (Option Inlet)) → List (List (Option Outlet)) → List Lane
lanes_of ingress [] columns = []
lanes_of ingress (row ∷ rows) columns = lanes_to ingress 0 row (heads columns) ++ lanes_of (suc ingress) rows (tails columns)

-- a relation holds of each lane and what stands at its place in the other list
abbrev pub EachOf : (Lane → LaneLeft → Type 0) → List Lane → List LaneLeft → Type 0
EachOf R [] [] = Unit {0}
EachOf R [] (left ∷ lefts) = ⊥
EachOf R (lane ∷ lanes) [] = ⊥
EachOf R (lane ∷ lanes) (left ∷ lefts) = R lane left × EachOf R lanes lefts

-- what is left of a lane is what was placed on it behind what was taken from it
pub record IsLeft (lane : Lane) (left : LaneLeft) : Type 0 where
  pub ingress : left.from ≡ lane.ingress
  pub egress : left.to ≡ lane.egress
  pub copies : lane.outlet.taken ++ left.left.items ≡ lane.inlet.placed

abbrev pub AreLeft : List Lane → List LaneLeft → Type 0
AreLeft = EachOf IsLeft

-- room for what is left of a lane
pub record IsRoomOf (lane : Lane) (room : LaneLeft) : Type 0 where
  pub ingress : room.from ≡ lane.ingress
  pub egress : room.to ≡ lane.egress
  pub empty : room.left.items ≡ []
  pub enough : length lane.inlet.placed ≤ vec_capacity room.left + length lane.outlet.taken

abbrev pub AreRooms : List Lane → List LaneLeft → Type 0
AreRooms = EachOf IsRoomOf

-- the rooms of these lanes were filled with what is left of them, and stand behind what there was
pub record Finishes (lanes : List Lane) (rooms rooms' lefts lefts' : List LaneLeft) : Type 0 where
  pub finished : (others : List Lane) → AreRooms (lanes ++ others) rooms
      → AreRooms others rooms' × ((new : List LaneLeft) × (lefts' ≡ lefts ++ new) × AreLeft lanes new)

-- how many copies wait on the lane of which these are the ends, if there is one
abbrev pub IsWaiting : Option Inlet → Option Outlet → Option ℕ → Type 0
IsWaiting (Some inlet) (Some outlet) (Some waiting) = waiting + length outlet.taken ≡ length inlet.placed
IsWaiting (Some inlet) (Some outlet) None = ⊥
IsWaiting (Some inlet) None (Some waiting) = ⊥
IsWaiting (Some inlet) None None = Unit {0}
IsWaiting None outlet (Some waiting) = ⊥
IsWaiting None outlet None = Unit {0}

-- the report of these parts
pub record Closes (operator : Publishing) (ins : List Ingress) (outs : List Egress) (report : Report) : Type 0 where
  pub taken : report.ins.items ≡ map (λ ingress. ingress.ledger) ins
  pub sent : report.outs.items ≡ map (λ egress. egress.ledger) outs
  pub front_is : report.front ≡ length operator.published
  pub known : All (λ ingress. IsPrefix ingress.known operator.published) ins
  pub left : AreLeft (lanes_of 0 (rows_of ins) (columns_of outs)) report.lanes.items
  pub balances : AreBalanced report.ins.items report.outs.items (sum_by (λ lane. length lane.left.items) report.lanes.items)

-- the same end, which may know more
abbrev pub KnowsMore : Ingress → Ingress → Type 0
KnowsMore old new = (new ≡ record old { known = new.known }) × IsPrefix old.known new.known

-- the parts come back: as they were for want of memory, and where no reading was given ports in may know more
abbrev pub HandsBack : Parts → CloseRefusal → Type 0
HandsBack parts (OutOfMemory back) =
    (back.operator ≡ parts.operator) × (back.ins.items ≡ parts.ins.items) × (back.outs.items ≡ parts.outs.items)
HandsBack parts (NoReading back) =
    (back.operator ≡ parts.operator) × (back.outs.items ≡ parts.outs.items) × (length back.ins.items ≡ length parts.ins.items)
    × ((k : ℕ) (d : Ingress) → k < length parts.ins.items
    → KnowsMore (slice_index_or parts.ins.items k d) (slice_index_or back.ins.items k d))

abbrev pub close_refusal_number : CloseRefusal → ℕ
close_refusal_number (OutOfMemory back) = 85
close_refusal_number (NoReading back) = 77
