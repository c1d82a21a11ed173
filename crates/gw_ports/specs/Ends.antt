-- What contracts see of a port's ends.
use Rattle.std.specs.Prelude.{◌≡◌, ◌≢◌, ℕ, ◌+◌, ◌-◌, ◌*◌, ◌<◌, ◌≤◌, ◌^◌, min, List, length, map, slice_index}
use Rattle.std.specs.Prelude.{slice_index_or, sum_by, Option, Some, None, IsSome, option_map}
use Rattle.gw_board.specs.Ends.{Board}
use Rattle.gw_policy.specs.Batches.{Pair}
use Rattle.gw_lanes.specs.Ends.{Ring, Inlet, Outlet}
use Rattle.gw_ledger.specs.declared.ledger.InLedger.{InLedger}
use Rattle.gw_ledger.specs.declared.ledger.OutLedger.{OutLedger}

-- the end at which a port takes frames: its number, its board and the batches that it knows, oldest first, who holds which
-- address of its segment, the most frames that it may take, its lanes by egress port, and its ledger
pub record Ingress : Type 0 where
  pub port : ℕ
  pub board : Board
  pub known : List (List Pair)
  pub claims : List (Option ℕ)
  pub frames : ℕ
  pub lanes : List (Option Inlet)
  pub ledger : InLedger

-- the end at which copies leave at a port: its number, its lanes by ingress port, and its ledger
pub record Egress : Type 0 where
  pub port : ℕ
  pub lanes : List (Option Outlet)
  pub ledger : OutLedger

-- the lane to or from a port, none behind the list's end
abbrev pub lane_at : {A : Type 0} → List (Option A) → ℕ → Option A
lane_at lanes port = slice_index_or lanes port None

abbrev pub lane_to : ℕ → Ingress → Option Inlet
lane_to port ingress = lane_at ingress.lanes port

-- there is a lane to or from each other port, and none at the port's own number
pub record HasLanes {A : Type 0} (own : ℕ) (lanes : List (Option A)) : Type 0 where
  pub most : length lanes ≤ 16
  pub none : lane_at lanes own ≡ None
  pub others : (port : ℕ) → port < length lanes → port ≢ own → IsSome (lane_at lanes port)

-- the ring of a lane, by either end
abbrev pub ring_to : Option Inlet → Option Ring
ring_to lane = option_map (λ inlet. inlet.ring) lane

abbrev pub ring_from : Option Outlet → Option Ring
ring_from lane = option_map (λ outlet. outlet.ring) lane

-- which end it is, as no call changes it: its port, its board, and the rings of its lanes
pub record EndIn : Type 0 where
  pub port : ℕ
  pub board : Board
  pub rings : List (Option Ring)

pub record EndOut : Type 0 where
  pub port : ℕ
  pub rings : List (Option Ring)

abbrev pub end_in : Ingress → EndIn
end_in ingress = record { port = ingress.port; board = ingress.board; rings = map ring_to ingress.lanes }

abbrev pub end_out : Egress → EndOut
end_out egress = record { port = egress.port; rings = map ring_from egress.lanes }

-- how many copies were placed on a lane, and how many were taken from one
abbrev pub placed_on : Option Inlet → ℕ
placed_on None = 0
placed_on (Some inlet) = length inlet.placed

abbrev pub taken_from : Option Outlet → ℕ
taken_from None = 0
taken_from (Some outlet) = length outlet.taken

-- what the counts of at most as many frames keep
pub record IsCounted (ledger : InLedger) (frames : ℕ) : Type 0 where
  pub taken : ledger.taken ≤ frames
  pub local : ledger.local ≤ ledger.taken
  pub allowed : ledger.allowed ≤ 16 * ledger.taken
  pub parts : ledger.allowed ≡ ledger.placed + ledger.lost

-- the copies counted as placed are those on the lanes
abbrev pub CountsPlaced : InLedger → List (Option Inlet) → Type 0
CountsPlaced ledger lanes = ledger.placed ≡ sum_by placed_on lanes

-- a count of copies, which stays at the greatest number of 64 bits
abbrev pub count_of : ℕ → ℕ
count_of copies = min copies (2 ^ 64 - 1)

-- the copies counted as sent are those taken from the lane of each ingress port
pub record CountsSent (ledger : OutLedger) (lanes : List (Option Outlet)) : Type 0 where
  pub ports : length ledger.sent ≡ 16
  pub sent : (ingress : ℕ) → ingress < 16 → slice_index ledger.sent ingress ≡ count_of (taken_from (lane_at lanes ingress))

-- what each end keeps of its counts
pub record IsSoundIngress (ingress : Ingress) : Type 0 where
  pub bounded : ingress.frames < 2 ^ 32
  pub counted : IsCounted ingress.ledger ingress.frames
  pub placed : CountsPlaced ingress.ledger ingress.lanes

pub record IsSoundEgress (egress : Egress) : Type 0 where
  pub few : length egress.lanes ≤ 16
  pub counted : CountsSent egress.ledger egress.lanes
