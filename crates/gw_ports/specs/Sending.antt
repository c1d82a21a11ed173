-- What taking a copy out does.
use Rattle.std.specs.Prelude.{◌≡◌, ℕ, zero, suc, ◌<◌, List, length, ◌++◌, ◌∷◌, [], slice_index, slice_set}
use Rattle.std.specs.Prelude.{Option, Some, option_map}
use Rattle.gw_ledger.specs.Ledgers.{count_after}
use Rattle.gw_ledger.specs.declared.ledger.OutLedger.{OutLedger}
use Rattle.gw_ledger.specs.declared.outcome.FrameCopy.{FrameCopy}
use Rattle.gw_lanes.specs.Ends.{Outlet}
use Rattle.gw_ports.specs.Ends.{Egress, lane_at}

-- the copy was taken from the lane, behind those taken before
pub record Pops (old : Option Outlet) (copy : FrameCopy) (new : Option Outlet) : Type 0 where
  pub before : Outlet
  pub was : old ≡ Some before
  pub is : new ≡ Some (record before { taken = before.taken ++ copy ∷ [] })

-- the copy was taken from the lane of this ingress port, and nothing from any other
pub record PopsFrom (ingress : ℕ) (old : List (Option Outlet)) (copy : FrameCopy) (new : List (Option Outlet)) : Type 0 where
  pub there : ingress < length old
  pub lane : Pops (lane_at old ingress) copy (lane_at new ingress)
  pub others : new ≡ slice_set old ingress (lane_at new ingress)

-- the ledger with one more copy of an ingress port
abbrev pub sent_with : OutLedger → ℕ → OutLedger
sent_with ledger ingress = record { sent = slice_set ledger.sent ingress (count_after (slice_index ledger.sent ingress)) }

-- a copy from this ingress port left at the port, and was counted there
pub record Sends (ingress : ℕ) (old : Egress) (copy : FrameCopy) (new : Egress) : Type 0 where
  pub port : new.port ≡ old.port
  pub lanes : PopsFrom ingress old.lanes copy new.lanes
  pub ledger : new.ledger ≡ sent_with old.ledger ingress

-- the copies left the port one after another
abbrev pub Takes : Egress → List FrameCopy → Egress → Type 0
Takes old [] new = new ≡ old
Takes old (copy ∷ copies) new = (ingress : ℕ) × (next : Egress) × Sends ingress old copy next × Takes next copies new

-- the lane once these copies were taken from it
abbrev pub taken_off : Option Outlet → List FrameCopy → Option Outlet
taken_off lane copies = option_map (λ (outlet : Outlet). record outlet { taken = outlet.taken ++ copies }) lane

-- the ledger with so many copies more of an ingress port
abbrev pub sent_many : OutLedger → ℕ → ℕ → OutLedger
sent_many ledger ingress zero = ledger
sent_many ledger ingress (suc copies) = sent_with (sent_many ledger ingress copies) ingress
