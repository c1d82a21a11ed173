-- What an offer answers and leaves.
use Rattle.std.specs.Prelude.{◌≡◌, ℕ, List, ◌∷◌, length, reverse}
use mathlib.Core.List.{IsPrefix}
use Rattle.gw_policy.specs.Allowed.{allowed_ports}
use Rattle.gw_claims.specs.Claims.{is_local}
use Rattle.gw_claims.specs.Holders.{HoldsAfter}
use Rattle.gw_ledger.specs.Ledgers.{ledger_with}
use Rattle.gw_ledger.specs.declared.outcome.FrameCopy.{FrameCopy}
use Rattle.gw_ledger.specs.declared.outcome.Outcome.{Outcome}
use Rattle.gw_ports.specs.Ends.{Ingress}
use Rattle.gw_ports.specs.Placing.{PlacesAll, PlacesCopies}

-- the copy of the next frame of a port
abbrev pub next_copy : Ingress → List ℕ → FrameCopy
next_copy ingress octets = record { from = ingress.port; number = ingress.ledger.taken; frame = octets }

-- what became of a frame that was offered after these were heard at the port, newest first: it was judged by the batches that
-- the port knows afterwards, which begin with those that it knew
pub record Offered (heard : List (List ℕ)) (old : Ingress) (octets : List ℕ) (outcome : Outcome) (new : Ingress) : Type 0 where
  pub same : (new.port ≡ old.port) × (new.board ≡ old.board) × (new.frames ≡ old.frames)
  pub later : IsPrefix old.known new.known
  pub front : outcome.front ≡ length new.known
  pub number : outcome.number ≡ old.ledger.taken
  pub local : outcome.local ≡ is_local heard octets
  pub allowed : outcome.allowed ≡ allowed_ports (length old.lanes) (is_local heard octets) (reverse new.known) old.port octets
  pub claims : HoldsAfter new.claims (octets ∷ heard)
  pub placed : PlacesCopies outcome.allowed (next_copy old octets) outcome.placed old.lanes new.lanes
  pub ledger : new.ledger ≡ ledger_with old.ledger outcome

-- no copy of the frame was lost
abbrev pub IsPlaced : Outcome → Type 0
IsPlaced outcome = PlacesAll outcome.allowed outcome.placed
