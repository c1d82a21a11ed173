-- A gateway that begins anew.
use Rattle.std.specs.Prelude.{◌≡◌, ℕ, zero, suc, ◌<◌, ◌++◌, Bool, nat_lt, List, [], ◌∷◌, length, replicate, Option, Some, None}
use Rattle.std.specs.Prelude.{Result, Ok, Err}
use Rattle.std.specs.List.{list_any}
use Rattle.std.specs.Option.{is_some}
use Rattle.gw_policy.specs.Filter.{Filter}
use Rattle.gw_policy.specs.Batches.{Pair, in_force}
use Rattle.gw_core.specs.LaneView.{LaneView}
use Rattle.gw_core.specs.Start.{Start, Heard, begun}
use Rattle.gw_core.specs.PortHistory.{ever_heard}
use Rattle.gw_core.specs.Events.{history_of, all_batches, accepted, reply, waiting_after}
use Rattle.gw_core.specs.Copies.{IsSettled}
use Rattle.gw_core.specs.Standing.{Worker}
use Rattle.gw_core.specs.Gateway.{Gateway, Stands}
use Rattle.gw_core.specs.declared.event.Event.{Event}
use Rattle.gw_core.specs.declared.event.Event.TheVariants.{Publish}
use Rattle.gw_core.specs.declared.event.Answer.TheVariants.{Published}
use Rattle.gw_core.specs.declared.refusal.RenewRefusal.{RenewRefusal}
use Rattle.gw_core.specs.declared.refusal.RenewRefusal.TheVariants.{Busy, CopiesWait, TooManyOwners}

-- no copy waits on any lane
abbrev pub IsDrained : Start → List Event → Type 0
IsDrained start done =
    (from to : ℕ) → from < start.limits.ports → to < start.limits.ports → waiting_after start from to done ≡ []

-- for each port all records that it ever heard
abbrev pub all_heard : Start → List Event → Heard
all_heard start done p = ever_heard (history_of start p done)

-- a pair for a port, if a policy is in force there
abbrev pub pair_if : ℕ → Option Filter → List Pair
pair_if port None = []
pair_if port (Some filter) = record { port = port; policy = filter } ∷ []

-- the policies in force after these batches for the ports below a number, in ascending order of ports
abbrev pub policies_below : List (List Pair) → ℕ → List Pair
policies_below published zero = []
policies_below published (suc port) = policies_below published port ++ pair_if port (in_force port published)

-- the policies in force for all ports of a gateway, as a batch
abbrev pub policies_in_force : Start → List Event → List Pair
policies_in_force start done = policies_below (all_batches done) start.limits.ports

-- a gateway that began anew after accepted events: what its ports heard is known, and the policies in force are its first batch
pub record BeginsAnew (start : Start) (done : List Event) (new : Gateway) : Type 0 where
  pub front : reply (begun start.limits (all_heard start done)) [] (Publish (policies_in_force start done)) ≡ Ok (Published 1)
  pub stands : Stands new (all_heard start done) (Publish (policies_in_force start done) ∷ [])
  pub turns : new.turns ≡ replicate 16 0

-- How renewing is answered after accepted events, by the first refusal that holds. No definition says whether a policy has too
-- many owners.
abbrev pub RenewsAfter : Start → List Event → Result (Unit {0}) RenewRefusal → Gateway → Type 0
RenewsAfter start done (Err Busy) new = IsSettled start done → ⊥
RenewsAfter start done (Err CopiesWait) new = IsSettled start done × (IsDrained start done → ⊥)
RenewsAfter start done (Err TooManyOwners) new = IsSettled start done × IsDrained start done
RenewsAfter start done (Ok done_so) new = IsSettled start done × IsDrained start done × BeginsAnew start done new

-- and after a history
abbrev pub Renews : Gateway → Heard → List Event → Result (Unit {0}) RenewRefusal → Gateway → Type 0
Renews old known history result new =
    RenewsAfter (begun old.limits known) (accepted (begun old.limits known) history) result new

-- a worker holds a frame, and a copy waits on one of its lanes
abbrev pub holds_frame : Worker → Bool
holds_frame w = is_some w.active

abbrev pub holds_copy : Worker → Bool
holds_copy w = list_any (λ (lane : LaneView). nat_lt 0 (length lane.waiting)) w.lanes

-- a worker that counts from 0 again
abbrev pub renewed : Worker → Worker
renewed w = record w { taken = 0; ledger = record { taken = 0; local = 0; allowed = 0; placed = 0; lost = 0 }; active = None }
