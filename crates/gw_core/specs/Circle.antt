-- The circle of ingress ports, in which an egress port sends the copies that wait for it.
use Rattle.std.specs.Prelude.{◌≡◌, ◌≢◌, ℕ, suc, ◌+◌, ◌-◌, ◌<◌, ◌≤◌, nat_le, if◌then◌else◌, List, ◌∷◌, length, Option, Some, None}
use Rattle.std.specs.Prelude.{Result, Ok, Err, MatchOption, slice_index, slice_set}
use Rattle.gw_ledger.specs.declared.outcome.FrameCopy.{FrameCopy}
use Rattle.gw_core.specs.Start.{Start, Heard, begun}
use Rattle.gw_core.specs.Events.{accepted, reply, waiting_after}
use Rattle.gw_core.specs.Gateway.{Gateway, Stands}
use Rattle.gw_core.specs.declared.event.Event.{Event}
use Rattle.gw_core.specs.declared.event.Event.TheVariants.{Send}
use Rattle.gw_core.specs.declared.event.Answer.TheVariants.{Sent}
use Rattle.gw_core.specs.declared.event.EventRefusal.{EventRefusal}
use Rattle.gw_core.specs.declared.event.EventRefusal.TheVariants.{NoSuchPort}

-- how many ports stand before one in the circle that begins at a turn: from the turn up, and then from port 0
abbrev pub before : ℕ → ℕ → ℕ → ℕ
before ports turn port = if nat_le turn port then port - turn else (ports - turn) + port

-- a copy waits at one port for another
pub record Waits (start : Start) (done : List Event) (to from : ℕ) : Type 0 where
  pub there : from < start.limits.ports
  pub other : to ≢ from
  pub some : 0 < length (waiting_after start from to done)

-- the port is the first in the circle at which a copy waits for the port `to`
pub record IsNextSource (start : Start) (done : List Event) (turn to from : ℕ) : Type 0 where
  pub waits : Waits start done to from
  pub first : (other : ℕ) → Waits start done to other → before start.limits.ports turn from ≤ before start.limits.ports turn other

-- no copy waits for the port, or the first in the circle is this one
abbrev pub FindsSource : Gateway → Heard → List Event → ℕ → Option ℕ → Type 0
FindsSource c known history to None =
    (from : ℕ) → Waits (begun c.limits known) (accepted (begun c.limits known) history) to from → ⊥
FindsSource c known history to (Some from) =
    IsNextSource (begun c.limits known) (accepted (begun c.limits known) history) (slice_index c.turns to) to from

-- the copy that a port sends next, after a history: the first that waits at the first port in the circle
pub record IsNextCopy (c : Gateway) (known : Heard) (history : List Event) (to : ℕ) (copy : FrameCopy) (from : ℕ) : Type 0 where
  pub source : FindsSource c known history to (Some from)
  pub sent : reply (begun c.limits known) history (Send to from) ≡ Ok (Sent copy)

-- which that is, or none where no copy waits; a port that is not there is refused
abbrev pub PeeksNext : Gateway → Heard → List Event → ℕ → Result (Option FrameCopy) EventRefusal → Type 0
PeeksNext c known history to (Err why) = (why ≡ NoSuchPort) × (c.limits.ports ≤ to)
PeeksNext c known history to (Ok None) = (to < c.limits.ports) × FindsSource c known history to None
PeeksNext c known history to (Ok (Some copy)) = (to < c.limits.ports) × ((from : ℕ) × IsNextCopy c known history to copy from)

-- it is sent, and the port's circle begins behind its ingress port then
abbrev pub SendsNext : Gateway → Heard → List Event → ℕ → Result (Option FrameCopy) EventRefusal → Gateway → Type 0
SendsNext old known history to (Err why) new = (why ≡ NoSuchPort) × (old.limits.ports ≤ to)
SendsNext old known history to (Ok None) new = (to < old.limits.ports) × FindsSource old known history to None × (new ≡ old)
SendsNext old known history to (Ok (Some copy)) new =
    (to < old.limits.ports)
    × ((from : ℕ) × IsNextCopy old known history to copy from × Stands new known (Send to from ∷ history)
    × (new.turns ≡ slice_set old.turns to (suc from)))

-- of the ports from one up to another no copy waits at any
abbrev pub NoneWaits : Start → List Event → ℕ → ℕ → ℕ → Type 0
NoneWaits start done to begin end = (from : ℕ) → begin ≤ from → from < end → Waits start done to from → ⊥

-- and the first at which one does
pub record IsFirst (start : Start) (done : List Event) (to begin end from : ℕ) : Type 0 where
  pub waits : Waits start done to from
  pub within : (begin ≤ from) × (from < end)
  pub none : NoneWaits start done to begin from

abbrev pub FindsFirst : Start → List Event → ℕ → ℕ → ℕ → Option ℕ → Type 0
FindsFirst start done to begin end found =
    MatchOption found (NoneWaits start done to begin end) (IsFirst start done to begin end)
