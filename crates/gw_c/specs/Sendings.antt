-- What C is told of a copy that a port sends.
use Rattle.std.specs.Prelude.{◌≡◌, ◌<◌, ◌≤◌, ℕ, suc, List, [], ◌∷◌, length, take, drop, slice_set, Option, Some, None, Result}
use Rattle.std.specs.Prelude.{Ok, Err}
use Rattle.gw_ledger.specs.declared.outcome.FrameCopy.{FrameCopy}
use Rattle.gw_core.specs.Start.{Heard}
use Rattle.gw_core.specs.Gateway.{Gateway, Stands}
use Rattle.gw_core.specs.Circle.{SendsNext, PeeksNext, IsNextCopy, FindsSource}
use Rattle.gw_core.specs.Refusals.{refusal_number}
use Rattle.gw_core.specs.declared.event.Event.{Event}
use Rattle.gw_core.specs.declared.event.Event.TheVariants.{Send}
use Rattle.gw_core.specs.declared.event.EventRefusal.{EventRefusal}
use Rattle.gw_c.specs.declared.sending.CCopy.{CCopy}
use Rattle.gw_c.specs.Faults.{counted}
use Rattle.gw_c.specs.Frames.{record_of, whole}

-- a copy as C is told it
pub record IsCopyTold (copy : FrameCopy) (told : CCopy) : Type 0 where
  pub frame : record_of told.frame ≡ whole copy.frame
  pub number : told.number ≡ copy.number
  pub from : told.from ≡ copy.from

-- how the core's answer is told: 0 with the copy, or 125 where none waits, or the number of the refusal
abbrev pub TellsCopy : Result (Option FrameCopy) EventRefusal → ℕ → CCopy → CCopy → Type 0
TellsCopy (Ok (Some copy)) result old new = (result ≡ 0) × IsCopyTold copy new
TellsCopy (Ok None) result old new = (result ≡ 125) × (new ≡ old)
TellsCopy (Err why) result old new = (result ≡ refusal_number why) × (new ≡ old)

-- the next copy for a port after a history is sent, and told
pub record SendsTold (known : Heard) (history : List Event) (to result : ℕ) (unwritten told : CCopy)
    (old new : Gateway) : Type 0 where
  pub answer : Result (Option FrameCopy) EventRefusal
  pub tells : TellsCopy answer result unwritten told
  pub sends : SendsNext old known history to answer new
  pub limits : new.limits ≡ old.limits

-- a port sends the copy of an ingress port after a history, and C is told it
pub record SendsCopy (known : Heard) (to from : ℕ) (told : CCopy) (old : Gateway) (history : List Event)
    (new : Gateway) : Type 0 where
  pub copy : FrameCopy
  pub said : IsCopyTold copy told
  pub next : IsNextCopy old known history to copy from
  pub stands : Stands new known (Send to from ∷ history)
  pub turns : new.turns ≡ slice_set old.turns to (suc from)
  pub limits : new.limits ≡ old.limits

-- it sends these one after another, the first of them first; what stands then, and after which history
abbrev pub SendsInTurn : Heard → ℕ → List CCopy → Gateway → List Event → Gateway → List Event → Type 0
SendsInTurn known to [] old history new after = (new ≡ old) × (after ≡ history)
SendsInTurn known to (told ∷ rest) old history new after =
    (from : ℕ) × (next : Gateway) × SendsCopy known to from told old history next
    × SendsInTurn known to rest next (Send to from ∷ history) new after

-- it sends so many after a history: C is told them, and the room behind them is left
pub record SendsManyTold (known : Heard) (history : List Event) (to count : ℕ) (unwritten told : List CCopy)
    (old new : Gateway) : Type 0 where
  pub after : List Event
  pub room : count ≤ counted (length unwritten)
  pub sends : SendsInTurn known to (take count told) old history new after
  pub stands : Stands new known after
  pub limits : new.limits ≡ old.limits
  pub left : drop count told ≡ drop count unwritten

-- where there is room for more, none waits afterwards
pub record SendsAllTold (known : Heard) (history : List Event) (to count : ℕ) (unwritten told : List CCopy)
    (old new : Gateway) : Type 0 where
  pub many : SendsManyTold known history to count unwritten told old new
  pub all : count < counted (length unwritten) → FindsSource new known many.after to None

-- inside: one copy is sent, or none waits
abbrev pub SendsOneOrNone : Heard → ℕ → Option CCopy → Gateway → List Event → Gateway → Type 0
SendsOneOrNone known to None old history new = (new ≡ old) × FindsSource old known history to None
SendsOneOrNone known to (Some told) old history new = (from : ℕ) × SendsCopy known to from told old history new

-- it is told, and stays where it waits
pub record PeeksTold (known : Heard) (history : List Event) (to result : ℕ) (unwritten told : CCopy)
    (gateway : Gateway) : Type 0 where
  pub answer : Result (Option FrameCopy) EventRefusal
  pub tells : TellsCopy answer result unwritten told
  pub peeks : PeeksNext gateway known history to answer
