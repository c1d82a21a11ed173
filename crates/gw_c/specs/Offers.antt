-- What C is told of a frame that it offers to a gateway.
use Rattle.std.specs.Prelude.{◌≡◌, ℕ, ◌^◌, nat_lt, if◌then◌else◌, List, sum_by, Ok}
use Rattle.gw_ledger.specs.declared.outcome.Outcome.{Outcome}
use Rattle.gw_core.specs.Start.{Start, Heard, begun}
use Rattle.gw_core.specs.Gateway.{Gateway}
use Rattle.gw_core.specs.Events.{reply}
use Rattle.gw_core.specs.Forwarding.{forwarded, CoreForwards, ForwardsFrame}
use Rattle.gw_core.specs.Safety.{StepsInside}
use Rattle.gw_core.specs.declared.event.Event.{Event}
use Rattle.gw_core.specs.declared.event.Event.TheVariants.{Take, Step}
use Rattle.gw_c.specs.declared.can.CanFrame.{CanFrame}
use Rattle.gw_c.specs.declared.offering.COutcome.{COutcome}
use Rattle.gw_c.specs.Frames.{record_of}
use Rattle.gw_c.specs.Gateways.{number_of}

-- a set of ports as a mask: bit p is set where port p is in the set
abbrev pub mask_of : List ℕ → ℕ
mask_of ports = sum_by (λ port. 2 ^ port) ports

-- an outcome as C is told it: 1 for a local frame, else 0
abbrev pub outcome_told : Outcome → COutcome
outcome_told outcome = record {
  number = outcome.number;
  front = outcome.front;
  local = if outcome.local then 1 else 0;
  allowed = mask_of outcome.allowed;
  placed = mask_of outcome.placed;
}

-- what is answered to a frame that is offered at a port after a history: 3, its length is above 8; else as its taking is answered
abbrev pub offer_answer : Start → List Event → ℕ → CanFrame → ℕ
offer_answer start history port can =
    if nat_lt 8 can.len then 3 else number_of (reply start history (Take port (record_of can)))

-- the frame was taken at the port after a history and made all of its steps, each a safe one, and C is told its outcome
pub record IsOffered (known : Heard) (history : List Event) (port : ℕ) (can : CanFrame) (told : COutcome)
    (old new : Gateway) : Type 0 where
  pub outcome : Outcome
  pub said : told ≡ outcome_told outcome
  pub forwards : CoreForwards old known history port (record_of can) (Ok outcome) new
  pub headline : ForwardsFrame (begun old.limits known) history port (record_of can) outcome
  pub safe : (n : ℕ) → StepsInside (begun old.limits known) (forwarded n port (record_of can) history) (Step port)
  pub limits : new.limits ≡ old.limits
  pub turns : new.turns ≡ old.turns
