-- What C is told of a frame that it has taken, and of each of its steps.
use Rattle.std.specs.Prelude.{◌≡◌, ℕ, Bool, if◌then◌else◌, List, ◌∷◌, Ok}
use Rattle.gw_core.specs.Start.{Heard, begun}
use Rattle.gw_core.specs.Gateway.{Gateway, Stands}
use Rattle.gw_core.specs.Events.{reply}
use Rattle.gw_core.specs.Headline.{Forwards}
use Rattle.gw_core.specs.Safety.{StepsInside}
use Rattle.gw_core.specs.declared.event.Event.{Event}
use Rattle.gw_core.specs.declared.event.Event.TheVariants.{Take, Step}
use Rattle.gw_core.specs.declared.event.Answer.{Answer}
use Rattle.gw_core.specs.declared.event.Answer.TheVariants.{Taken, Placed, Lost, Finished}
use Rattle.gw_c.specs.declared.can.CanFrame.{CanFrame}
use Rattle.gw_c.specs.declared.offering.COutcome.{COutcome}
use Rattle.gw_c.specs.declared.stepping.CTaken.{CTaken}
use Rattle.gw_c.specs.declared.stepping.CStep.{CStep}
use Rattle.gw_c.specs.Faults.{nowhere}
use Rattle.gw_c.specs.Frames.{record_of}
use Rattle.gw_c.specs.Offers.{outcome_told}

-- a frame was taken at a port after a history, and C is told how it is judged: 1 for a local frame, else 0
pub record IsTaken (known : Heard) (history : List Event) (port : ℕ) (can : CanFrame) (told : CTaken)
    (old new : Gateway) : Type 0 where
  pub local : Bool
  pub answer : reply (begun old.limits known) history (Take port (record_of can)) ≡ Ok (Taken told.number told.front local)
  pub said : told.local ≡ (if local then 1 else 0)
  pub stands : Stands new known (Take port (record_of can) ∷ history)
  pub limits : new.limits ≡ old.limits
  pub turns : new.turns ≡ old.turns

-- the outcome of a step that is not a frame's last
abbrev pub no_outcome : COutcome
no_outcome = record { number = 0; front = 0; local = 0; allowed = 0; placed = 0 }

-- what a step answers, as C is told it. 0: an instruction was made; 1 and 2: a copy was placed at a port, or lost there; 3: the
-- step was the frame's last
abbrev pub step_told : Answer → CStep
step_told (Placed port) = record { what = 1; to = port; outcome = no_outcome }
step_told (Lost port) = record { what = 2; to = port; outcome = no_outcome }
step_told (Finished outcome) = record { what = 3; to = nowhere; outcome = outcome_told outcome }
step_told _ = record { what = 0; to = nowhere; outcome = no_outcome }

-- a step was made at a port after a history, a safe one, and C is told what it did
pub record IsStepped (known : Heard) (history : List Event) (port : ℕ) (told : CStep) (old new : Gateway) : Type 0 where
  pub answer : Answer
  pub replied : reply (begun old.limits known) history (Step port) ≡ Ok answer
  pub said : told ≡ step_told answer
  pub headline : Forwards (begun old.limits known) history (Step port) (Ok answer)
  pub safe : StepsInside (begun old.limits known) history (Step port)
  pub stands : Stands new known (Step port ∷ history)
  pub limits : new.limits ≡ old.limits
  pub turns : new.turns ≡ old.turns
