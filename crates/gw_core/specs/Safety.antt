-- What holds of the machine at each instruction that a step makes.
use Rattle.std.specs.Prelude.{◌≡◌, ◌≢◌, ℕ, ◌<◌, List, [], ◌∷◌, ◌++◌, length, Some, IsSome, MatchOption, slice_get}
use Rattle.std.specs.FinMap as map
use Rattle.gw_insn.specs.Form.{form}
use Rattle.gw_insn.specs.declared.insn.Insn.{Insn}
use Rattle.gw_verify.specs.Flow.{Loads, program_forms}
use Rattle.gw_verify.specs.Accepted.{IsAccepted}
use Rattle.gw_machine.specs.Machine.{Machine, Outcome}
use Rattle.gw_machine.specs.Runs.{Reaches, IsStep}
use Rattle.gw_policy.specs.Batches.{in_force, steps}
use Rattle.gw_core.specs.Start.{Start}
use Rattle.gw_core.specs.PortHistory.{Work, instruction, ingress_of, work_left, heard}
use Rattle.gw_core.specs.Events.{history_of, all_batches, accepted}
use Rattle.gw_core.specs.declared.event.Event.{Event}
use Rattle.gw_core.specs.declared.event.Event.TheVariants.{Take, Step}

-- The machine that makes instruction n of accepted code for a frame taken at port p: n steps lead to it from the start. It
-- stands inside the code, at an instruction that has a step there, each word that this loads was stored, and n is below the
-- code's length.
pub record RunsInside (code : List Insn) (frame : List ℕ) (p n : ℕ) : Type 0 where
  pub accepted : IsAccepted (program_forms code)
  pub machine : Machine
  pub reached : Reaches code frame p n machine
  pub inside : machine.place < length code
  pub stored : (insn : Insn) (word : ℕ) → slice_get code machine.place ≡ Some insn → Loads (form insn) word
      → IsSome (map.get machine.scratch word)
  pub out : Outcome
  pub steps : IsStep code frame p machine out
  pub within : n < length code

-- the next step at port p makes instruction n of the policy for port q
abbrev pub MakesNext : Start → List Event → ℕ → ℕ → ℕ → Type 0
MakesNext start done p q n = (rest : List Work) × (work_left (ingress_of start.limits p) (history_of start p done)
    ≡ instruction q n ∷ rest)

-- Instruction n of the policy for port q is made for the frame last taken at port p. Port q is another port of the gateway, and
-- the policy is the one in force for it at the taking: accepted code that runs as said, or the opening block with its one
-- instruction.
pub record IsSafeStep (start : Start) (done : List Event) (p q n : ℕ) : Type 0 where
  pub frame : List ℕ
  pub earlier : List Event
  pub later : List Event
  pub taken : done ≡ later ++ Take p frame ∷ earlier
  pub newest : heard (history_of start p later) ≡ []
  pub there : q < start.limits.ports
  pub other : q ≢ p
  pub few : n < steps (in_force q (all_batches earlier)) frame p
  pub runs : MatchOption (in_force q (all_batches earlier)) (n ≡ 0) (λ filter. RunsInside filter.code frame p n)

-- where an event is a step that makes an instruction, that is a safe one
abbrev pub StepsInside : Start → List Event → Event → Type 0
StepsInside start history e =
    (p q n : ℕ) → e ≡ Step p → MakesNext start (accepted start history) p q n
    → IsSafeStep start (accepted start history) p q n
