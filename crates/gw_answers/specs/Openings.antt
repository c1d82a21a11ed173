-- What is told of a log or a capture that ended early: `before` and `after` are what its reader has left, `old` and `new` what
-- its writer took.
use Rattle.std.specs.Prelude.{◌≡◌, ℕ, ◌<◌, Bool, true, false, List, [], ◌∷◌, length, Option}
use Rattle.std.specs.Io.KnownBytes.{Consumes}
use Rattle.gw_log.specs.LogFrames.{refusal_number}
use Rattle.gw_input.specs.Refused.{refused_line}
use Rattle.gw_judge.specs.declared.fault.JudgeFault.{JudgeFault}
use Rattle.gw_judge.specs.declared.fault.JudgeFault.TheVariants as ends
use Rattle.gw_judge.specs.Judged.{fault_number}
use Rattle.gw_answers.specs.declared.requests.Shown.{Shown}
use Rattle.gw_answers.specs.declared.requests.Shown.TheVariants.{Counts, Passed, Blocked, Each}
use Rattle.gw_answers.specs.Responses.{WritesText}

-- the line of what ends a log early: its number, and that of the line that is refused
abbrev pub fault_line : JudgeFault → List ℕ
fault_line (ends.Refused refused) = refused_line (refusal_number refused.why) (refused.line ∷ [])
fault_line fault = refused_line (fault_number fault) []

-- and where it stands: behind the counts alone
abbrev pub fault_behind : Shown → JudgeFault → List ℕ
fault_behind (Counts form) fault = fault_line fault
fault_behind Passed fault = []
fault_behind Blocked fault = []
fault_behind Each fault = []

-- what ended a log early was written, with status 1
abbrev pub TellsEnd : Shown → JudgeFault → Option (List ℕ) → Option (List ℕ) → Bool → ℕ → Type 0
TellsEnd shown fault old new failed status = WritesText (fault_behind shown fault) 1 status old new failed

-- a read failed within the first four octets
pub record FailsToOpen (shown : Shown) (before after : Option (List ℕ)) (read_failed : Bool) (old new : Option (List ℕ))
    (failed : Bool) (status : ℕ) : Type 0 where
  pub got : List ℕ
  pub consumed : Consumes before after got
  pub short : length got < 4
  pub fault : read_failed ≡ true
  pub told : TellsEnd shown ends.ReadFault old new failed status

-- a capture has no lines: where they are asked for, nothing more is read and nothing is written
abbrev pub HasNoLines : Option (List ℕ) → Option (List ℕ) → Bool → Option (List ℕ) → Option (List ℕ) → Bool → ℕ → Type 0
HasNoLines before after read_failed old new failed status =
    (after ≡ before) × (read_failed ≡ false) × WritesText [] 1 status old new failed
