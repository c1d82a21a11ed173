-- Faults that an instruction has by itself, as the pass over the code finds them.
use Rattle.std.specs.Prelude.{ℕ, ◌+◌, ◌≡◌, ◌<◌, length, Option, Some, None, slice_get}
use Rattle.gw_insn.specs.Form.{Form}
use Rattle.gw_verify.specs.declared.cause.Cause.{Cause}
use Rattle.gw_verify.specs.declared.cause.Cause.TheVariants.{UnknownCode, DivideByZero, ShiftTooFar, NoSuchWord, JumpOut}
use Rattle.gw_verify.specs.declared.cause.Cause.TheVariants.{Ancillary}
use Rattle.gw_verify.specs.Accepted.{DividesByZero, ShiftsTooFar, NamesNoWord, JumpsOut, IsAncillary, IsNoReturn}
use Rattle.gw_verify.specs.Flow.{Forms, HasAt}

-- the fault of an instruction, or of an unknown code, at place i of a code of this length
abbrev pub IsOwnFault : ℕ → ℕ → Option Form → Cause → Type 0
IsOwnFault len i None UnknownCode = Unit {0}
IsOwnFault len i None _ = ⊥
IsOwnFault len i (Some insn) DivideByZero = DividesByZero insn
IsOwnFault len i (Some insn) ShiftTooFar = ShiftsTooFar insn
IsOwnFault len i (Some insn) NoSuchWord = NamesNoWord insn
IsOwnFault len i (Some insn) JumpOut = JumpsOut len i insn
IsOwnFault len i (Some insn) Ancillary = IsAncillary insn
IsOwnFault len i (Some insn) _ = ⊥

-- what stands at place i has the fault by itself
pub record HasOwnFault (forms : Forms) (cause : Cause) (i : ℕ) : Type 0 where
  pub found : Option Form
  pub here : slice_get forms i ≡ Some found
  pub fault : IsOwnFault (length forms) i found cause

-- nothing at the first n places has a fault by itself
abbrev pub NoOwnFaultBelow : Forms → ℕ → Type 0
NoOwnFaultBelow forms n = (cause : Cause) (i : ℕ) → i < n → HasOwnFault forms cause i → ⊥

-- the last instruction, if it is known, is a return
abbrev pub EndsInReturn : Forms → Type 0
EndsInReturn forms = (i : ℕ) (insn : Form) → i + 1 ≡ length forms → HasAt forms i insn → IsNoReturn insn → ⊥
