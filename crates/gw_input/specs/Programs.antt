-- What the text of a listing gives.
use Rattle.std.specs.Prelude.{◌≡◌, ℕ, List, map, Some, None}
use Rattle.gw_insn.specs.declared.insn.Raw.{Raw}
use Rattle.gw_insn.specs.declared.insn.Insn.{Insn}
use Rattle.gw_insn.specs.Table.{insn_of}
use Rattle.gw_insn.specs.Listing.{IsListing, IsListRefusal, refusal_number}
use Rattle.gw_verify.specs.Cause.{cause_number}
use Rattle.gw_verify.specs.Flow.{forms_of}
use Rattle.gw_verify.specs.Accepted.{IsAccepted, IsRefusal}
use Rattle.gw_policy.specs.Filter.{Filter}
use Rattle.gw_input.specs.declared.programs.ProgramFault.{ProgramFault}
use Rattle.gw_input.specs.declared.programs.ProgramFault.TheVariants.{Listing, Code}

-- the listing of accepted code, decoded
pub record NamesProgram (listing : List ℕ) (program : List Insn) : Type 0 where
  pub code : List Raw
  pub listed : IsListing listing code
  pub accepted : IsAccepted (forms_of code)
  pub decoded : map Some program ≡ map insn_of code

-- what refuses a listing: its own refusal, or that of the code that it lists
abbrev pub IsProgramFault : List ℕ → ProgramFault → Type 0
IsProgramFault listing (Listing why) = IsListRefusal listing why
IsProgramFault listing (Code refused) =
    IsListing listing refused.code.items × IsRefusal (forms_of refused.code.items) refused.why refused.place

-- the number by which such a refusal is told
abbrev pub program_number : ProgramFault → ℕ
program_number (Listing why) = refusal_number why
program_number (Code refused) = cause_number refused.why

-- the policy of a listing
pub record IsProgramPolicy (listing : List ℕ) (policy : Filter) : Type 0 where
  pub named : NamesProgram listing policy.code
  pub plain : policy.table ≡ None
