-- The policies that C makes of texts and code, and why none is made.
use Rattle.std.specs.Prelude.{◌≡◌, ◌≢◌, ℕ, List, map, Option, Some, None, MatchOption}
use Rattle.std.specs.Str.{IsUtf8}
use Rattle.gw_insn.specs.declared.insn.Raw.{Raw}
use Rattle.gw_insn.specs.Table.{insn_of}
use Rattle.gw_insn.specs.Listing.{IsListing, IsListRefusal}
use Rattle.gw_verify.specs.declared.cause.Cause.{Cause}
use Rattle.gw_verify.specs.declared.path.Path.{Path}
use Rattle.gw_verify.specs.declared.refused.Refused.{Refused}
use Rattle.gw_verify.specs.Flow.{Forms, forms_of}
use Rattle.gw_verify.specs.Accepted.{IsAccepted, IsRefusal}
use Rattle.gw_verify.specs.Explanation.{IsExplanation}
use Rattle.gw_text.specs.declared.refusal.AsmRefusal.TheVariants as assembler
use Rattle.gw_text.specs.Assembly.{Assembles, first_refusal}
use Rattle.gw_table.specs.TableText.{IsTableRefusal}
use Rattle.gw_policy.specs.Filter.{Filter}
use Rattle.gw_input.specs.Places.{IsToldPlace}
use Rattle.gw_input.specs.Programs.{IsProgramPolicy}
use Rattle.gw_input.specs.Tables.{IsTablePolicy}
use Rattle.gw_c.specs.declared.policies.SockFilter.{SockFilter}
use Rattle.gw_c.specs.declared.fault.Fault.{Fault}
use Rattle.gw_c.specs.declared.fault.Fault.TheVariants.{NotUtf8, Listing, Code, Assembler, Table, OutOfMemory}

-- the four fields of an instruction of Linux
abbrev pub raw_in : SockFilter → Raw
raw_in filter = record { code = filter.code; jt = filter.jt; jf = filter.jf; k = filter.k }

-- the policy of code that is accepted, decoded
pub record IsCodePolicy (code : List Raw) (policy : Filter) : Type 0 where
  pub accepted : IsAccepted (forms_of code)
  pub decoded : map Some policy.code ≡ map insn_of code
  pub plain : policy.table ≡ None

-- the policy of the code that an assembler text means
pub record IsAssembledPolicy (text : List ℕ) (policy : Filter) : Type 0 where
  pub utf8 : IsUtf8 text
  pub code : List Raw
  pub assembled : Assembles text code
  pub accepted : IsCodePolicy code policy

-- a path, where there is one, shows why code is refused; memory may be wanting for one
abbrev pub IsShown : Forms → Cause → ℕ → Option Path → Type 0
IsShown forms why place path = MatchOption path (Unit {0}) (λ path. IsExplanation why forms place (Some path))

-- code is refused, and so shown
abbrev pub IsCodeFault : List Raw → Refused → Option Path → Type 0
IsCodeFault code refused path =
    IsRefusal (forms_of code) refused.why refused.place × IsShown (forms_of code) refused.why refused.place path

-- each says why its input gives no policy; memory was refused for the policy that there is

abbrev pub RefusesCode : List Raw → Fault → Type 0
RefusesCode code (Code refused path) = IsCodeFault code refused path
RefusesCode code OutOfMemory = (policy : Filter) × IsCodePolicy code policy
RefusesCode code _ = ⊥

-- of Linux's instructions; memory may be wanting for their copy already
abbrev pub RefusesFilters : List SockFilter → Fault → Type 0
RefusesFilters filters OutOfMemory = Unit {0}
RefusesFilters filters fault = RefusesCode (map raw_in filters) fault

abbrev pub RefusesListing : List ℕ → Fault → Type 0
RefusesListing text (Listing why) = IsListRefusal text why
RefusesListing text (Code refused path) = (code : List Raw) × IsListing text code × IsCodeFault code refused path
RefusesListing text OutOfMemory = (policy : Filter) × IsProgramPolicy text policy
RefusesListing text _ = ⊥

abbrev pub RefusesAssembler : List ℕ → Fault → Type 0
RefusesAssembler text NotUtf8 = IsUtf8 text → ⊥
RefusesAssembler text (Assembler why) = IsUtf8 text × (why ≢ assembler.OutOfMemory → first_refusal text ≡ Some why)
RefusesAssembler text (Code refused path) =
    IsUtf8 text × ((code : List Raw) × Assembles text code × IsCodeFault code refused path)
RefusesAssembler text OutOfMemory = (policy : Filter) × IsAssembledPolicy text policy
RefusesAssembler text _ = ⊥

-- a text that is no table is told with the place where it is wrong
abbrev pub RefusesTable : List ℕ → Fault → Type 0
RefusesTable text NotUtf8 = IsUtf8 text → ⊥
RefusesTable text (Table why place) = IsUtf8 text × IsTableRefusal text why × IsToldPlace text why place
RefusesTable text OutOfMemory = (policy : Filter) × IsTablePolicy text policy
RefusesTable text _ = ⊥
