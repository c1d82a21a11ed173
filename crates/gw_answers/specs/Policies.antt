-- Which policy a source means, and what refuses it.
use Rattle.std.specs.Prelude.{◌≡◌, ℕ, List, Option, Some, None}
use Rattle.gw_insn.specs.declared.insn.Insn.{Insn}
use Rattle.gw_table.specs.Table.{Meaning}
use Rattle.gw_table.specs.Emission.{emission}
use Rattle.gw_policy.specs.Filter.{Filter}
use Rattle.gw_input.specs.Programs.{NamesProgram}
use Rattle.gw_input.specs.Tables.{IsTable}
use Rattle.gw_answers.specs.declared.policies.PolicySource.{PolicySource}
use Rattle.gw_answers.specs.declared.policies.PolicySource.TheVariants as source
use Rattle.gw_answers.specs.declared.policies.PolicySource.TheVariants.{Opening, Program, Listing}
use Rattle.gw_answers.specs.declared.refusal.Refusal.{Refusal}
use Rattle.gw_answers.specs.declared.refusal.Refusal.TheVariants.{ReadFault, TooMuchInput, OutOfMemory}
use Rattle.gw_answers.specs.Texts.{RefusesText, IsProgramRefusal}

-- the policy of the program that a listing names, and that of a table's text
pub record IsProgramPolicy (listing : List ℕ) (policy : Option Filter) : Type 0 where
  pub program : List Insn
  pub named : NamesProgram listing program
  pub policy_is : policy ≡ Some (record { code = program; table = None })

pub record IsTablePolicy (text : List ℕ) (policy : Option Filter) : Type 0 where
  pub table : Meaning
  pub named : IsTable text table
  pub policy_is : policy ≡ Some (record { code = emission table; table = Some table })

-- the policy that a source means, where its file has this text; none is the opening block
abbrev pub MeansPolicy : PolicySource → List ℕ → Option Filter → Type 0
MeansPolicy Opening text policy = policy ≡ None
MeansPolicy (Program listing) text policy = IsProgramPolicy listing.now policy
MeansPolicy (Listing file) text policy = IsProgramPolicy text policy
MeansPolicy (source.Table file) text policy = IsTablePolicy text policy

-- what refuses a listing: its first refusal, or memory is wanting for the policy of its program
abbrev pub RefusesListing : List ℕ → Refusal → Type 0
RefusesListing listing OutOfMemory = (program : List Insn) × NamesProgram listing program
RefusesListing listing refusal = IsProgramRefusal listing refusal

abbrev pub RefusesSource : PolicySource → List ℕ → Refusal → Type 0
RefusesSource Opening text refusal = ⊥
RefusesSource (Program listing) text refusal = RefusesListing listing.now refusal
RefusesSource (Listing file) text refusal = RefusesListing text refusal
RefusesSource (source.Table file) text refusal = RefusesText text refusal

-- a source that names a file
abbrev pub NamesFile : PolicySource → Type 0
NamesFile (Listing file) = Unit {0}
NamesFile (source.Table file) = Unit {0}
NamesFile _ = ⊥

-- what refuses a file: a read of it failed, it has too many octets, or memory was wanting for what it holds
abbrev pub RefusesFile : Refusal → Type 0
RefusesFile ReadFault = Unit {0}
RefusesFile TooMuchInput = Unit {0}
RefusesFile OutOfMemory = Unit {0}
RefusesFile _ = ⊥
