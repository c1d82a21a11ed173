-- From a listing, a table and a record, all given as octets, to verdicts.
use Rattle.std.specs.Prelude.{◌≡◌, ℕ, ◌⊎◌, not, ◌==◌, List, [], ◌∷◌, map, Some, None}
use Rattle.j1939_gateway.specs.Record.{IsRecord, refusal_of}
use Rattle.j1939_gateway.specs.Raw.{Raw}
use Rattle.j1939_gateway.specs.Instructions.{insn_of}
use Rattle.j1939_gateway.specs.Listing.{IsListing, IsListRefusal}
use Rattle.j1939_gateway.specs.Flow.{forms_of, program_forms}
use Rattle.j1939_gateway.specs.Accepted.{IsAccepted, IsRefusal}
use Rattle.j1939_gateway.specs.Runs.{Returns}
use Rattle.j1939_gateway.specs.Table.{Meaning, table_passes}
use Rattle.j1939_gateway.specs.TableText.{IsTableText, IsTableRefusal}
use Rattle.j1939_gateway.specs.Emission.{emission}
use Rattle.j1939_gateway.specs.Filter.{Filter}
use Rattle.j1939_gateway.specs.Batches.{PortPolicies, StandsAfter}
use Rattle.example_calling.specs.declared.fault.Fault.{Fault}
use Rattle.example_calling.specs.declared.fault.Fault.TheVariants.{Record, Listing, Program, Table, OutOfMemory}
use Rattle.example_calling.specs.declared.gateway.Verdicts.{Verdicts}

-- the listing is of accepted code, and the policy is its instructions
pub record IsProgramPolicy (listing : List ℕ) (policy : Filter) : Type 0 where
  pub code : List Raw
  pub listed : IsListing listing code
  pub decoded : map Some policy.code ≡ map insn_of code
  pub accepted : IsAccepted (program_forms policy.code)
  pub bare : policy.table ≡ None

-- the text says a table, and the policy is it and its program
pub record IsTablePolicy (text : List ℕ) (policy : Filter) : Type 0 where
  pub table : Meaning
  pub read : IsTableText text table
  pub compiled : policy ≡ record { code = emission table; table = Some table }

-- one batch is in force: the listing's policy at port 1, the table's at port 2
pub record IsInForce (listing text : List ℕ) (set : PortPolicies) : Type 0 where
  pub by_program : Filter
  pub by_table : Filter
  pub listed : IsProgramPolicy listing by_program
  pub written : IsTablePolicy text by_table
  pub stands : StandsAfter set ((record { port = 1; policy = by_program } ∷ record { port = 2; policy = by_table } ∷ []) ∷ [])

-- the record's frame, taken at port 0, leaves at port 1 where the listing's program answers other than 0, and at port 2 where
-- the table passes it.
pub record AreVerdicts (listing text octets : List ℕ) (verdicts : Verdicts) : Type 0 where
  pub is_record : IsRecord octets
  pub by_program : Filter
  pub listed : IsProgramPolicy listing by_program
  pub answer : ℕ
  pub steps : ℕ
  pub returns : Returns by_program.code octets 0 answer steps
  pub passes : verdicts.by_program ≡ not (answer == 0)
  pub table : Meaning
  pub read : IsTableText text table
  pub first_match : verdicts.by_table ≡ table_passes table octets 0

-- what refuses a listing: its own refusal, or that of the code that it lists
abbrev pub IsProgramFault : List ℕ → Fault → Type 0
IsProgramFault listing (Listing why) = IsListRefusal listing why
IsProgramFault listing (Program why place) = (code : List Raw) × IsListing listing code × IsRefusal (forms_of code) why place
IsProgramFault listing _ = ⊥

-- what refuses a table's text; memory may always be wanting
abbrev pub IsTableFault : List ℕ → Fault → Type 0
IsTableFault text (Table why) = IsTableRefusal text why
IsTableFault text OutOfMemory = Unit {0}
IsTableFault text _ = ⊥

-- what refuses the two policies: what refuses the listing, or with its policy what refuses the table
abbrev pub IsPolicyFault : List ℕ → List ℕ → Fault → Type 0
IsPolicyFault listing text fault =
    IsProgramFault listing fault ⊎ ((policy : Filter) × IsProgramPolicy listing policy × IsTableFault text fault)

-- octets that are no record
abbrev pub IsRecordFault : List ℕ → Fault → Type 0
IsRecordFault octets (Record why) = refusal_of octets ≡ Some why
IsRecordFault octets _ = ⊥

-- the first refusal of all: the record's, or with the record that of the policies
abbrev pub IsFault : List ℕ → List ℕ → List ℕ → Fault → Type 0
IsFault listing text octets fault = IsRecordFault octets fault ⊎ (IsRecord octets × IsPolicyFault listing text fault)
