-- What the calls leave in the memory of the driver.
use Rattle.std.specs.Prelude.{◌≡◌, ℕ, ◌==◌, Bool, if◌then◌else◌, List, length, take, map, Some, Ok, All}
use Rattle.gw_frame.specs.Record.{IsRecord}
use Rattle.gw_insn.specs.declared.insn.Insn.{Insn}
use Rattle.gw_insn.specs.declared.insn.Raw.{Raw}
use Rattle.gw_insn.specs.Table.{insn_of, raw_of}
use Rattle.gw_verify.specs.Flow.{forms_of}
use Rattle.gw_verify.specs.Accepted.{IsAccepted}
use Rattle.gw_machine.specs.Answers.{answer_of}
use Rattle.gw_table.specs.Table.{Meaning, table_passes}
use Rattle.gw_table.specs.TableText.{IsTableText}
use Rattle.gw_table.specs.Emission.{emission}
use Rattle.gw_text.specs.Assembly.{Assembles}
use Rattle.gw_trace.specs.Traces.{whole_trace}
use Rattle.bench_calls.specs.declared.interchange.BpfInsn.{BpfInsn}
use Rattle.bench_calls.specs.declared.interchange.Record.{Record}

-- the four fields of the driver's instruction
abbrev pub fields_of : BpfInsn → Raw
fields_of insn = record { code = insn.code; jt = insn.jt; jf = insn.jf; k = insn.k }

-- the driver's code is accepted, and spells this program
pub record Spells (code : List BpfInsn) (program : List Insn) : Type 0 where
  pub accepted : IsAccepted (forms_of (map fields_of code))
  pub decoded : map Some program ≡ map insn_of (map fields_of code)

-- the octets of each of the driver's records
abbrev pub octets_of : List Record → List (List ℕ)
octets_of records = map (λ r. r.octets) records

-- what so many rounds leave, each of which writes the same: with none, what was there
abbrev pub after : {A : Type 0} → ℕ → List A → List A → List A
after rounds old written = if rounds == 0 then old else written

-- the answers of the code's program on the records, taken at port 0
pub record IsRun (code : List BpfInsn) (records : List Record) (rounds : ℕ) (old new : List ℕ) : Type 0 where
  pub program : List Insn
  pub spelled : Spells code program
  pub valid : All IsRecord (octets_of records)
  pub answers : new ≡ after rounds old (map (λ octets. answer_of program octets 0) (octets_of records))

-- the verdicts of the text's table on the records, taken at port 0
pub record IsJudged (text : List ℕ) (records : List Record) (rounds : ℕ) (old new : List Bool) : Type 0 where
  pub table : Meaning
  pub said : IsTableText text table
  pub valid : All IsRecord (octets_of records)
  pub verdicts : new ≡ after rounds old (map (λ octets. table_passes table octets 0) (octets_of records))

-- the program of the text's table stands in front, so many instructions
pub record IsCompiled (text : List ℕ) (count : ℕ) (code : List BpfInsn) : Type 0 where
  pub table : Meaning
  pub said : IsTableText text table
  pub counted : count ≡ length (emission table)
  pub emitted : map fields_of (take count code) ≡ map raw_of (emission table)

-- the text means code of so many instructions
pub record IsAssembled (text : List ℕ) (count : ℕ) : Type 0 where
  pub code : List Raw
  pub assembled : Assembles text code
  pub counted : count ≡ length code

-- the octets are a whole trace
pub record IsWhole (octets : List ℕ) : Type 0 where
  pub frames : List (List ℕ)
  pub read : whole_trace octets ≡ Ok frames
