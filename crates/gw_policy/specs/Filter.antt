-- What a policy is, and what it passes.
use Rattle.std.specs.Prelude.{◌≡◌, ℕ, ◌<◌, ◌↔◌, Bool, false, not, ◌==◌, List, Option, MatchOption}
use Rattle.std.specs.Option.{option_map_or}
use Rattle.gw_frame.specs.Record.{IsRecord}
use Rattle.gw_insn.specs.declared.insn.Insn.{Insn}
use Rattle.gw_verify.specs.Flow.{program_forms}
use Rattle.gw_verify.specs.Accepted.{IsAccepted}
use Rattle.gw_machine.specs.Answers.{answer_of, steps_of}
use Rattle.gw_table.specs.Table.{Meaning, table_passes}
use Rattle.gw_table.specs.Emission.{emission}

-- a program, and the table that it was compiled from, if it was
pub record Filter : Type 0 where
  pub code : List Insn
  pub table : Option Meaning

-- whether a frame that was taken at a port passes: a table by its rules, a program by an answer other than 0
abbrev pub filter_passes : Filter → List ℕ → ℕ → Bool
filter_passes filter octets port =
    option_map_or (λ table. table_passes table octets port) filter.table (not (answer_of filter.code octets port == 0))

-- how many instructions the program takes for the frame
abbrev pub filter_steps : Filter → List ℕ → ℕ → ℕ
filter_steps filter octets port = steps_of filter.code octets port

-- the code answers 0 on exactly the frames that the table blocks
abbrev pub Means : List Insn → Meaning → Type 0
Means code table =
    (octets : List ℕ) (port : ℕ) → IsRecord octets → port < 256
    → (answer_of code octets port ≡ 0) ↔ (table_passes table octets port ≡ false)

-- the program is accepted, and a table is what it was compiled from and means the same
pub record IsFilter (filter : Filter) : Type 0 where
  pub accepted : IsAccepted (program_forms filter.code)
  pub emitted : MatchOption filter.table (Unit {0}) (λ table. filter.code ≡ emission table)
  pub means : MatchOption filter.table (Unit {0}) (Means filter.code)
