-- What the command `table` answers and refuses.
use Rattle.std.specs.Prelude.{◌≡◌, ℕ, ◌⊎◌, List, [], ◌∷◌, ◌++◌, map, Option, Some, None}
use Rattle.gw_insn.specs.Table.{raw_of}
use Rattle.gw_insn.specs.Spelling.{plain_listing}
use Rattle.gw_table.specs.Table.{Meaning, table_passes}
use Rattle.gw_table.specs.Emission.{emission}
use Rattle.gw_input.specs.Tables.{IsTable}
use Rattle.gw_answers.specs.declared.answer.Answer.{Answer}
use Rattle.gw_answers.specs.declared.answer.Answer.TheVariants.{Passes, Text}
use Rattle.gw_answers.specs.declared.refusal.Refusal.{Refusal}
use Rattle.gw_answers.specs.declared.frames.FrameWord.{FrameWord}
use Rattle.gw_answers.specs.Frames.{MeansFrame, RefusesFrame}
use Rattle.gw_answers.specs.Texts.{RefusesText}

-- the listing of a table's program, and a line feed
abbrev pub compiled_line : Meaning → List ℕ
compiled_line table = plain_listing (map raw_of (emission table)) ++ 10 ∷ []

-- the program's listing, or with a word for a frame whether the table passes it
abbrev pub AnswersTable : Option FrameWord → ℕ → List ℕ → Answer → Type 0
AnswersTable None port input (Text line) = (table : Meaning) × IsTable input table × (line.items ≡ compiled_line table)
AnswersTable (Some word) port input (Passes passes) =
    (table : Meaning) × (octets : List ℕ) × MeansFrame word octets × IsTable input table
    × (passes ≡ table_passes table octets port)
AnswersTable _ port input _ = ⊥

-- the first refusal: the frame's, or with a frame the table's
abbrev pub RefusesTable : Option FrameWord → List ℕ → Refusal → Type 0
RefusesTable None input refusal = RefusesText input refusal
RefusesTable (Some word) input refusal =
    RefusesFrame word refusal ⊎ ((octets : List ℕ) × MeansFrame word octets × RefusesText input refusal)
