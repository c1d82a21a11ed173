-- What a program answers on a record, both given as text.
use Rattle.std.specs.Prelude.{ℕ, ◌⊎◌, List, [], Option, Some, None}
use Rattle.gw_insn.specs.declared.insn.Insn.{Insn}
use Rattle.gw_machine.specs.Runs.{Returns}
use Rattle.gw_answers.specs.declared.answer.Answer.{Answer}
use Rattle.gw_answers.specs.declared.answer.Answer.TheVariants.{Verdict}
use Rattle.gw_input.specs.Programs.{NamesProgram}
use Rattle.gw_answers.specs.declared.frames.FrameWord.{FrameWord}
use Rattle.gw_answers.specs.Frames.{MeansFrame, RefusesFrame, RefusesRecord}
use Rattle.gw_answers.specs.declared.refusal.Refusal.{Refusal}
use Rattle.gw_answers.specs.Texts.{IsProgramRefusal}
use Rattle.gw_input.specs.Lines.{first_line, behind_first}
use Rattle.gw_input.specs.Records.{NamesRecord}

-- the record that is judged: a word of the command line says it, else the input's first line names it
abbrev pub IsJudged : Option FrameWord → List ℕ → List ℕ → Type 0
IsJudged (Some word) input octets = MeansFrame word octets
IsJudged None input octets = NamesRecord (first_line input) octets

abbrev pub RefusesJudged : Option FrameWord → List ℕ → Refusal → Type 0
RefusesJudged (Some word) input refusal = RefusesFrame word refusal
RefusesJudged None input refusal = RefusesRecord (first_line input) refusal

-- the listing: the whole input, or what stands behind its first line
abbrev pub behind : Option (List ℕ) → List ℕ
behind (Some text) = text
behind None = []

abbrev pub listing_text : Option FrameWord → List ℕ → List ℕ
listing_text (Some word) input = input
listing_text None input = behind (behind_first input)

-- the program of the listing, run on the record that was taken at a port, returns this answer
pub record IsVerdict (word : Option FrameWord) (input : List ℕ) (port answer : ℕ) : Type 0 where
  pub octets : List ℕ
  pub program : List Insn
  pub steps : ℕ
  pub judged : IsJudged word input octets
  pub listed : NamesProgram (listing_text word input) program
  pub returns : Returns program octets port answer steps

-- What the command `verdict` answers and refuses, with a word of the command line for the record or without, and for a taking
-- port.
abbrev pub AnswersVerdict : Option FrameWord → ℕ → List ℕ → Answer → Type 0
AnswersVerdict word port input (Verdict answer) = IsVerdict word input port answer
AnswersVerdict word port input _ = ⊥

-- the first refusal: the record's, or with a record the listing's
abbrev pub RefusesVerdict : Option FrameWord → List ℕ → Refusal → Type 0
RefusesVerdict word input refusal =
    RefusesJudged word input refusal
    ⊎ ((octets : List ℕ) × IsJudged word input octets × IsProgramRefusal (listing_text word input) refusal)
