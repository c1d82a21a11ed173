-- What is written of what a command found, and the status: `old` and `new` are what its writer took.
use Rattle.std.specs.Prelude.{◌≡◌, ℕ, Bool, true, false, List, Option, Result, Ok, Err}
use Rattle.std.specs.Io.KnownBytes.{Appends}
use Rattle.gw_io.specs.Written.{WritesPart}
use Rattle.gw_answers.specs.declared.answer.Answer.{Answer}
use Rattle.gw_answers.specs.declared.refusal.Refusal.{Refusal}
use Rattle.gw_answers.specs.Answers.{answer_text, answer_status}
use Rattle.gw_answers.specs.Refusals.{refusal_text}

-- the output for what was found, and the status
abbrev pub found_text : Result Answer Refusal → List ℕ
found_text (Ok answer) = answer_text answer
found_text (Err refusal) = refusal_text refusal

abbrev pub found_status : Bool → Result Answer Refusal → ℕ
found_status tells (Ok answer) = answer_status tells answer
found_status tells (Err refusal) = 1

-- a text was written, with the status `done`; where a write failed, a beginning of it, with status 1
abbrev pub WritesText : List ℕ → ℕ → ℕ → Option (List ℕ) → Option (List ℕ) → Bool → Type 0
WritesText text done status old new false = (status ≡ done) × Appends old new text
WritesText text done status old new true = (status ≡ 1) × WritesPart old new text

-- the text for what was found was written, with its status, which may be to tell that a frame is blocked
abbrev pub WritesFound : Bool → Result Answer Refusal → ℕ → Option (List ℕ) → Option (List ℕ) → Bool → Type 0
WritesFound tells found status old new failed = WritesText (found_text found) (found_status tells found) status old new failed

abbrev pub Writes : Result Answer Refusal → ℕ → Option (List ℕ) → Option (List ℕ) → Bool → Type 0
Writes found status old new failed = WritesFound false found status old new failed

-- a refusal was written, and nothing was read: the reader has left `after`, what it had `before`
abbrev pub OnlyRefuses : Refusal → Option (List ℕ) → Option (List ℕ) → Option (List ℕ) → Option (List ℕ) → Bool → ℕ → Type 0
OnlyRefuses refusal before after old new failed status = (after ≡ before) × Writes (Err refusal) status old new failed
