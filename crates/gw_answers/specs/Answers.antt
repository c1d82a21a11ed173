-- What commands write where they refuse nothing.
use Rattle.std.specs.Prelude.{ℕ, Bool, true, false, ◌==◌, if◌then◌else◌, List, [], ◌∷◌, ◌++◌, codes, decimal}
use Rattle.gw_answers.specs.declared.answer.Answer.{Answer}
use Rattle.gw_answers.specs.declared.answer.Answer.TheVariants.{Verdict, Accepted, Passes, Text}

-- `block` for the answer 0, else `pass` and the answer
abbrev pub verdict_line : ℕ → List ℕ
verdict_line answer = if answer == 0 then codes "block\n" else codes "pass " ++ decimal answer ++ 10 ∷ []

abbrev pub accepted_line : ℕ → List ℕ
accepted_line count = codes "accepted " ++ decimal count ++ 10 ∷ []

abbrev pub passes_line : Bool → List ℕ
passes_line passes = if passes then codes "pass\n" else codes "block\n"

abbrev pub answer_text : Answer → List ℕ
answer_text (Verdict answer) = verdict_line answer
answer_text (Accepted count) = accepted_line count
answer_text (Passes passes) = passes_line passes
answer_text (Text octets) = octets.items

-- the exit status for an answer: 3 for a frame that is blocked, where the status is to tell it
abbrev pub answer_status : Bool → Answer → ℕ
answer_status false answer = 0
answer_status true (Verdict answer) = if answer == 0 then 3 else 0
answer_status true (Passes passes) = if passes then 0 else 3
answer_status true _ = 0
