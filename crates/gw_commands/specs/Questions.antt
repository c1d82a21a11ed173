-- What the command `ask` tells of a table and a question.
use Rattle.std.specs.Prelude.{◌≡◌, ℕ, Bool, true, false, List, ◌++◌, codes}
use Rattle.gw_table.specs.declared.question.Answer.{Answer}
use Rattle.gw_table.specs.declared.question.Answer.TheVariants.{AllPass, NonePass, SomePass, NoFrame}
use Rattle.gw_table.specs.declared.question.Question.{Question}
use Rattle.gw_table.specs.declared.question.Sample.{Sample}
use Rattle.gw_table.specs.Question.{IsAnswer, why_text}
use Rattle.gw_answers.specs.declared.answer.Answer as command
use Rattle.gw_answers.specs.declared.answer.Answer.TheVariants.{Text}
use Rattle.gw_commands.specs.declared.stated.StatedTable.{StatedTable}
use Rattle.gw_commands.specs.Stated.{IsStated}
use Rattle.gw_commands.specs.Differences.{side_text, place_text}

-- the line of a frame: what decides it, whether the table passes it, the frame and its port
abbrev pub sample_line : StatedTable → Bool → Sample → List ℕ
sample_line stated passes sample = side_text stated sample.by passes ++ codes ": " ++ place_text sample.frame sample.port

-- all that is asked for passes, or none, or a frame that passes and one that does not, or why no frame is asked for
abbrev pub table_answer_text : StatedTable → Answer → List ℕ
table_answer_text stated (AllPass sample) = codes "all pass\n"
table_answer_text stated (NonePass sample) = codes "none pass\n"
table_answer_text stated (SomePass passing blocked) =
    sample_line stated true passing ++ sample_line stated false blocked
table_answer_text stated (NoFrame why) = codes "no frame: " ++ why_text why ++ codes "\n"

-- a text that tells what the table does to the frames that are asked for
pub record TellsAnswer (stated : StatedTable) (question : Question) (text : List ℕ) : Type 0 where
  pub answer : Answer
  pub is_answer : IsAnswer stated.table question answer
  pub told : text ≡ table_answer_text stated answer

abbrev pub AnswersAsk : Question → List ℕ → command.Answer → Type 0
AnswersAsk question input (Text text) =
    (stated : StatedTable) × IsStated input stated × TellsAnswer stated question text.items
AnswersAsk question input _ = ⊥
