-- What answers the input of a command that reads it whole, and which refusal is its first.
use Rattle.std.specs.Prelude.{ℕ, ◌⊎◌, Bool, List, Option, Err}
use Rattle.gw_answers.specs.declared.answer.Answer.{Answer}
use Rattle.gw_answers.specs.declared.refusal.Refusal.{Refusal}
use Rattle.gw_answers.specs.declared.requests.Query.{Query}
use Rattle.gw_answers.specs.declared.requests.Query.TheVariants as query
use Rattle.gw_answers.specs.declared.requests.Query.TheVariants.{Verdict, Check, Asm, Claims, Table, Show, Ask}
use Rattle.gw_answers.specs.Responses.{Writes}
use Rattle.gw_answers.specs.Requests.{tells_blocked}
use Rattle.gw_answers.specs.Policies.{RefusesFile}
use Rattle.gw_answers.specs.Texts.{RefusesText}
use Rattle.gw_commands.specs.Assemblies.{AnswersAsm, RefusesAsm, AnswersList, RefusesList}
use Rattle.gw_commands.specs.Checks.{AnswersCheck, RefusesCheck}
use Rattle.gw_commands.specs.ClaimLines.{AnswersClaims, RefusesClaims}
use Rattle.gw_commands.specs.Commands.{DoesOn}
use Rattle.gw_commands.specs.Questions.{AnswersAsk}
use Rattle.gw_commands.specs.Shown.{AnswersShow}
use Rattle.gw_commands.specs.Tables.{AnswersTable, RefusesTable}
use Rattle.gw_commands.specs.Verdicts.{AnswersVerdict, RefusesVerdict}

abbrev pub AnswersQuery : Query → List ℕ → Answer → Type 0
AnswersQuery (Verdict port word tells) input answer = AnswersVerdict word port input answer
AnswersQuery Check input answer = AnswersCheck input answer
AnswersQuery Asm input answer = AnswersAsm input answer
AnswersQuery query.List input answer = AnswersList input answer
AnswersQuery Claims input answer = AnswersClaims input answer
AnswersQuery (Table port frame why tells) input answer = AnswersTable frame port input answer
AnswersQuery Show input answer = AnswersShow input answer
AnswersQuery (Ask question) input answer = AnswersAsk question input answer

abbrev pub RefusesQuery : Query → List ℕ → Refusal → Type 0
RefusesQuery (Verdict port word tells) input refusal = RefusesVerdict word input refusal
RefusesQuery Check input refusal = RefusesCheck input refusal
RefusesQuery Asm input refusal = RefusesAsm input refusal
RefusesQuery query.List input refusal = RefusesList input refusal
RefusesQuery Claims input refusal = RefusesClaims input refusal
RefusesQuery (Table port frame why tells) input refusal = RefusesTable frame input refusal
RefusesQuery Show input refusal = RefusesText input refusal
RefusesQuery (Ask question) input refusal = RefusesText input refusal

-- a query was answered from a file, whatever it holds; or the file was refused
abbrev pub AnswersNamed : Query → Option (List ℕ) → Option (List ℕ) → Bool → ℕ → Type 0
AnswersNamed query old new failed status =
    ((input : List ℕ) × DoesOn (AnswersQuery query) (RefusesQuery query) (tells_blocked query) input old new failed status)
    ⊎ ((refusal : Refusal) × RefusesFile refusal × Writes (Err refusal) status old new failed)
