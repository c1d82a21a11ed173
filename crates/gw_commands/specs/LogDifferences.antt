-- What the command `diff` writes of a log by an old table and a new one: `before` and `after` are what its reader has left, `old`
-- and `new` what its writer took.
use Rattle.std.specs.Prelude.{◌≡◌, ◌⊎◌, ℕ, Bool, true, false, ◌==◌, ◌&&◌, if◌then◌else◌, List, Option}
use Rattle.gw_table.specs.Table.{Meaning}
use Rattle.gw_input.specs.Tables.{IsTable}
use Rattle.gw_judge.specs.declared.fate.Fate.{Fate}
use Rattle.gw_judge.specs.declared.counts.Counts.{Counts}
use Rattle.gw_judge.specs.declared.report.Wanted.TheVariants as wanted
use Rattle.gw_judge.specs.declared.tally.Tally.{Tally}
use Rattle.gw_judge.specs.Fates.{fate_of, changed_fate}
use Rattle.gw_judge.specs.Judged.{IsJudged, wanted_front}
use Rattle.gw_answers.specs.declared.requests.Shown.TheVariants.{Each}
use Rattle.gw_answers.specs.declared.refusal.Refusal.{Refusal}
use Rattle.gw_answers.specs.Responses.{OnlyRefuses}
use Rattle.gw_answers.specs.Policies.{RefusesFile}
use Rattle.gw_commands.specs.Differences.{RefusesEither}
use Rattle.gw_commands.specs.Judgings.{EndsEarly}
use Rattle.gw_commands.specs.Stated.{known_lines}

-- 0 where no line has a verdict, and every write succeeded
abbrev pub changed_status : Counts → Bool → ℕ
changed_status counts true = 1
changed_status counts false = if (counts.passed == 0) && (counts.blocked == 0) then 0 else 1

-- the log was judged to its end, each line with a verdict was written behind it, and the status says whether there was one; a
-- rule of the new table stands at its line
pub record IsChanged (fate : List ℕ → Fate) (lines : List ℕ) (before after old new : Option (List ℕ)) (failed : Bool)
    (status : ℕ) : Type 0 where
  pub tally : Tally
  pub judged : IsJudged fate (wanted_front lines wanted.Each) false before after old new tally
  pub told : status ≡ changed_status tally.counts failed

abbrev pub ChangesLog : (List ℕ → Fate) → List ℕ → Option (List ℕ) → Option (List ℕ) → Bool → Option (List ℕ)
    → Option (List ℕ) → Bool → ℕ → Type 0
ChangesLog fate lines before after read_failed old new failed status =
    (IsChanged fate lines before after old new failed status × (read_failed ≡ false))
    ⊎ EndsEarly fate lines Each false before after read_failed old new failed status

-- the log was judged by the tables of two texts; or a text was refused, and nothing was read
abbrev pub DiffsLog : ℕ → List ℕ → List ℕ → Option (List ℕ) → Option (List ℕ) → Bool → Option (List ℕ) → Option (List ℕ) → Bool
    → ℕ → Type 0
DiffsLog port old_text new_text before after read_failed old new failed status =
    ((was : Meaning) × (now : Meaning) × IsTable old_text was × IsTable new_text now
    × ChangesLog (fate_of (changed_fate was now port)) (known_lines new_text now) before after read_failed old new failed
    status)
    ⊎ ((refusal : Refusal) × RefusesEither old_text new_text refusal × OnlyRefuses refusal before after old new failed status)

-- the same, whatever the files hold; or a file was refused, and nothing was read
abbrev pub DiffsNamed : ℕ → Option (List ℕ) → Option (List ℕ) → Bool → Option (List ℕ) → Option (List ℕ) → Bool → ℕ → Type 0
DiffsNamed port before after read_failed old new failed status =
    ((old_text : List ℕ) × (new_text : List ℕ)
    × DiffsLog port old_text new_text before after read_failed old new failed status)
    ⊎ ((refusal : Refusal) × RefusesFile refusal × OnlyRefuses refusal before after old new failed status)
