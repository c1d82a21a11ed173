-- How the judging of a log ends: its lines are those that are asked for, and what was written behind them is told.
use Rattle.std.proofs.Common.{◌≡◌, ℕ, Bool, true, List, Option, subst}
use Rattle.gw_judge.specs.declared.fate.Fate.{Fate}
use Rattle.gw_judge.specs.declared.fault.JudgeFault.{JudgeFault}
use Rattle.gw_judge.specs.declared.fault.JudgeFault.TheVariants as ends
use Rattle.gw_judge.specs.declared.groups.Grouping.{Grouping}
use Rattle.gw_judge.specs.declared.report.Wanted.{Wanted}
use Rattle.gw_judge.specs.declared.tally.Tally.{Tally}
use Rattle.gw_judge.specs.Judged.{IsJudged, IsJudgeFault, IsPartlyJudged, wanted_front}
use Rattle.gw_answers.specs.declared.requests.Shown.{Shown}
use Rattle.gw_answers.specs.Openings.{TellsEnd}
use Rattle.gw_answers.specs.declared.requests.CountForm.{CountForm}
use Rattle.gw_commands.specs.Judgings.{EndsEarly, IsEnded, TellsCounts, wanted_of}
use Rattle.gw_commands.specs.ToldCounts.{told_counts}

pub ended : (fate : List ℕ → Fate) (lines : List ℕ) (counts : CountForm → Tally → List ℕ) (by : Grouping)
    (shown : Shown) (strict : Bool) (before after old middle new : Option (List ℕ)) (failed : Bool) (status : ℕ) (tally : Tally)
    (w : Wanted) → w ≡ wanted_of shown → IsJudged fate (wanted_front lines w) strict before after old middle tally
    → tally.groups.grouping ≡ by → TellsCounts (told_counts counts by) shown tally middle new failed status
    → IsEnded fate lines counts by shown strict before after old new failed status
ended fate lines counts by shown strict before after old middle new failed status tally w same judged grouped told = record {
  tally = tally;
  middle = middle;
  judged = subst (λ w. IsJudged fate (wanted_front lines w) strict before after old middle tally) same judged;
  grouped = grouped;
  told = told;
}

-- a write that failed has failed later too
fault_later : (fate : List ℕ → Fate) (front : Fate → Option (List ℕ)) (strict read_failed failed later : Bool) (log : List ℕ)
    (old new : Option (List ℕ)) (why : JudgeFault) → (failed ≡ true → later ≡ true)
    → IsJudgeFault fate front strict read_failed failed log old new why
    → IsJudgeFault fate front strict read_failed later log old new why
fault_later fate front strict read_failed failed later log old new ends.ReadFault stays is = is
fault_later fate front strict read_failed failed later log old new ends.WriteFault stays is = stays is
fault_later fate front strict read_failed failed later log old new (ends.Refused refused) stays is = is

judged_later : (fate : List ℕ → Fate) (front : Fate → Option (List ℕ)) (strict : Bool)
    (before after old new : Option (List ℕ)) (read_failed failed later : Bool) (why : JudgeFault)
    → (failed ≡ true → later ≡ true)
    → IsPartlyJudged fate front strict before after old new read_failed failed why
    → IsPartlyJudged fate front strict before after old new read_failed later why
judged_later fate front strict before after old new read_failed failed later why stays part = record {
  log = part.log;
  consumed = part.consumed;
  written = part.written;
  fault = fault_later fate front strict read_failed failed later part.log old new why stays part.fault;
}

pub ended_early : (fate : List ℕ → Fate) (lines : List ℕ) (shown : Shown) (strict : Bool)
    (before after : Option (List ℕ)) (read_failed : Bool)
    (old middle new : Option (List ℕ)) (failed later : Bool) (status : ℕ) (why : JudgeFault) (w : Wanted)
    → w ≡ wanted_of shown
    → IsPartlyJudged fate (wanted_front lines w) strict before after old middle read_failed failed why
    → (failed ≡ true → later ≡ true) → TellsEnd shown why middle new later status
    → EndsEarly fate lines shown strict before after read_failed old new later status
ended_early fate lines shown strict before after read_failed old middle new failed later status why w same part stays told =
    record {
      fault = why;
      middle = middle;
      judged = subst (λ w. IsPartlyJudged fate (wanted_front lines w) strict before after old middle read_failed later why) same
          (judged_later fate (wanted_front lines w) strict before after old middle read_failed failed later why stays part);
      told = told;
    }
