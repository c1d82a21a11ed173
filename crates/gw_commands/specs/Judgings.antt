-- What the command `judge` reads and writes: `before` and `after` are what its reader has left, `old` and `new` what its writer
-- took.
use Rattle.std.specs.Prelude.{◌≡◌, ◌≢◌, ◌⊎◌, ℕ, Bool, true, false, List, [], ◌∷◌, Option, None, Err}
use Rattle.gw_insn.specs.declared.insn.Insn.{Insn}
use Rattle.gw_table.specs.Table.{Meaning}
use Rattle.gw_input.specs.Programs.{NamesProgram}
use Rattle.gw_input.specs.Tables.{IsTable}
use Rattle.gw_input.specs.Refused.{refused_line}
use Rattle.gw_frame.specs.Record as frame
use Rattle.gw_trace.specs.Refusals as trace
use Rattle.gw_trace.specs.declared.refusal.TraceRefusal.{TraceRefusal}
use Rattle.gw_trace.specs.declared.refusal.TraceRefusal.TheVariants.{BadRecord}
use Rattle.gw_judge.specs.declared.capture_fault.CaptureFault.{CaptureFault}
use Rattle.gw_judge.specs.declared.capture_tally.CaptureTally.{CaptureTally}
use Rattle.gw_judge.specs.declared.fate.Fate.{Fate}
use Rattle.gw_judge.specs.declared.fault.JudgeFault.{JudgeFault}
use Rattle.gw_judge.specs.declared.groups.Grouping.{Grouping}
use Rattle.gw_judge.specs.declared.groups.Grouping.TheVariants as grouping
use Rattle.gw_judge.specs.declared.report.Wanted.{Wanted}
use Rattle.gw_judge.specs.declared.report.Wanted.TheVariants as wanted
use Rattle.gw_judge.specs.declared.tally.Tally.{Tally}
use Rattle.gw_judge.specs.Captures.{IsCaptureJudged, IsCapturePartlyJudged, with_refused}
use Rattle.gw_judge.specs.Fates.{fate_of, policy_fate, table_fate}
use Rattle.gw_judge.specs.Judged.{IsJudged, IsPartlyJudged, wanted_front}
use Rattle.gw_judge.specs.FirstOctets.{Opens, is_capture}
use Rattle.gw_answers.specs.declared.requests.LogQuery.{LogQuery}
use Rattle.gw_answers.specs.declared.requests.PolicyKind.{PolicyKind}
use Rattle.gw_answers.specs.declared.requests.PolicyKind.TheVariants as kind
use Rattle.gw_answers.specs.declared.requests.Shown.{Shown}
use Rattle.gw_answers.specs.declared.requests.Shown.TheVariants.{Counts, Passed, Blocked, Each}
use Rattle.gw_answers.specs.declared.requests.CountForm.{CountForm}
use Rattle.gw_answers.specs.declared.refusal.Refusal.{Refusal}
use Rattle.gw_answers.specs.declared.refusal.Refusal.TheVariants.{OutOfMemory}
use Rattle.gw_answers.specs.Openings.{TellsEnd, HasNoLines, FailsToOpen}
use Rattle.gw_answers.specs.Responses.{Writes, WritesText, OnlyRefuses}
use Rattle.gw_answers.specs.Policies.{RefusesFile}
use Rattle.gw_answers.specs.Texts.{RefusesText, IsProgramRefusal}
use Rattle.gw_commands.specs.Stated.{known_lines}
use Rattle.gw_commands.specs.ToldCounts.{policy_told, table_told, told_counts}

-- which lines are written
abbrev pub wanted_of : Shown → Wanted
wanted_of (Counts form) = wanted.Nothing
wanted_of Passed = wanted.Passed
wanted_of Blocked = wanted.Blocked
wanted_of Each = wanted.Each

-- what stands behind the lines of a log: the counts where they are asked for
abbrev pub counts_behind : (CountForm → Tally → List ℕ) → Shown → Tally → List ℕ
counts_behind counts (Counts form) tally = counts form tally
counts_behind counts Passed tally = []
counts_behind counts Blocked tally = []
counts_behind counts Each tally = []

-- the counts were written, with status 0; or memory was wanting for them
abbrev pub TellsCounts : (CountForm → Tally → List ℕ) → Shown → Tally → Option (List ℕ) → Option (List ℕ) → Bool → ℕ → Type 0
TellsCounts counts shown tally old new failed status =
    WritesText (counts_behind counts shown tally) 0 status old new failed
    ⊎ ((form : CountForm) × (shown ≡ Counts form) × Writes (Err OutOfMemory) status old new failed)

-- the log was judged to its end, its frames were counted in these groups, and the counts told; a rule stands at its line
pub record IsEnded (fate : List ℕ → Fate) (lines : List ℕ) (counts : CountForm → Tally → List ℕ) (by : Grouping) (shown : Shown)
    (strict : Bool) (before after old new : Option (List ℕ)) (failed : Bool) (status : ℕ) : Type 0 where
  pub tally : Tally
  pub middle : Option (List ℕ)
  pub judged : IsJudged fate (wanted_front lines (wanted_of shown)) strict before after old middle tally
  pub grouped : tally.groups.grouping ≡ by
  pub told : TellsCounts (told_counts counts by) shown tally middle new failed status

-- the log ended early, and it is told why
pub record EndsEarly (fate : List ℕ → Fate) (lines : List ℕ) (shown : Shown) (strict : Bool)
    (before after : Option (List ℕ)) (read_failed : Bool) (old new : Option (List ℕ)) (failed : Bool) (status : ℕ) : Type 0 where
  pub fault : JudgeFault
  pub middle : Option (List ℕ)
  pub judged : IsPartlyJudged fate (wanted_front lines (wanted_of shown)) strict before after old middle read_failed failed fault
  pub told : TellsEnd shown fault middle new failed status

abbrev pub EndsLog : (List ℕ → Fate) → List ℕ → (CountForm → Tally → List ℕ) → Grouping → Shown → Bool → Option (List ℕ)
    → Option (List ℕ) → Bool → Option (List ℕ) → Option (List ℕ) → Bool → ℕ → Type 0
EndsLog fate lines counts by shown strict before after read_failed old new failed status =
    (IsEnded fate lines counts by shown strict before after old new failed status × (read_failed ≡ false))
    ⊎ EndsEarly fate lines shown strict before after read_failed old new failed status

-- ---- captures

-- the line of what ends a capture early: of a record that is no frame its index, and the number of what is wrong with it
abbrev pub capture_line : TraceRefusal → List ℕ
capture_line (BadRecord index why) = refused_line 93 (index ∷ frame.refusal_number why ∷ [])
capture_line why = refused_line (trace.refusal_number why) []

-- the records of a capture were judged to its end and its frames counted in these groups, and the counts told
pub record IsCaptureEnded (fate : List ℕ → Fate) (counts : CountForm → Tally → List ℕ) (by : Grouping) (form : CountForm)
    (strict : Bool) (first : List ℕ) (before after old new : Option (List ℕ)) (failed : Bool) (status : ℕ) : Type 0 where
  pub records : CaptureTally
  pub judged : IsCaptureJudged fate strict first before after records
  pub grouped : records.frames.groups.grouping ≡ by
  pub told : TellsCounts (told_counts counts by) (Counts form) (with_refused records.refused records.frames) old new failed status

-- the capture ended early, and it is told why
pub record CaptureEndsEarly (strict : Bool) (first : List ℕ) (before after : Option (List ℕ)) (read_failed : Bool)
    (old new : Option (List ℕ)) (failed : Bool) (status : ℕ) : Type 0 where
  pub fault : CaptureFault
  pub judged : IsCapturePartlyJudged strict first before after read_failed fault.judged fault.why
  pub told : WritesText (capture_line fault.why) 1 status old new failed

abbrev pub CountsCapture : (List ℕ → Fate) → (CountForm → Tally → List ℕ) → Grouping → CountForm → Bool → List ℕ → Option (List ℕ)
    → Option (List ℕ) → Bool → Option (List ℕ) → Option (List ℕ) → Bool → ℕ → Type 0
CountsCapture fate counts by form strict first before after read_failed old new failed status =
    (IsCaptureEnded fate counts by form strict first before after old new failed status × (read_failed ≡ false))
    ⊎ CaptureEndsEarly strict first before after read_failed old new failed status

abbrev pub EndsCapture : (List ℕ → Fate) → (CountForm → Tally → List ℕ) → Grouping → Shown → Bool → List ℕ → Option (List ℕ)
    → Option (List ℕ) → Bool → Option (List ℕ) → Option (List ℕ) → Bool → ℕ → Type 0
EndsCapture fate counts by (Counts form) strict first before after read_failed old new failed status =
    CountsCapture fate counts by form strict first before after read_failed old new failed status
EndsCapture fate counts by Passed strict first before after read_failed old new failed status =
    HasNoLines before after read_failed old new failed status
EndsCapture fate counts by Blocked strict first before after read_failed old new failed status =
    HasNoLines before after read_failed old new failed status
EndsCapture fate counts by Each strict first before after read_failed old new failed status =
    HasNoLines before after read_failed old new failed status

-- ---- any input

-- a log, or a capture where these first octets are a magic number
abbrev pub EndsOpened : Bool → (List ℕ → Fate) → List ℕ → (CountForm → Tally → List ℕ) → Grouping → Shown → Bool → List ℕ
    → Option (List ℕ) → Option (List ℕ) → Option (List ℕ) → Bool → Option (List ℕ) → Option (List ℕ) → Bool → ℕ → Type 0
EndsOpened true fate lines counts by shown strict first before middle after read_failed old new failed status =
    EndsCapture fate counts by shown strict first middle after read_failed old new failed status
EndsOpened false fate lines counts by shown strict first before middle after read_failed old new failed status =
    EndsLog (fate_of fate) lines counts by shown strict before after read_failed old new failed status

-- the first octets tell a capture from a log: this becomes of each frame of a capture, and of a line that says such a frame
abbrev pub EndsInput : (List ℕ → Fate) → List ℕ → (CountForm → Tally → List ℕ) → Grouping → Shown → Bool → Option (List ℕ)
    → Option (List ℕ) → Bool → Option (List ℕ) → Option (List ℕ) → Bool → ℕ → Type 0
EndsInput fate lines counts by shown strict before after read_failed old new failed status =
    ((first : List ℕ) × (middle : Option (List ℕ)) × Opens before middle first
    × EndsOpened (is_capture first) fate lines counts by shown strict first before middle after read_failed old new failed status)
    ⊎ FailsToOpen shown before after read_failed old new failed status

-- the same; or memory was wanting for groups that are asked for, and nothing was read
abbrev pub JudgesGroups : (List ℕ → Fate) → List ℕ → (CountForm → Tally → List ℕ) → Grouping → Shown → Bool → Option (List ℕ)
    → Option (List ℕ) → Bool → Option (List ℕ) → Option (List ℕ) → Bool → ℕ → Type 0
JudgesGroups fate lines counts by shown strict before after read_failed old new failed status =
    EndsInput fate lines counts by shown strict before after read_failed old new failed status
    ⊎ ((by ≢ grouping.Nothing) × OnlyRefuses OutOfMemory before after old new failed status)

-- what becomes of each frame, where the rules stand, and how it is told: by the table of a text, or by the program of a listing
abbrev pub Decides : PolicyKind → ℕ → List ℕ → (List ℕ → Fate) → List ℕ → (CountForm → Tally → List ℕ) → Type 0
Decides kind.Table port text fate lines counts =
    (table : Meaning) × IsTable text table × (fate ≡ table_fate table port)
    × (lines ≡ known_lines text table) × (counts ≡ table_told table lines)
Decides kind.Listing port text fate lines counts =
    (program : List Insn) × NamesProgram text program
    × (fate ≡ policy_fate (record { code = program; table = None }) port)
    × (lines ≡ []) × (counts ≡ policy_told (record { code = program; table = None }) lines)

abbrev pub RefusesPolicy : PolicyKind → List ℕ → Refusal → Type 0
RefusesPolicy kind.Table text refusal = RefusesText text refusal
RefusesPolicy kind.Listing text refusal = IsProgramRefusal text refusal

-- the log was judged by the policy of a text; or the policy was refused, and nothing was read
abbrev pub JudgesLog : LogQuery → List ℕ → Option (List ℕ) → Option (List ℕ) → Bool → Option (List ℕ) → Option (List ℕ) → Bool
    → ℕ → Type 0
JudgesLog query text before after read_failed old new failed status =
    ((fate : List ℕ → Fate) × (lines : List ℕ) × (counts : CountForm → Tally → List ℕ)
    × Decides query.kind query.port text fate lines counts
    × JudgesGroups fate lines counts query.by query.shown query.strict before after read_failed old new failed status)
    ⊎ ((refusal : Refusal) × RefusesPolicy query.kind text refusal × OnlyRefuses refusal before after old new failed status)

-- the same, whatever the policy's file holds; or the file was refused, and nothing was read
abbrev pub JudgesNamed : LogQuery → Option (List ℕ) → Option (List ℕ) → Bool → Option (List ℕ) → Option (List ℕ) → Bool → ℕ
    → Type 0
JudgesNamed query before after read_failed old new failed status =
    ((text : List ℕ) × JudgesLog query text before after read_failed old new failed status)
    ⊎ ((refusal : Refusal) × RefusesFile refusal × OnlyRefuses refusal before after old new failed status)
