-- What is done for the arguments of a command line: `before` and `after` are what the reader has left, `old` and `new` what
-- the output took, `told_old` and `told_new` what stderr took. Which arguments ask for what is not said here.
use Rattle.std.specs.Prelude.{◌≡◌, ℕ, ◌⊎◌, Bool, true, false, if◌then◌else◌, List, Option, Err, is_some, vec_len}
use Rattle.std.specs.List.{list_any}
use Rattle.clap.specs.declared.error.kind.ErrorKind.{ErrorKind}
use Rattle.clap.specs.declared.error.kind.ErrorKind.TheVariants.{DisplayHelp, DisplayVersion}
use Rattle.gw_arguments.specs.declared.run_arguments.RunRequest.{RunRequest}
use Rattle.gw_answers.specs.Responses.{Writes, WritesText}
use Rattle.gw_answers.specs.declared.policies.PolicySource.{PolicySource}
use Rattle.gw_answers.specs.Requests.{tells_blocked}
use Rattle.gw_answers.specs.declared.requests.PortFiles.{PortFiles}
use Rattle.gw_answers.specs.declared.requests.LogQuery.{LogQuery}
use Rattle.gw_answers.specs.declared.requests.Query.{Query}
use Rattle.gw_answers.specs.declared.refusal.Refusal.TheVariants.{OutOfMemory}
use Rattle.gw_commands.specs.Commands.{Does}
use Rattle.gw_run.specs.Forwarding.{ForwardsNamed}
use Rattle.gw_run.specs.PortInputs.{ForwardsFiles}
use Rattle.gw_run.specs.declared.lines.Shown.{Shown}
use Rattle.gw_run.specs.declared.lines.Shown.TheVariants.{Lines, Json}
use Rattle.gw_run.specs.declared.taking.Taking.{Taking}
use Rattle.gw_run.specs.Egress.{WritesEgressNamed}
use Rattle.gw_judge.specs.declared.interfaces.NamedInterface.{NamedInterface}
use Rattle.gw_commands.specs.Differences.{ComparesNamed}
use Rattle.gw_commands.specs.PortDifferences.{ComparesNamedPorts}
use Rattle.gw_commands.specs.Judgings.{JudgesNamed}
use Rattle.gw_commands.specs.LogClaims.{TellsHolders, TellsHoldersNamed}
use Rattle.gw_commands.specs.LogDifferences.{DiffsNamed}
use Rattle.gw_commands.specs.Replays.{Replays}
use Rattle.gw_commands.specs.Queries.{AnswersNamed, AnswersQuery, RefusesQuery}

-- what `clap` answers is help or the version
abbrev pub IsHelp : ErrorKind → Type 0
IsHelp DisplayHelp = Unit {0}
IsHelp DisplayVersion = Unit {0}
IsHelp _ = ⊥

-- a text of `clap` was written: help or the version on the output alone, with status 0, and what is wrong on stderr
-- alone, with status 2; or memory was wanting for the text
abbrev pub AnswersArguments : ErrorKind → Option (List ℕ) → Option (List ℕ) → Bool → Option (List ℕ) → Option (List ℕ) → Bool → ℕ
    → Type 0
AnswersArguments kind old new write_failed told_old told_new tell_failed status =
    (IsHelp kind × (told_new ≡ told_old) × ((text : List ℕ) × WritesText text 0 status old new write_failed))
    ⊎ ((IsHelp kind → ⊥) × (new ≡ old) × (write_failed ≡ false)
    × ((text : List ℕ) × WritesText text 2 status told_old told_new tell_failed))
    ⊎ Writes (Err OutOfMemory) status old new write_failed

-- the arguments were answered, and nothing was read
abbrev pub OnlyAnswersArguments : Option (List ℕ) → Option (List ℕ) → Option (List ℕ) → Option (List ℕ) → Bool → Option (List ℕ)
    → Option (List ℕ) → Bool → ℕ → Type 0
OnlyAnswersArguments before after old new write_failed told_old told_new tell_failed status =
    (after ≡ before) × ((kind : ErrorKind) × AnswersArguments kind old new write_failed told_old told_new tell_failed status)

-- a query was answered from the reader, or from a file and the reader gave nothing; or the holders of a log were told, from the
-- reader or from a file; or a script was replayed, or the arguments were answered and nothing was read
abbrev pub DoesAsked : Option (List ℕ) → Option (List ℕ) → Bool → ℕ → Option (List ℕ) → Option (List ℕ) → Bool
    → Option (List ℕ) → Option (List ℕ) → Bool → ℕ → Type 0
DoesAsked before after failed reads old new write_failed told_old told_new tell_failed status =
    ((query : Query)
    × Does (AnswersQuery query) (RefusesQuery query) (tells_blocked query) before after failed old new write_failed status)
    ⊎ ((query : Query) × (after ≡ before) × AnswersNamed query old new write_failed status)
    ⊎ TellsHolders before after failed old new write_failed status
    ⊎ ((after ≡ before) × TellsHoldersNamed old new write_failed status)
    ⊎ ((strict : Bool) × Replays strict before after failed reads old new write_failed status)
    ⊎ OnlyAnswersArguments before after old new write_failed told_old told_new tell_failed status

-- what a run is told by: one object where that is asked for, and else lines
abbrev pub shown_by : RunRequest → Shown
shown_by run = if run.json then Json else Lines run.policies run.lanes

-- what is asked of `run` is done by a gateway of these limits, under the policies of each port's source: where no file is named
-- for a port, the input was forwarded; else those files were, and nothing was read. Where copies are asked to wait none was lost
abbrev pub DoesRun : RunRequest → Option (List ℕ) → Option (List ℕ) → Bool → ℕ → Option (List ℕ) → Option (List ℕ) → Bool → ℕ
    → Type 0
DoesRun run before after failed reads old new write_failed status =
    ((taking : Taking) × (list_any is_some run.inputs.items ≡ false)
    × ForwardsNamed taking run.limits run.sources.items run.waits (shown_by run) before after failed reads old new write_failed
    status)
    ⊎ ((list_any is_some run.inputs.items ≡ true) × (after ≡ before)
    × ForwardsFiles run.limits run.sources.items run.inputs.items run.waits (shown_by run) old new write_failed status)

-- what was asked of `run` was done, for a request that has a source and maybe a file for each port; or the arguments were
-- answered and nothing was read
abbrev pub RunsAsked : Option (List ℕ) → Option (List ℕ) → Bool → ℕ → Option (List ℕ) → Option (List ℕ) → Bool
    → Option (List ℕ) → Option (List ℕ) → Bool → ℕ → Type 0
RunsAsked before after failed reads old new write_failed told_old told_new tell_failed status =
    ((run : RunRequest) × (vec_len run.sources ≡ run.limits.ports) × (vec_len run.inputs ≡ run.limits.ports)
    × DoesRun run before after failed reads old new write_failed status)
    ⊎ OnlyAnswersArguments before after old new write_failed told_old told_new tell_failed status

-- a log was judged by the policy of a file, or the file or the policy was refused; or what leaves of one at several interfaces
-- was written, or a port's file or policy was refused; or the arguments were answered and nothing was read
abbrev pub JudgesAsked : Option (List ℕ) → Option (List ℕ) → Bool → Option (List ℕ) → Option (List ℕ) → Bool
    → Option (List ℕ) → Option (List ℕ) → Bool → ℕ → Type 0
JudgesAsked before after failed old new write_failed told_old told_new tell_failed status =
    ((query : LogQuery) × JudgesNamed query before after failed old new write_failed status)
    ⊎ ((names : List NamedInterface) × (sources : List PolicySource)
    × WritesEgressNamed names sources before after failed old new write_failed status)
    ⊎ OnlyAnswersArguments before after old new write_failed told_old told_new tell_failed status

-- the tables of two files, or of a gateway's ports, were compared over every frame, and nothing was read; or those of two files
-- on a log; or a file or a table was refused; or the arguments were answered and nothing was read
abbrev pub ComparesAsked : Option (List ℕ) → Option (List ℕ) → Bool → Option (List ℕ) → Option (List ℕ) → Bool
    → Option (List ℕ) → Option (List ℕ) → Bool → ℕ → Type 0
ComparesAsked before after failed old new write_failed told_old told_new tell_failed status =
    ((after ≡ before) × ComparesNamed old new write_failed status)
    ⊎ ((files : List PortFiles) × (after ≡ before) × ComparesNamedPorts files old new write_failed status)
    ⊎ ((port : ℕ) × DiffsNamed port before after failed old new write_failed status)
    ⊎ OnlyAnswersArguments before after old new write_failed told_old told_new tell_failed status
