-- What the command `run` makes of inputs that the ports have of their own: `old` and `new` are what its writer took.
use Rattle.std.specs.Prelude.{◌≡◌, ℕ, ◌⊎◌, Bool, List, [], ◌∷◌, ◌++◌, map, Option, Some, None, Result, Ok, Err, MatchResult}
use Rattle.std.specs.Prelude.{IfNone, IsTrue}
use Rattle.std.specs.Io.KnownBytes.{Consumes, IsAtEnd}
use Rattle.std.specs.Iterator.{Count, at_most}
use Rattle.std.specs.List.{AllZip}
use Rattle.std.specs.Option.{option_to_list}
use Rattle.std.specs.Vec.Iter.{into_iter_items, into_iter_len}
use Rattle.std.specs.Borrow.{Bor}
use Rattle.gw_judge.specs.declared.head.NoLog.{NoLog}
use Rattle.gw_judge.specs.declared.head.NoLog.TheVariants.{Pcap}
use Rattle.gw_policy.specs.Batches.{Pair}
use Rattle.gw_ledger.specs.Bounds.{Bounds}
use Rattle.gw_ports.specs.Reports.{Ran}
use Rattle.gw_trace.specs.Traces.{whole_trace}
use Rattle.gw_trace.specs.TraceFrames.{HasTaken, has_ended, most_of}
use Rattle.gw_trace.specs.declared.refusal.TraceRefusal.{TraceRefusal}
use Rattle.gw_trace.specs.declared.refusal.TraceRefusal.TheVariants as trace
use Rattle.gw_answers.specs.declared.policies.PolicySource.{PolicySource}
use Rattle.gw_answers.specs.declared.refusal.Refusal.{Refusal}
use Rattle.gw_answers.specs.declared.refusal.Refusal.TheVariants.{ReadFault, OutOfMemory}
use Rattle.gw_answers.specs.Responses.{Writes}
use Rattle.gw_run.specs.declared.refusal.ForwardRefusal.{ForwardRefusal}
use Rattle.gw_run.specs.declared.refusal.ForwardRefusal.TheVariants as refuses
use Rattle.gw_run.specs.declared.refusal.ForwardRefusal.TheVariants.{Command, Trace}
use Rattle.gw_run.specs.declared.lines.Shown.{Shown}
use Rattle.gw_run.specs.declared.kept.Kept.{Kept}
use Rattle.gw_run.specs.declared.port_input.PortInput.{PortInput}
use Rattle.gw_run.specs.declared.port_input.PortInput.TheVariants.{Listed, Streamed}
use Rattle.gw_run.specs.Forwarding.{IsFirst, IsListRun, IsWhole, KeepsRun, RefusesInputs, RefusesNamed, RefusesSources}
use Rattle.gw_run.specs.Forwarding.{WritesForward, report_text}
use Rattle.gw_run.specs.Tallies.{AreTallies}
use Rattle.gw_run.specs.declared.tally.LaneTally.{LaneTally}
use Rattle.gw_run.specs.Logs.{log_frames, no_log}

-- ---- the frames

-- the frames of a trace, or what is wrong with it
abbrev pub trace_frames : Result (List (List ℕ)) TraceRefusal → Result (List (List ℕ)) ForwardRefusal
trace_frames (Ok frames) = Ok frames
trace_frames (Err why) = Err (Trace why)

-- the frames of octets: those of a log; those of a trace, where octets are one; or why octets of another kind have none
abbrev pub frames_as : Option NoLog → List ℕ → Result (List (List ℕ)) ForwardRefusal
frames_as None octets = Ok (log_frames octets)
frames_as (Some Pcap) octets = trace_frames (whole_trace octets)
frames_as (Some why) octets = Err (refuses.NoLog why)

-- the same, where the first octets tell what they are
abbrev pub frames_in : List ℕ → Result (List (List ℕ)) ForwardRefusal
frames_in octets = frames_as (no_log octets) octets

-- what a port's file was found to hold: none is named; it could not be read; or these octets, whatever stands in the file
pub data Found : Type 0 where
  NotNamed : Found
  Unread : Found
  Held : List ℕ → Found

abbrev pub IsFoundOf : Option (Bor (List ℕ)) → Found → Type 0
IsFoundOf None found = found ≡ NotNamed
IsFoundOf (Some file) NotNamed = ⊥
IsFoundOf (Some file) found = Unit {0}

-- by port
abbrev pub AreFoundOf : List (Option (Bor (List ℕ))) → List Found → Type 0
AreFoundOf files found = AllZip IsFoundOf files found

-- the frames that a port takes of its file, or why it is refused
abbrev pub frames_of : Found → Result (List (List ℕ)) ForwardRefusal
frames_of NotNamed = Ok []
frames_of Unread = Err (Command ReadFault)
frames_of (Held octets) = frames_in octets

-- by port, the frames of its file
abbrev pub AreFramesOf : List Found → List (List (List ℕ)) → Type 0
AreFramesOf found frames = map frames_of found ≡ map Ok frames

-- the first file that is refused: those of the ports before have frames
pub record RefusesFirst (found : List Found) (refusal : ForwardRefusal) : Type 0 where
  pub before : List (List (List ℕ))
  pub after : List (Result (List (List ℕ)) ForwardRefusal)
  pub refused : map frames_of found ≡ map Ok before ++ Err refusal ∷ after

-- ---- the inputs, while the frames are taken: `remaining` is what a file's reader has left

-- these frames were taken of the input of a file so far: of a list, which has the others, or of a trace as far as it was read
abbrev pub HasGiven : {R : Type 0} → (R → Option (List ℕ)) → Option (Bor (List ℕ)) → List (List ℕ) → PortInput R → Type 0
HasGiven remaining file given (Listed frames) =
    (found : Found) × IsFoundOf file found × (frames_of found ≡ Ok (given ++ into_iter_items frames))
HasGiven remaining file given (Streamed named frames) =
    (before : Option (List ℕ)) × (octets : List ℕ) × IsFoundOf file (Held octets) × (no_log octets ≡ Some Pcap)
    × HasTaken remaining before octets given frames

-- a reader gave these octets behind its first ones, to its end
pub record IsReadOn (before : Option (List ℕ)) (first octets : List ℕ) : Type 0 where
  pub more : List ℕ
  pub after : Option (List ℕ)
  pub octets_are : octets ≡ first ++ more
  pub consumed : Consumes before after more
  pub end : IsAtEnd after

-- what a reader gave is the input: a log to its end, or a trace so far, of which no frame was taken
abbrev pub IsOpened : {R : Type 0} → (R → Option (List ℕ)) → Option (List ℕ) → PortInput R → Type 0
IsOpened remaining before (Listed frames) =
    (octets : List ℕ) × IsReadOn before [] octets × (frames_in octets ≡ Ok (into_iter_items frames))
IsOpened remaining before (Streamed named frames) =
    (octets : List ℕ) × (no_log octets ≡ Some Pcap) × HasTaken remaining before octets [] frames

-- all frames were taken
abbrev pub IsSpent : {R : Type 0} → PortInput R → Type 0
IsSpent (Listed frames) = into_iter_items frames ≡ []
IsSpent (Streamed named frames) = IsTrue (has_ended frames)

-- the next frame was taken; none comes once all were taken, and only then
pub record GivesNext {R : Type 0} (remaining : R → Option (List ℕ)) (old : PortInput R) (frame : Option (List ℕ))
    (new : PortInput R) : Type 0 where
  pub goes_on : (file : Option (Bor (List ℕ))) (given : List (List ℕ)) → HasGiven remaining file given old
      → HasGiven remaining file (given ++ option_to_list frame) new
  pub ends : IfNone frame (IsSpent new)
  pub stays : IsSpent old → frame ≡ None

-- the most frames that can be left
abbrev pub most_left : {R : Type 0} → PortInput R → Count
most_left (Listed frames) = at_most (into_iter_len frames)
most_left (Streamed named frames) = most_of frames

-- none was taken yet of the inputs of these files
abbrev pub AreNew : {R : Type 0} → (R → Option (List ℕ)) → List (Option (Bor (List ℕ))) → List (PortInput R) → Type 0
AreNew remaining files inputs = AllZip (λ file input. HasGiven remaining file [] input) files inputs

-- a file, and the frames that were taken of its input
pub record Known : Type 0 where
  pub file : Option (Bor (List ℕ))
  pub given : List (List ℕ)

abbrev pub AreKnown : {R : Type 0} → (R → Option (List ℕ)) → List Known → List (PortInput R) → Type 0
AreKnown remaining known inputs = AllZip (λ one input. HasGiven remaining one.file one.given input) known inputs

-- ---- the end of the files

-- what refuses a file: what is wrong with what it was found to hold; memory may be wanting in any case
abbrev pub RefusesFile : Option (Bor (List ℕ)) → ForwardRefusal → Type 0
RefusesFile file refusal =
    ((found : Found) × IsFoundOf file found × (frames_of found ≡ Err refusal)) ⊎ (refusal ≡ Command OutOfMemory)

-- how a file ends that is refused while it is read: 96 as for any file that could not be read
abbrev pub trace_refusal : TraceRefusal → ForwardRefusal
trace_refusal trace.ReadFault = Command ReadFault
trace_refusal trace.OutOfMemory = Command OutOfMemory
trace_refusal why = Trace why

-- the file has these frames and no others, or it is refused
abbrev pub EndsAs : Option (Bor (List ℕ)) → List (List ℕ) → Result (Unit {0}) ForwardRefusal → Type 0
EndsAs file frames (Ok done) = (found : Found) × IsFoundOf file found × (frames_of found ≡ Ok frames)
EndsAs file frames (Err refusal) = RefusesFile file refusal

-- the file has the frames that were taken and these others, which are none where all were taken
pub record IsFinished {R : Type 0} (known : Known) (input : PortInput R) : Type 0 where
  pub left : List (List ℕ)
  pub found : Found
  pub is_found : IsFoundOf known.file found
  pub frames : frames_of found ≡ Ok (known.given ++ left)
  pub spent : IsSpent input → left ≡ []

abbrev pub AreFinished : {R : Type 0} → List Known → List (PortInput R) → Type 0
AreFinished known inputs = AllZip IsFinished known inputs

-- the first file that is refused, behind those that have frames
abbrev pub RefusesFinished : {R : Type 0} → List Known → List (PortInput R) → ForwardRefusal → Type 0
RefusesFinished [] inputs refusal = ⊥
RefusesFinished (one ∷ known) [] refusal = ⊥
RefusesFinished (one ∷ known) (input ∷ inputs) refusal =
    RefusesFile one.file refusal ⊎ (IsFinished one input × RefusesFinished known inputs refusal)

-- the same of what the files were found to hold
abbrev pub RefusesFiles : List (Option (Bor (List ℕ))) → ForwardRefusal → Type 0
RefusesFiles files refusal =
    ((found : List Found) × AreFoundOf files found × RefusesFirst found refusal) ⊎ (refusal ≡ Command OutOfMemory)

-- ---- the run

-- what is kept of a whole run on the frames of the files, which begins with this batch
abbrev pub KeepsFiles : Bounds → List Pair → List (Option (Bor (List ℕ))) → Bool → Kept → Type 0
KeepsFiles limits first files waits kept =
    (found : List Found) × (frames : List (List (List ℕ))) × AreFoundOf files found × AreFramesOf found frames
    × KeepsRun limits.ports (IsListRun limits first frames) waits kept

-- the text of such a run
pub record IsInputsRun (limits : Bounds) (first : List Pair) (found : List Found) (waits : Bool) (shown : Shown)
    (text : List ℕ) : Type 0 where
  pub frames : List (List (List ℕ))
  pub offered : AreFramesOf found frames
  pub ran : Ran
  pub is_run : IsListRun limits first frames ran
  pub whole : IsWhole waits ran
  pub tallies : List LaneTally
  pub tallied : AreTallies limits.ports ran.outcomes tallies
  pub lines : text ≡ report_text limits.ports shown ran.report.ins.items tallies

-- what refuses such a run: the first file that is refused; or what refuses a run on the frames of all; memory may be wanting in
-- any case
abbrev pub RefusesInputsRun : Bounds → List Pair → List Found → ForwardRefusal → Type 0
RefusesInputsRun limits first found refusal =
    RefusesFirst found refusal
    ⊎ ((frames : List (List (List ℕ))) × AreFramesOf found frames
    × RefusesInputs (IsListRun limits first frames) limits first refusal)
    ⊎ (refusal ≡ Command OutOfMemory)

abbrev pub RefusesFilesRun : Bounds → List Pair → List (Option (Bor (List ℕ))) → ForwardRefusal → Type 0
RefusesFilesRun limits first files refusal =
    (found : List Found) × AreFoundOf files found × RefusesInputsRun limits first found refusal

-- what was found of the run is written, and tells the status
pub record ForwardsInputs (limits : Bounds) (first : List Pair) (found : List Found) (waits : Bool) (shown : Shown)
    (old new : Option (List ℕ)) (write_failed : Bool) (status : ℕ) : Type 0 where
  pub answer : Result (List ℕ) ForwardRefusal
  pub is_answer : MatchResult answer (IsInputsRun limits first found waits shown) (RefusesInputsRun limits first found)
  pub written : WritesForward answer status old new write_failed

-- what refuses the policies: that of a file, or of what the files hold; memory may be wanting in any case
abbrev pub RefusesPolicies : List PolicySource → Refusal → Type 0
RefusesPolicies sources refusal =
    RefusesNamed sources refusal ⊎ ((texts : List (List ℕ)) × RefusesSources sources texts refusal)

-- what the ports' files were found to hold was forwarded under the policies of the sources; or the policies were refused
abbrev pub ForwardsFiles : Bounds → List PolicySource → List (Option (Bor (List ℕ))) → Bool → Shown → Option (List ℕ)
    → Option (List ℕ) → Bool → ℕ → Type 0
ForwardsFiles limits sources files waits shown old new write_failed status =
    ((texts : List (List ℕ)) × (first : List Pair) × (found : List Found) × IsFirst sources texts first
    × AreFoundOf files found × ForwardsInputs limits first found waits shown old new write_failed status)
    ⊎ ((refusal : Refusal) × RefusesPolicies sources refusal × Writes (Err refusal) status old new write_failed)
