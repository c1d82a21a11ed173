-- What the command `run` reads, forwards and writes: `before` and `after` are what its reader has left, `old` and `new` what its
-- writer took.
use Rattle.std.specs.Prelude.{◌≡◌, ℕ, ◌<◌, ◌≤◌, ◌⊎◌, ◌==◌, Bool, true, false, if◌then◌else◌, List, [], ◌∷◌, ◌++◌, length}
use Rattle.std.specs.Prelude.{codes, decimal, slice_get, slice_index_or, map, Option, Some, None, Result, Ok, Err, MatchResult}
use Rattle.std.specs.Prelude.{All, Any, IsTrue}
use Rattle.std.specs.Option.{option_map_or}
use Rattle.std.specs.List.{flat_map, join_by, sum_by, range_with_len}
use Rattle.std.specs.Io.KnownBytes.{IsAtEnd, Consumes}
use Rattle.std.specs.Iterator.{YieldsFirst}
use Rattle.gw_judge.specs.declared.head.NoLog.{NoLog}
use Rattle.gw_policy.specs.Filter.{Filter}
use Rattle.gw_policy.specs.Batches.{Pair, policy_after}
use Rattle.gw_ledger.specs.Bounds.{Bounds}
use Rattle.gw_ledger.specs.declared.ledger.InLedger.{InLedger}
use Rattle.gw_ports.specs.Reports.{Ran}
use Rattle.gw_ports.specs.Runs.{IsRun, NoneLost, RefusesRun}
use Rattle.gw_ports.specs.declared.refusals.OfferRefusal.{OfferRefusal}
use Rattle.gw_ports.specs.declared.running.RunEnd.{RunEnd}
use Rattle.gw_ports.specs.declared.running.RunRefusal.TheVariants.{NoSuchPort}
use Rattle.gw_io.specs.Pieces.{most_reads}
use Rattle.gw_trace.specs.Shares.{share_of}
use Rattle.gw_trace.specs.Traces.{whole_trace}
use Rattle.gw_trace.specs.declared.refusal.TraceRefusal.{TraceRefusal}
use Rattle.gw_trace.specs.declared.refusal.TraceRefusal.TheVariants.{ReadFault}
use Rattle.gw_answers.specs.declared.policies.PolicySource.{PolicySource}
use Rattle.gw_answers.specs.declared.policies.PolicySource.TheVariants.{Opening}
use Rattle.gw_answers.specs.declared.refusal.Refusal.{Refusal}
use Rattle.gw_answers.specs.declared.refusal.Refusal.TheVariants.{OutOfMemory}
use Rattle.gw_answers.specs.Responses.{Writes, WritesText}
use Rattle.gw_answers.specs.Policies.{MeansPolicy, NamesFile, RefusesFile, RefusesSource}
use Rattle.gw_run.specs.declared.refusal.ForwardRefusal.{ForwardRefusal}
use Rattle.gw_run.specs.declared.refusal.ForwardRefusal.TheVariants as refuses
use Rattle.gw_run.specs.declared.refusal.ForwardRefusal.TheVariants.{Command, Trace, Run, Stopped}
use Rattle.gw_run.specs.declared.lines.Shown.{Shown}
use Rattle.gw_run.specs.declared.lines.Shown.TheVariants.{Lines, Json}
use Rattle.gw_run.specs.declared.kept.Kept.{Kept}
use Rattle.gw_run.specs.declared.tally.Counted.{Counted}
use Rattle.gw_run.specs.declared.tally.Counted.TheVariants.{Judged, Passed, Lost}
use Rattle.gw_run.specs.declared.tally.LaneTally.{LaneTally}
use Rattle.gw_judge.specs.declared.interfaces.NamedInterface.{NamedInterface}
use Rattle.gw_run.specs.declared.taking.Taking.{Taking}
use Rattle.gw_run.specs.declared.taking.Taking.TheVariants.{InTurn, ByInterface}
use Rattle.gw_run.specs.Logs.{named_inputs, no_log}
use Rattle.gw_run.specs.Refusals.{forward_refusal_line}
use Rattle.gw_run.specs.declared.kept.NoCopies.{NoCopies}
use Rattle.gw_run.specs.declared.losses.Losses.{Losses}
use Rattle.gw_run.specs.Tallies.{AreTallies, IsToldOf, lane_count}

-- ---- the first batch

-- the policy that a port's source means
abbrev pub MeansAt : List PolicySource → List (List ℕ) → ℕ → Option Filter → Type 0
MeansAt sources texts port policy =
    MeansPolicy (slice_index_or sources port Opening) (slice_index_or texts port []) policy

-- in the batch each port has the policy that its source means, and no other port has one
pub record IsFirst (sources : List PolicySource) (texts : List (List ℕ)) (batch : List Pair) : Type 0 where
  pub means : (k : ℕ) → k < length sources → MeansAt sources texts k (policy_after k batch None)
  pub others : All (λ pair. pair.port < length sources) batch

-- a batch that a port's policy joined, if there is one
abbrev pub joined : ℕ → Option Filter → List Pair → List Pair
joined port (Some policy) batch = batch ++ record { port = port; policy = policy } ∷ []
joined port None batch = batch

-- the least port's source that is refused: those before it mean policies
pub record RefusesSources (sources : List PolicySource) (texts : List (List ℕ)) (refusal : Refusal) : Type 0 where
  pub port : ℕ
  pub within : port < length sources
  pub before : (k : ℕ) → k < port → (policy : Option Filter) × MeansAt sources texts k policy
  pub refused : RefusesSource (slice_index_or sources port Opening) (slice_index_or texts port []) refusal

-- ---- the trace

-- the reader gave these octets, has no more, and never failed
pub record IsTraceInput (before after : Option (List ℕ)) (failed : Bool) (octets : List ℕ) : Type 0 where
  pub consumed : Consumes before after octets
  pub end : IsAtEnd after
  pub whole : failed ≡ false

-- the reader failed, or was read too often; or memory was wanting for what it gave
abbrev pub IsTraceFault : Bool → ℕ → ForwardRefusal → Type 0
IsTraceFault failed reads (Trace ReadFault) = (failed ≡ true) ⊎ (reads ≡ most_reads)
IsTraceFault failed reads (Command OutOfMemory) = failed ≡ false
IsTraceFault failed reads _ = ⊥

-- ---- the run

-- the ports' shares of the frames, in the order of the ports
pub record AreShares (ports : ℕ) (frames : List (List ℕ)) (inputs : List (List (List ℕ))) : Type 0 where
  pub enough : length inputs ≡ ports
  pub each : (k : ℕ) (d : List (List ℕ)) → k < ports → slice_index_or inputs k d ≡ share_of k ports frames

-- a gateway that begins with this batch was run on these inputs, one for each port, no other batch was published, and it did this
abbrev pub IsRunOver : {S : Type 0} → (S → Option (List ℕ) → S → Type 0) → Bounds → List Pair → List S → Ran → Type 0
IsRunOver {S} steps limits first inputs ran = (rests : List S) × IsRun steps limits first inputs [] rests ran

-- the same of the shares of the frames
pub record IsRunOn (limits : Bounds) (first : List Pair) (frames : List (List ℕ)) (ran : Ran) : Type 0 where
  pub inputs : List (List (List ℕ))
  pub shared : AreShares limits.ports frames inputs
  pub is_run : IsRunOver (YieldsFirst (λ s. s)) limits first inputs ran

-- the same of lists of frames
pub record IsListRun (limits : Bounds) (first : List Pair) (inputs : List (List (List ℕ))) (ran : Ran) : Type 0 where
  pub is_run : IsRunOver (YieldsFirst (λ s. s)) limits first inputs ran

-- the end of such a run, with the losses of its ports
pub record EndsRun {S : Type 0} (steps : S → Option (List ℕ) → S → Type 0) (limits : Bounds) (first : List Pair)
    (inputs : List S) (waits : Bool) (ended : RunEnd S Losses NoCopies) : Type 0 where
  pub ran : Ran
  pub is_run : IsRun steps limits first inputs [] ended.inputs.items ran
  pub told : (ended.stops.items ≡ ran.stops) × (ended.report ≡ ran.report)
  pub few : limits.ports ≤ 16
  pub counted : IsToldOf limits first ran ended.outcomes.items
  pub none_lost : IsTrue waits → NoneLost ran

-- a gateway was run on the frames of the lines of a log whose interface is named for the ports
abbrev pub LogRuns : List NamedInterface → Bounds → List Pair → List ℕ → Ran → Type 0
LogRuns names limits first octets ran =
    (no_log octets ≡ None) × IsListRun limits first (named_inputs names limits.ports octets) ran

-- a gateway was run on what the ports take of the octets of an input: their shares of the frames of a trace, or the frames of
-- the lines of a log whose interface is named for them
abbrev pub IsRunOf : Taking → Bounds → List Pair → List ℕ → Ran → Type 0
IsRunOf InTurn limits first octets ran =
    (frames : List (List ℕ)) × (whole_trace octets ≡ Ok frames) × IsRunOn limits first frames ran
IsRunOf (ByInterface names) limits first octets ran = LogRuns names.now limits first octets ran

-- no port stopped before its frames were at an end
abbrev pub NoneStopped : List (Option OfferRefusal) → Type 0
NoneStopped stops = All (λ stop. stop ≡ None) stops

-- no port of the run stopped, and where a copy that finds its lane full waits for room, none was lost
abbrev pub IsWhole : Bool → Ran → Type 0
IsWhole waits ran = NoneStopped ran.stops × (IsTrue waits → NoneLost ran)

-- what is kept of a run of so many ports is what these counted, and the tallies of their lanes
abbrev pub IsKeptOf : ℕ → Kept → Ran → Type 0
IsKeptOf ports kept ran = (kept.ledgers.items ≡ ran.report.ins.items) × AreTallies ports ran.outcomes kept.lanes.items

-- what is kept is of a whole run, of which this holds
abbrev pub KeepsRun : ℕ → (Ran → Type 0) → Bool → Kept → Type 0
KeepsRun ports Runs waits kept = (ran : Ran) × IsKeptOf ports kept ran × Runs ran × IsWhole waits ran

-- the same of a run on what the ports take of the octets that the reader gave
abbrev pub KeepsInput : Taking → Bounds → List Pair → Bool → Option (List ℕ) → Option (List ℕ) → Bool → Kept → Type 0
KeepsInput taking limits first waits before after failed kept =
    (octets : List ℕ) × IsTraceInput before after failed octets
    × KeepsRun limits.ports (IsRunOf taking limits first octets) waits kept

-- this port is the least that stopped
pub record IsFirstStop (stops : List (Option OfferRefusal)) (port : ℕ) (why : OfferRefusal) : Type 0 where
  pub stopped : slice_get stops port ≡ Some (Some why)
  pub before : (k : ℕ) (d : Option OfferRefusal) → k < port → slice_index_or stops k d ≡ None

-- a port of a run stopped, and this is what refuses it for that
abbrev pub IsStopOf : List (Option OfferRefusal) → ForwardRefusal → Type 0
IsStopOf stops (Stopped port why) = IsFirstStop stops port why
IsStopOf stops _ = ⊥

-- ---- the lines

-- what a port counted
abbrev pub port_line : ℕ → InLedger → List ℕ
port_line port ledger =
    codes "port " ++ decimal port ++ codes " taken " ++ decimal ledger.taken ++ codes " local " ++ decimal ledger.local
    ++ codes " allowed " ++ decimal ledger.allowed ++ 10 ∷ []

-- a line for each port, in ascending order
abbrev pub line_of : List InLedger → ℕ → List ℕ
line_of ledgers port = option_map_or (port_line port) (slice_get ledgers port) []

unfoldable pub port_lines : List InLedger → List ℕ
port_lines ledgers = flat_map (line_of ledgers) (range_with_len 0 (length ledgers))

-- how many of a port's frames were copied to another, and how many were lost on that way
abbrev pub lane_line : LaneTally → List ℕ
lane_line lane =
    codes "lane " ++ decimal lane.from ++ 32 ∷ decimal lane.to ++ codes " placed " ++ decimal lane.placed
    ++ codes " lost " ++ decimal lane.lost ++ 10 ∷ []

-- a line for each lane, in their order
unfoldable pub lane_lines : List LaneTally → List ℕ
lane_lines lanes = flat_map lane_line lanes

-- how many frames are counted for a port on a lane: none on one to another port
abbrev pub count_to : Counted → ℕ → LaneTally → ℕ
count_to what to lane = if lane.to == to then lane_count what lane else 0

-- how many of the frames of all other ports are counted for a port
unfoldable pub count_others : Counted → ℕ → List LaneTally → ℕ
count_others what to lanes = sum_by (count_to what to) lanes

-- what a port's policy judged, passed and lost
abbrev pub policy_line : List LaneTally → ℕ → List ℕ
policy_line lanes to =
    codes "policy " ++ decimal to ++ codes " judged " ++ decimal (count_others Judged to lanes)
    ++ codes " passed " ++ decimal (count_others Passed to lanes)
    ++ codes " lost " ++ decimal (count_others Lost to lanes) ++ 10 ∷ []

-- a line for each port's policy, in ascending order
unfoldable pub policy_lines : ℕ → List LaneTally → List ℕ
policy_lines ports lanes = flat_map (policy_line lanes) (range_with_len 0 ports)

-- a line for each port, and behind them those of the policies and of the lanes that are asked for
abbrev pub report_lines : ℕ → Bool → Bool → List InLedger → List LaneTally → List ℕ
report_lines ports policies lanes ledgers tallies =
    port_lines ledgers
    ++ (if policies then policy_lines ports tallies else [])
    ++ (if lanes then lane_lines tallies else [])

-- ---- the object

-- what a port counted
abbrev pub port_object : ℕ → InLedger → List ℕ
port_object port ledger =
    codes "{\"port\":" ++ decimal port ++ codes ",\"taken\":" ++ decimal ledger.taken ++ codes ",\"local\":"
    ++ decimal ledger.local ++ codes ",\"allowed\":" ++ decimal ledger.allowed ++ codes "}"

-- an object for each port, in ascending order
abbrev pub object_of : List InLedger → ℕ → List ℕ
object_of ledgers port = option_map_or (port_object port) (slice_get ledgers port) []

unfoldable pub port_objects : List InLedger → List (List ℕ)
port_objects ledgers = map (object_of ledgers) (range_with_len 0 (length ledgers))

-- what a port's policy judged, passed and lost
abbrev pub policy_object : List LaneTally → ℕ → List ℕ
policy_object lanes to =
    codes "{\"port\":" ++ decimal to ++ codes ",\"judged\":" ++ decimal (count_others Judged to lanes)
    ++ codes ",\"passed\":" ++ decimal (count_others Passed to lanes)
    ++ codes ",\"lost\":" ++ decimal (count_others Lost to lanes) ++ codes "}"

-- an object for each port's policy, in ascending order
unfoldable pub policy_objects : ℕ → List LaneTally → List (List ℕ)
policy_objects ports lanes = map (policy_object lanes) (range_with_len 0 ports)

-- how many of a port's frames were copied to another, and how many were lost on that way
abbrev pub lane_object : LaneTally → List ℕ
lane_object lane =
    codes "{\"from\":" ++ decimal lane.from ++ codes ",\"to\":" ++ decimal lane.to
    ++ codes ",\"placed\":" ++ decimal lane.placed ++ codes ",\"lost\":" ++ decimal lane.lost ++ codes "}"

-- an object for each lane, in their order
unfoldable pub lane_objects : List LaneTally → List (List ℕ)
lane_objects lanes = map lane_object lanes

-- texts with commas between
abbrev pub with_commas : List (List ℕ) → List ℕ
with_commas texts = join_by (λ text. text) (codes ",") texts

-- all ports, policies and lanes as one JSON object, on a line
abbrev pub report_json : ℕ → List InLedger → List LaneTally → List ℕ
report_json ports ledgers lanes =
    codes "{\"ports\":[" ++ with_commas (port_objects ledgers)
    ++ codes "],\"policies\":[" ++ with_commas (policy_objects ports lanes)
    ++ codes "],\"lanes\":[" ++ with_commas (lane_objects lanes) ++ codes "]}\n"

-- what a run is told by, of what its ports counted and the tallies of its lanes: lines, or one object
abbrev pub report_text : ℕ → Shown → List InLedger → List LaneTally → List ℕ
report_text ports (Lines policies lanes) ledgers tallies = report_lines ports policies lanes ledgers tallies
report_text ports Json ledgers tallies = report_json ports ledgers tallies

-- ---- the command

-- the text of a run on what the ports take of an input's octets, which begins with this batch
pub record IsOctetsRun (taking : Taking) (limits : Bounds) (first : List Pair) (waits : Bool) (shown : Shown)
    (octets text : List ℕ) : Type 0 where
  pub ran : Ran
  pub is_run : IsRunOf taking limits first octets ran
  pub whole : IsWhole waits ran
  pub tallies : List LaneTally
  pub tallied : AreTallies limits.ports ran.outcomes tallies
  pub lines : text ≡ report_text limits.ports shown ran.report.ins.items tallies

-- what refuses such a run: what refuses the gateway's run, but for a port that is not there, which no source names; or the least
-- port's that stopped; memory may be wanting for what the ports take and for the lines
abbrev pub RefusesInputs : (Ran → Type 0) → Bounds → List Pair → ForwardRefusal → Type 0
RefusesInputs Runs limits first (Run NoSuchPort) = ⊥
RefusesInputs Runs limits first (Run why) = RefusesRun limits first why
RefusesInputs Runs limits first (Stopped port why) = (ran : Ran) × Runs ran × IsFirstStop ran.stops port why
RefusesInputs Runs limits first (Command OutOfMemory) = Unit {0}
RefusesInputs Runs limits first _ = ⊥

-- what refuses the octets of a log: that they are none; or what refuses a run on its frames
abbrev pub RefusesLog : List NamedInterface → Bounds → List Pair → List ℕ → ForwardRefusal → Type 0
RefusesLog names limits first octets refusal =
    ((why : NoLog) × (refusal ≡ refuses.NoLog why) × (no_log octets ≡ Some why))
    ⊎ ((no_log octets ≡ None)
    × RefusesInputs (IsListRun limits first (named_inputs names limits.ports octets)) limits first refusal)

-- what refuses the octets of an input: what is wrong with a trace, or that they are no log; or what refuses a run on their frames
abbrev pub RefusesOctets : Taking → Bounds → List Pair → List ℕ → ForwardRefusal → Type 0
RefusesOctets InTurn limits first octets refusal =
    ((why : TraceRefusal) × (refusal ≡ Trace why) × (whole_trace octets ≡ Err why))
    ⊎ ((frames : List (List ℕ)) × (whole_trace octets ≡ Ok frames)
    × RefusesInputs (IsRunOn limits first frames) limits first refusal)
RefusesOctets (ByInterface names) limits first octets refusal = RefusesLog names.now limits first octets refusal

-- the text of a run on the input that the reader gave
pub record IsTraceRun (taking : Taking) (limits : Bounds) (first : List Pair) (waits : Bool) (shown : Shown)
    (before after : Option (List ℕ)) (failed : Bool) (text : List ℕ) : Type 0 where
  pub octets : List ℕ
  pub read : IsTraceInput before after failed octets
  pub run : IsOctetsRun taking limits first waits shown octets text

-- what refuses an input: its reading before its octets
abbrev pub RefusesTrace : Taking → Bounds → List Pair → Option (List ℕ) → Option (List ℕ) → Bool → ℕ → ForwardRefusal → Type 0
RefusesTrace taking limits first before after failed reads refusal =
    IsTraceFault failed reads refusal
    ⊎ ((octets : List ℕ) × IsTraceInput before after failed octets × RefusesOctets taking limits first octets refusal)

-- the text for what the reader gave: the lines of a run on what the ports take of it, under the policies of the ports' sources
pub record IsForwarded (taking : Taking) (limits : Bounds) (sources : List PolicySource) (texts : List (List ℕ)) (waits : Bool)
    (shown : Shown) (before after : Option (List ℕ)) (failed : Bool) (text : List ℕ) : Type 0 where
  pub first : List Pair
  pub policies : IsFirst sources texts first
  pub run : IsTraceRun taking limits first waits shown before after failed text

-- the sources mean policies, and the input is refused
pub record RefusesForwarding (taking : Taking) (limits : Bounds) (sources : List PolicySource) (texts : List (List ℕ))
    (before after : Option (List ℕ)) (failed : Bool) (reads : ℕ) (refusal : ForwardRefusal) : Type 0 where
  pub first : List Pair
  pub policies : IsFirst sources texts first
  pub why : RefusesTrace taking limits first before after failed reads refusal

-- the first refusal: that of a source comes before that of the input
abbrev pub IsForwardRefusal : Taking → Bounds → List PolicySource → List (List ℕ) → Option (List ℕ) → Option (List ℕ) → Bool → ℕ
    → ForwardRefusal → Type 0
IsForwardRefusal taking limits sources texts before after failed reads refusal =
    ((why : Refusal) × (refusal ≡ Command why) × RefusesSources sources texts why)
    ⊎ RefusesForwarding taking limits sources texts before after failed reads refusal

-- the text for what was found was written, with its status: the lines of a run, or the line of a refusal
abbrev pub WritesForward : Result (List ℕ) ForwardRefusal → ℕ → Option (List ℕ) → Option (List ℕ) → Bool → Type 0
WritesForward (Ok text) status old new failed = WritesText text 0 status old new failed
WritesForward (Err refusal) status old new failed = WritesText (forward_refusal_line refusal) 1 status old new failed

-- what was found is written, and tells the status
pub record Forwards (taking : Taking) (limits : Bounds) (sources : List PolicySource) (texts : List (List ℕ)) (waits : Bool)
    (shown : Shown) (before after : Option (List ℕ)) (failed : Bool) (reads : ℕ) (old new : Option (List ℕ))
    (write_failed : Bool) (status : ℕ) : Type 0 where
  pub found : Result (List ℕ) ForwardRefusal
  pub is_found : MatchResult found (IsForwarded taking limits sources texts waits shown before after failed)
      (IsForwardRefusal taking limits sources texts before after failed reads)
  pub written : WritesForward found status old new write_failed

-- ---- the files

-- what refuses the files of the sources: that of a file, where a source names one; memory may be wanting in any case
abbrev pub RefusesNamed : List PolicySource → Refusal → Type 0
RefusesNamed sources OutOfMemory = Unit {0}
RefusesNamed sources refusal = Any NamesFile sources × RefusesFile refusal

-- the input was forwarded under the policies of the sources, whatever their files hold; or a file was refused, and nothing was
-- read
abbrev pub ForwardsNamed : Taking → Bounds → List PolicySource → Bool → Shown → Option (List ℕ) → Option (List ℕ) → Bool → ℕ
    → Option (List ℕ) → Option (List ℕ) → Bool → ℕ → Type 0
ForwardsNamed taking limits sources waits shown before after failed reads old new write_failed status =
    ((texts : List (List ℕ))
    × Forwards taking limits sources texts waits shown before after failed reads old new write_failed status)
    ⊎ ((refusal : Refusal) × RefusesNamed sources refusal × (after ≡ before)
    × Writes (Err refusal) status old new write_failed)
