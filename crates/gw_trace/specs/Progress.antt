-- What is kept between two pieces of a trace, and what a piece adds.
use Rattle.std.specs.Io.KnownBytes.{Consumes, IsAtEnd}
use Rattle.std.specs.Prelude.{◌≡◌, ◌⊎◌, Bool, true, Ok, Err, ℕ, ◌+◌, ◌<◌, List, [], ◌++◌, length, Option, Some, None}
use Rattle.gw_io.specs.Pieces.{most_reads, GivesAtLeast}
use Rattle.gw_trace.specs.declared.byte_order.Endian.{Endian}
use Rattle.gw_trace.specs.declared.stage.Stage.{Stage}
use Rattle.gw_trace.specs.declared.stage.Stage.TheVariants.{Header, Records, Failed}
use Rattle.gw_trace.specs.declared.record.Beginning.TheVariants.{Unfinished}
use Rattle.gw_trace.specs.declared.refusal.TraceRefusal.{TraceRefusal}
use Rattle.gw_trace.specs.declared.refusal.TraceRefusal.TheVariants.{OutOfMemory, ReadFault}
use Rattle.gw_trace.specs.Traces.{beginning, contents, Reading, index_of, reading_from, reading, whole_trace}

-- what is kept of the octets so far: where they end, the octets of the header or record that is not whole yet, and how many
-- frames they gave
pub record Progress : Type 0 where
  pub stage : Stage
  pub rest : List ℕ
  pub given : ℕ

-- within the header, behind it, and at a fault
abbrev pub in_header : List ℕ → Progress
in_header rest = record { stage = Header; rest = rest; given = 0 }

abbrev pub in_records : Endian → List ℕ → ℕ → Progress
in_records order rest given = record { stage = Records order; rest = rest; given = given }

abbrev pub at_fault : TraceRefusal → ℕ → Progress
at_fault fault given = record { stage = Failed fault; rest = []; given = given }

abbrev pub progress : List ℕ → Progress
progress octets =
    let r = reading octets in
    record { stage = r.stage; rest = r.rest; given = index_of (length r.frames) }

-- the trace was fed these octets so far, and nothing else
abbrev pub HasRead : Progress → List ℕ → Type 0
HasRead trace octets = trace ≡ progress octets

-- the reading of a piece behind what is kept
abbrev pub read_in : Stage → List ℕ → ℕ → List ℕ → Reading
read_in Header rest given piece = reading (rest ++ piece)
read_in (Records order) rest given piece = reading_from order given (contents order (rest ++ piece))
read_in (Failed fault) rest given piece = record { frames = []; rest = []; stage = Failed fault }

abbrev pub read_on : Progress → List ℕ → Reading
read_on trace piece = read_in trace.stage trace.rest trace.given piece

-- what is kept after such a reading, where so many frames were given before
abbrev pub kept_after : ℕ → Reading → Progress
kept_after given r = record { stage = r.stage; rest = r.rest; given = index_of (given + length r.frames) }

-- what is kept is less than a header or a record
abbrev pub IsKept : Stage → List ℕ → ℕ → Type 0
IsKept Header rest given = (length rest < 24) × (given ≡ 0)
IsKept (Records order) rest given = beginning order rest ≡ Unfinished
IsKept (Failed fault) rest given = rest ≡ []

-- the fault that shows
abbrev pub fault_in : Stage → Option TraceRefusal
fault_in (Failed fault) = Some fault
fault_in _ = None

-- what a piece gives behind the octets so far: the frames that become whole with it. A fault waits behind these.
pub record Gives (octets piece : List ℕ) (frames : List (List ℕ)) : Type 0 where
  pub so_far : (reading (octets ++ piece)).frames ≡ (reading octets).frames ++ frames
  pub sound : frames ≡ [] → fault_in (reading (octets ++ piece)).stage ≡ None

-- a piece is refused behind the octets so far: no frame becomes whole with it, and a fault shows
pub record IsRefused (octets piece : List ℕ) (fault : TraceRefusal) : Type 0 where
  pub nothing : (reading (octets ++ piece)).frames ≡ (reading octets).frames
  pub fault_shows : (reading (octets ++ piece)).stage ≡ Failed fault

-- the reader gave a whole trace of these frames, and has no more
pub record IsTraceOf (before after : Option (List ℕ)) (frames : List (List ℕ)) : Type 0 where
  pub octets : List ℕ
  pub consumed : Consumes before after octets
  pub end : IsAtEnd after
  pub whole : whole_trace octets ≡ Ok frames

-- the reader gave octets that are no whole trace, and has no more
pub record IsNoTrace (before after : Option (List ℕ)) (fault : TraceRefusal) : Type 0 where
  pub octets : List ℕ
  pub consumed : Consumes before after octets
  pub end : IsAtEnd after
  pub refused : whole_trace octets ≡ Err fault

-- why a trace was not read whole: memory was wanting; a read failed, or 16777216 reads did not meet the end and gave so many
-- octets at least; else what is wrong with it. `reads` counts the reads where none met the end, and is 0 where one did.
abbrev pub IsUnread : Option (List ℕ) → Option (List ℕ) → Bool → ℕ → TraceRefusal → Type 0
IsUnread before after failed reads OutOfMemory = Unit {0}
IsUnread before after failed reads ReadFault = (failed ≡ true) ⊎ ((reads ≡ most_reads) × GivesAtLeast before after most_reads)
IsUnread before after failed reads fault = IsNoTrace before after fault
