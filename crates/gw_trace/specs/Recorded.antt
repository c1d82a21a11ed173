-- The records of a trace, one behind another, those that are no frames too: each ends where its header says.
use Rattle.std.specs.Prelude.{◌≡◌, ◌⊎◌, ◌≤◌, ◌<◌, ℕ, ◌+◌, ◌-◌, nat_lt, if◌then◌else◌, List, [], ◌++◌, length, map, take, drop}
use Rattle.std.specs.Prelude.{All, min}
use Rattle.std.specs.Prelude.{Result, Ok, Err}
use Rattle.std.specs.List.{filter_map, flat_map}
use Rattle.std.specs.Option.{option_map_or, option_to_list}
use Rattle.std.specs.Result.{result_ok, result_err}
use Rattle.gw_frame.specs.declared.refusal.FrameRefusal.{FrameRefusal}
use Rattle.gw_frame.specs.Record.{refusal_of}
use Rattle.gw_trace.specs.declared.byte_order.Endian.{Endian}
use Rattle.gw_trace.specs.declared.record.Beginning.TheVariants.{Unfinished, Bad}
use Rattle.gw_trace.specs.declared.records.Taken.{Taken}
use Rattle.gw_trace.specs.declared.refusal.TraceRefusal.{TraceRefusal}
use Rattle.gw_trace.specs.declared.refusal.TraceRefusal.TheVariants.{BadRecord, OutOfMemory, Cut, ReadFault}
use Rattle.gw_trace.specs.declared.stage.Stage.{Stage}
use Rattle.gw_trace.specs.declared.stage.Stage.TheVariants.{Header, Records, Failed}
use Rattle.gw_trace.specs.Traces.{beginning, captured_length, header_of, index_of}

-- the frame that captured octets are, or why they are none
abbrev pub frame_of : List ℕ → Result (List ℕ) FrameRefusal
frame_of octets = option_map_or Err (refusal_of octets) (Ok octets)

-- the frames among records, and why the others are none
abbrev pub frames_among : List (Result (List ℕ) FrameRefusal) → List (List ℕ)
frames_among records = filter_map result_ok records

abbrev pub refusals_among : List (Result (List ℕ) FrameRefusal) → List FrameRefusal
refusals_among records = filter_map result_err records

-- a whole record: its header, and as many octets as it says were captured
abbrev pub IsWholeRecord : Endian → List ℕ → Type 0
IsWholeRecord order octets = length octets ≡ 16 + captured_length order octets

-- less than a record: within its header, or within what was captured
abbrev pub IsPart : Endian → List ℕ → Type 0
IsPart order octets = 16 ≤ length octets → length octets < 16 + captured_length order octets

-- octets are whole records, one behind another, and behind them less than one
pub record AreParted (order : Endian) (octets : List ℕ) (records : List (Result (List ℕ) FrameRefusal)) (rest : List ℕ)
    : Type 0 where
  pub written : List (List ℕ)
  pub whole : All (IsWholeRecord order) written
  pub split : octets ≡ flat_map (λ octets. octets) written ++ rest
  pub said : records ≡ map (λ octets. frame_of (drop 16 octets)) written
  pub part : IsPart order rest

-- octets begin with the header of a trace, and behind it are these records
pub record HasRecords (octets : List ℕ) (order : Endian) (records : List (Result (List ℕ) FrameRefusal)) (rest : List ℕ)
    : Type 0 where
  pub long : 24 ≤ length octets
  pub header : header_of (take 24 octets) ≡ Ok order
  pub parted : AreParted order (drop 24 octets) records rest

-- octets begin with a header that is refused
pub record HasBadHeader (octets : List ℕ) (fault : TraceRefusal) : Type 0 where
  pub long : 24 ≤ length octets
  pub header : header_of (take 24 octets) ≡ Err fault

-- octets have these whole records so far: within a header, behind one that is refused, or behind one
abbrev pub HasSoFar : List ℕ → List (Result (List ℕ) FrameRefusal) → Type 0
HasSoFar octets records =
    ((length octets < 24) × (records ≡ [])) ⊎ ((fault : TraceRefusal) × HasBadHeader octets fault × (records ≡ []))
    ⊎ ((order : Endian) × (rest : List ℕ) × HasRecords octets order records rest)

-- octets end within a header, or within a record that may be a frame
abbrev pub IsCut : List ℕ → List (Result (List ℕ) FrameRefusal) → Type 0
IsCut octets records =
    ((length octets < 24) × (records ≡ []))
    ⊎ ((order : Endian) × (rest : List ℕ) × HasRecords octets order records rest × (0 < length rest)
    × (beginning order rest ≡ Unfinished))

-- octets end within a record that is no frame, as its header shows
abbrev pub IsCutBad : List ℕ → List (Result (List ℕ) FrameRefusal) → FrameRefusal → Type 0
IsCutBad octets records why =
    (order : Endian) × (rest : List ℕ) × HasRecords octets order records rest × (beginning order rest ≡ Bad why)

-- a trace of these records ends here, or this is wrong with it
abbrev pub Ends : {A : Type 0} → List ℕ → List (Result (List ℕ) FrameRefusal) → Result A TraceRefusal → Type 0
Ends octets records (Ok done) = (order : Endian) × HasRecords octets order records []
Ends octets records (Err Cut) = IsCut octets records
Ends octets records (Err (BadRecord index why)) = IsCutBad octets records why × (index ≡ index_of (length records))
Ends octets records (Err OutOfMemory) = ⊥
Ends octets records (Err ReadFault) = ⊥
Ends octets records (Err fault) = HasBadHeader octets fault × (records ≡ [])

-- what is kept of the octets so far: of the header or record that is not whole the first octets and how many there are, and how
-- many records are whole
pub record Begun : Type 0 where
  pub stage : Stage
  pub front : List ℕ
  pub there : ℕ
  pub count : ℕ

-- what is kept is less than a header or a record
abbrev pub IsBegun : Stage → List ℕ → ℕ → Type 0
IsBegun Header front there = length front < 24
IsBegun (Records order) front there = (length front ≡ min 32 there) × (16 ≤ there → there < 16 + captured_length order front)
IsBegun (Failed fault) front there = Unit {0}

-- within the header, behind it, and behind one that is refused
abbrev pub in_header : List ℕ → Begun
in_header front = record { stage = Header; front = front; there = 0; count = 0 }

abbrev pub in_records : Endian → List ℕ → ℕ → ℕ → Begun
in_records order front there count = record { stage = Records order; front = front; there = there; count = count }

abbrev pub at_bad_header : TraceRefusal → Begun
at_bad_header fault = record { stage = Failed fault; front = []; there = 0; count = 0 }

-- how many octets are wanted to the end of a record's header, or of the record behind it
abbrev pub wanted : Endian → List ℕ → ℕ → ℕ
wanted order front there = if nat_lt there 16 then 16 - there else 16 + captured_length order front - there

-- these octets were read, and they have these whole records
abbrev pub IsReadIn : Stage → List ℕ → ℕ → ℕ → List ℕ → List (Result (List ℕ) FrameRefusal) → Type 0
IsReadIn Header front there count octets records =
    (front ≡ octets) × (length octets < 24) × (records ≡ []) × (count ≡ 0)
IsReadIn (Records order) front there count octets records =
    (rest : List ℕ) × HasRecords octets order records rest × (front ≡ take 32 rest) × (there ≡ length rest)
    × (count ≡ index_of (length records))
IsReadIn (Failed fault) front there count octets records = HasBadHeader octets fault × (records ≡ []) × (count ≡ 0)

abbrev pub IsReadTo : Begun → List ℕ → List (Result (List ℕ) FrameRefusal) → Type 0
IsReadTo begun octets records = IsReadIn begun.stage begun.front begun.there begun.count octets records

-- octets of a piece were taken behind others, and the record that is whole with them given
pub record Takes (octets : List ℕ) (records : List (Result (List ℕ) FrameRefusal)) (piece : List ℕ) (taken : Taken)
    (after : Begun) : Type 0 where
  pub used : List ℕ
  pub split : piece ≡ used ++ taken.rest.now
  pub read : IsReadTo after (octets ++ used) (records ++ option_to_list taken.whole)
