-- What judging a classic pcap trace reads and counts: `first` are the octets that were read before, and `before` and `after` are
-- what its reader has left.
use Rattle.std.specs.Prelude.{◌≡◌, ◌⊎◌, ◌≤◌, ℕ, ◌+◌, Bool, true, List, [], ◌∷◌, ◌++◌, length, map, Option, Some, None, Result, Ok}
use Rattle.std.specs.Prelude.{Err}
use Rattle.std.specs.Io.KnownBytes.{Consumes, IsAtEnd}
use Rattle.gw_frame.specs.declared.refusal.FrameRefusal.{FrameRefusal}
use Rattle.gw_trace.specs.declared.byte_order.Endian.{Endian}
use Rattle.gw_trace.specs.declared.refusal.TraceRefusal.{TraceRefusal}
use Rattle.gw_trace.specs.declared.refusal.TraceRefusal.TheVariants.{BadRecord, OutOfMemory, Cut, ReadFault}
use Rattle.gw_trace.specs.Recorded.{HasBadHeader, HasRecords, HasSoFar, IsCut, IsCutBad, frames_among, refusals_among}
use Rattle.gw_trace.specs.Traces.{index_of}
use Rattle.gw_judge.specs.declared.capture_tally.CaptureTally.{CaptureTally}
use Rattle.gw_judge.specs.declared.capture_tally.NoFrame.{NoFrame}
use Rattle.gw_judge.specs.declared.fate.Fate.{Fate}
use Rattle.gw_judge.specs.declared.tally.Tally.{Tally}
use Rattle.gw_judge.specs.Tallies.{up_to_most, IsTally}

-- the first record that is no frame: its number, counted from 0, and why it is none
abbrev pub IsFirstNoFrame : List (Result (List ℕ) FrameRefusal) → Option NoFrame → Type 0
IsFirstNoFrame records None = refusals_among records ≡ []
IsFirstNoFrame records (Some first) =
    (frames : List (List ℕ)) × (later : List (Result (List ℕ) FrameRefusal)) × (records ≡ map Ok frames ++ Err first.why ∷ later)
    × (first.index ≡ index_of (length frames))

-- what is told of records: each frame among them has its fate, and the others are counted as refused
pub record AreTold (fate : List ℕ → Fate) (records : List (Result (List ℕ) FrameRefusal)) (told : CaptureTally) : Type 0 where
  pub frames : IsTally (map fate (frames_among records)) told.frames
  pub refused : told.refused ≡ up_to_most (length (refusals_among records))
  pub first : IsFirstNoFrame records told.first

-- the tally of all records, where those that are no frames count as refused lines
abbrev pub with_refused : ℕ → Tally → Tally
with_refused more tally = record tally {
  lines = up_to_most (tally.lines + more);
  counts = record tally.counts { refused = up_to_most (tally.counts.refused + more) };
}

-- the reader gave a whole trace, and its records were counted; strictly, all of them are frames
pub record IsCaptureJudged (fate : List ℕ → Fate) (strict : Bool) (first : List ℕ) (before after : Option (List ℕ))
    (told : CaptureTally) : Type 0 where
  pub later : List ℕ
  pub consumed : Consumes before after later
  pub end : IsAtEnd after
  pub order : Endian
  pub records : List (Result (List ℕ) FrameRefusal)
  pub whole : HasRecords (first ++ later) order records []
  pub counted : AreTold fate records told
  pub fine : strict ≡ true → refusals_among records ≡ []

-- the frames among these records were judged; strictly, all of them are frames
pub record EndsBehind (strict : Bool) (records : List (Result (List ℕ) FrameRefusal)) (judged : ℕ) : Type 0 where
  pub told : judged ≡ up_to_most (length (frames_among records))
  pub fine : strict ≡ true → refusals_among records ≡ []

-- strictly, the first record that is no frame ends the judging, whatever follows
pub record EndsStrictly (octets : List ℕ) (index : ℕ) (why : FrameRefusal) (judged : ℕ) : Type 0 where
  pub front : List ℕ
  pub behind : List ℕ
  pub all : octets ≡ front ++ behind
  pub frames : List (List ℕ)
  pub records : HasSoFar front (map Ok frames ++ Err why ∷ [])
  pub number : index ≡ index_of (length frames)
  pub told : judged ≡ up_to_most (length frames)

-- the octets end within a record that is no frame, as its header shows
abbrev pub EndsWithin : Bool → List ℕ → ℕ → FrameRefusal → ℕ → Type 0
EndsWithin strict octets index why judged =
    (records : List (Result (List ℕ) FrameRefusal)) × IsCutBad octets records why × (index ≡ index_of (length records))
    × EndsBehind strict records judged

-- a read failed, or a trace of 2^64 - 1 octets has no end; or this is wrong with the trace, whatever follows, or as it ends here
abbrev pub IsCaptureFault : Bool → List ℕ → Option (List ℕ) → Bool → ℕ → TraceRefusal → Type 0
IsCaptureFault strict octets after read_failed judged OutOfMemory = ⊥
IsCaptureFault strict octets after read_failed judged ReadFault =
    ((read_failed ≡ true) ⊎ (18446744073709551615 ≤ length octets))
    × ((records : List (Result (List ℕ) FrameRefusal)) × HasSoFar octets records × EndsBehind strict records judged)
IsCaptureFault strict octets after read_failed judged Cut =
    IsAtEnd after × ((records : List (Result (List ℕ) FrameRefusal)) × IsCut octets records × EndsBehind strict records judged)
IsCaptureFault strict octets after read_failed judged (BadRecord index why) =
    (IsAtEnd after × EndsWithin strict octets index why judged) ⊎ ((strict ≡ true) × EndsStrictly octets index why judged)
IsCaptureFault strict octets after read_failed judged why = HasBadHeader octets why × (judged ≡ 0)

-- the reader gave a part of a trace, and this ended the judging
pub record IsCapturePartlyJudged (strict : Bool) (first : List ℕ) (before after : Option (List ℕ)) (read_failed : Bool)
    (judged : ℕ) (why : TraceRefusal) : Type 0 where
  pub later : List ℕ
  pub consumed : Consumes before after later
  pub cause : IsCaptureFault strict (first ++ later) after read_failed judged why
