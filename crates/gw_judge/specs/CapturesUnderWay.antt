-- How far a trace was judged.
use Rattle.std.specs.Prelude.{◌≡◌, ◌≤◌, ℕ, Bool, true, List, [], ◌∷◌, ◌++◌, length, Option, Result, Ok, Err}
use Rattle.std.specs.Io.KnownBytes.{Consumes, IsAtEnd}
use Rattle.gw_frame.specs.declared.refusal.FrameRefusal.{FrameRefusal}
use Rattle.gw_trace.specs.declared.byte_order.Endian.{Endian}
use Rattle.gw_trace.specs.declared.refusal.TraceRefusal.{TraceRefusal}
use Rattle.gw_trace.specs.declared.refusal.TraceRefusal.TheVariants.{BadRecord, OutOfMemory, Cut, ReadFault}
use Rattle.gw_trace.specs.Recorded.{HasBadHeader, HasRecords, IsReadTo, frames_among, refusals_among}
use Rattle.gw_trace.specs.Traces.{index_of}
use Rattle.gw_judge.specs.declared.capture.CaptureJudging.{CaptureJudging}
use Rattle.gw_judge.specs.declared.capture_fault.CaptureFault.{CaptureFault}
use Rattle.gw_judge.specs.declared.capture_tally.CaptureTally.{CaptureTally}
use Rattle.gw_judge.specs.declared.fate.Fate.{Fate}
use Rattle.gw_judge.specs.Captures.{AreTold, EndsStrictly, IsCaptureFault}
use Rattle.gw_judge.specs.Tallies.{up_to_most}

-- the trace was read so far, and its records were counted; strictly, all of them are frames
pub record HasCounted (fate : List ℕ → Fate) (strict : Bool) (octets : List ℕ) (p : CaptureJudging) : Type 0 where
  pub records : List (Result (List ℕ) FrameRefusal)
  pub read : IsReadTo p.records octets records
  pub counted : AreTold fate records p.told
  pub fine : strict ≡ true → refusals_among records ≡ []

-- one record more was counted; or, strictly, it is no frame
abbrev pub CountsRecord : {A : Type 0} → (List ℕ → Fate) → Bool → List (Result (List ℕ) FrameRefusal)
    → Result (List ℕ) FrameRefusal → Result A CaptureFault → CaptureTally → Type 0
CountsRecord fate strict records said (Ok done) told =
    AreTold fate (records ++ said ∷ []) told × (strict ≡ true → refusals_among (said ∷ []) ≡ [])
CountsRecord fate strict records said (Err fault) told =
    (why : FrameRefusal) × (strict ≡ true) × (said ≡ Err why) × (fault.why ≡ BadRecord (index_of (length records)) why)
    × (fault.judged ≡ up_to_most (length (frames_among records)))

-- a fault shows in these octets, whatever follows
abbrev pub Refuses : Bool → List ℕ → ℕ → TraceRefusal → Type 0
Refuses strict octets judged (BadRecord index why) = (strict ≡ true) × EndsStrictly octets index why judged
Refuses strict octets judged OutOfMemory = ⊥
Refuses strict octets judged Cut = ⊥
Refuses strict octets judged ReadFault = ⊥
Refuses strict octets judged why = HasBadHeader octets why × (judged ≡ 0)

-- octets of a piece were taken, and their records counted
abbrev pub Steps : (List ℕ → Fate) → Bool → List ℕ → List ℕ → List ℕ → CaptureJudging → Type 0
Steps fate strict octets piece rest p =
    (used : List ℕ) × (piece ≡ used ++ rest) × HasCounted fate strict (octets ++ used) p

-- these octets were judged; or a fault shows
abbrev pub Counts : {A : Type 0} → (List ℕ → Fate) → Bool → List ℕ → Result A CaptureFault → CaptureJudging → Type 0
Counts fate strict octets (Ok done) p = HasCounted fate strict octets p
Counts fate strict octets (Err fault) p = Refuses strict octets fault.judged fault.why

-- a trace that ends here
abbrev pub Closes : (List ℕ → Fate) → Bool → List ℕ → Result CaptureTally CaptureFault → Type 0
Closes fate strict octets (Ok told) =
    (order : Endian) × (records : List (Result (List ℕ) FrameRefusal)) × HasRecords octets order records []
    × AreTold fate records told × (strict ≡ true → refusals_among records ≡ [])
Closes fate strict octets (Err fault) =
    (after : Option (List ℕ)) → (read_failed : Bool) → IsAtEnd after
    → IsCaptureFault strict octets after read_failed fault.judged fault.why

-- the reader gave octets behind the first ones, and all of them were judged
pub record IsCaptureUnderWay (fate : List ℕ → Fate) (strict : Bool) (first : List ℕ) (before after : Option (List ℕ))
    (p : CaptureJudging) (reads : ℕ) : Type 0 where
  pub later : List ℕ
  pub consumed : Consumes before after later
  pub counted : HasCounted fate strict (first ++ later) p
  pub some : reads ≤ length later
