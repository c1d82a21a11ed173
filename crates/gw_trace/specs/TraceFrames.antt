-- What was taken of a reader's trace, frame by frame: `remaining` is what a reader has left, and `before` what it had at first.
use Rattle.std.specs.Prelude.{◌≡◌, ◌≢◌, ◌⊎◌, ℕ, ◌+◌, ◌*◌, Bool, true, List, [], ◌++◌, Option, Some, None, Result, Ok, Err, IfNone}
use Rattle.std.specs.Prelude.{IsTrue, is_some}
use Rattle.std.specs.Option.{option_to_list}
use Rattle.std.specs.Io.KnownBytes.{Consumes, IsAtEnd}
use Rattle.std.specs.Iterator.{Count, at_most}
use Rattle.std.specs.Vec.Iter.{into_iter_items, into_iter_len}
use Rattle.gw_io.specs.Tries.{inner_of, has_failed}
use Rattle.gw_trace.specs.declared.refusal.TraceRefusal.{TraceRefusal}
use Rattle.gw_trace.specs.declared.refusal.TraceRefusal.TheVariants.{OutOfMemory, ReadFault}
use Rattle.gw_trace.specs.declared.trace_frames.TraceFrames.{TraceFrames}
use Rattle.gw_trace.specs.Progress.{HasRead}
use Rattle.gw_trace.specs.Traces.{reading, whole_trace}

-- how a trace of these octets and frames ended: whole, and its reader has no more; by a failed read, or with no read left; for
-- want of memory; or by what is wrong with it
abbrev pub EndsBy : Option (List ℕ) → Bool → ℕ → List ℕ → List (List ℕ) → Result (Unit {0}) TraceRefusal → Type 0
EndsBy after failed reads octets frames (Ok done) = IsAtEnd after × (whole_trace octets ≡ Ok frames)
EndsBy after failed reads octets frames (Err OutOfMemory) = Unit {0}
EndsBy after failed reads octets frames (Err ReadFault) = (failed ≡ true) ⊎ (reads ≡ 0)
EndsBy after failed reads octets frames (Err fault) = whole_trace octets ≡ Err fault

-- these octets were read, but for a piece for whose frames memory was wanting, and these frames taken of them; once it has ended
-- none is left
pub record HasTaken {R : Type 0} (remaining : R → Option (List ℕ)) (before : Option (List ℕ)) (octets : List ℕ)
    (given : List (List ℕ)) (frames : TraceFrames R) : Type 0 where
  pub consumed : frames.end ≢ Some (Err OutOfMemory) → Consumes before (remaining (inner_of frames.reader)) octets
  pub read : HasRead frames.trace octets
  pub so_far : (reading octets).frames ≡ given ++ into_iter_items frames.frames
  pub ended : (end : Result (Unit {0}) TraceRefusal) → frames.end ≡ Some end → (into_iter_items frames.frames ≡ [])
      × EndsBy (remaining (inner_of frames.reader)) (has_failed frames.reader) frames.pieces.left octets given end

abbrev pub has_ended : {R : Type 0} → TraceFrames R → Bool
has_ended frames = is_some frames.end

-- the next frame was taken, for which more may have been read; none is left once it has ended, and only then
pub record TakesNext {R : Type 0} (remaining : R → Option (List ℕ)) (old : TraceFrames R) (frame : Option (List ℕ))
    (new : TraceFrames R) : Type 0 where
  pub goes_on : (before : Option (List ℕ)) (octets : List ℕ) (given : List (List ℕ)) → HasTaken remaining before octets given old
      → (more : List ℕ) × HasTaken remaining before (octets ++ more) (given ++ option_to_list frame) new
  pub ends : IfNone frame (IsTrue (has_ended new))
  pub stays : IsTrue (has_ended old) → frame ≡ None

-- the most frames that can be left: a piece has less than 2 to the 64th
abbrev pub most_of : {R : Type 0} → TraceFrames R → Count
most_of frames = at_most (into_iter_len frames.frames + frames.pieces.left * 18446744073709551616)
