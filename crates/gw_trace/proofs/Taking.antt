-- How an iterator over a trace goes on with a piece, and how it ends.
use Rattle.std.proofs.Common.{◌≡◌, ◌≢◌, ◌⊎◌, ℕ, Bool, List, [], ◌++◌, Option, Some, None, Result, Ok, Err, sym, ap, ◌∙◌, refl}
use Rattle.std.proofs.Common.{◌∷◌, ◌<◌, ◌+◌, if◌then◌else◌, true, false, Global, append-nil, append_assoc, arith, inl, inr, subst}
use Rattle.std.proofs.Common.{true≢false, ⊎_elim}
use Rattle.std.specs.declared.vec.IntoIter.{IntoIter}
use Rattle.std.specs.Io.KnownBytes.{Consumes, IsAtEnd, Keeps}
use Rattle.std.specs.Option.{option_map_or, option_to_list}
use Rattle.std.specs.Result.{result_err}
use Rattle.std.specs.Vec.Iter.{into_iter_items}
use Rattle.gw_io.specs.Tries.{inner_of, has_failed}
use Rattle.gw_io.proofs.Callers.{consumed_kept, consumed_more}
use Rattle.gw_trace.specs.declared.refusal.TraceRefusal.{TraceRefusal}
use Rattle.gw_trace.specs.declared.refusal.TraceRefusal.TheVariants.{BadMagic, BadVersion, BadLink, BadRecord, OutOfMemory, Cut}
use Rattle.gw_trace.specs.declared.refusal.TraceRefusal.TheVariants.{ReadFault}
use Rattle.gw_trace.specs.declared.trace_frames.TraceFrames.{TraceFrames}
use Rattle.gw_trace.specs.Progress.{HasRead, IsRefused, progress}
use Rattle.gw_trace.specs.TraceFrames.{EndsBy, HasTaken, TakesNext}
use Rattle.gw_trace.specs.Traces.{ending, reading, whole_trace}
use Rattle.gw_trace.proofs.Faults.{ending_is, reading_faults}

-- with what is wrong with the octets
wrong : (after : Option (List ℕ)) (failed : Bool) (reads : ℕ) (octets : List ℕ) (given : List (List ℕ)) (fault : TraceRefusal)
    → whole_trace octets ≡ Err fault → fault ≢ ReadFault → EndsBy after failed reads octets given (Err fault)
wrong after failed reads octets given BadMagic is other = is
wrong after failed reads octets given BadVersion is other = is
wrong after failed reads octets given BadLink is other = is
wrong after failed reads octets given (BadRecord index why) is other = is
wrong after failed reads octets given OutOfMemory is other = tt
wrong after failed reads octets given Cut is other = is
wrong after failed reads octets given ReadFault is other = absurd (other refl)

refused_by : (after : Option (List ℕ)) (failed : Bool) (reads : ℕ) (octets : List ℕ) (given : List (List ℕ))
    (fault : TraceRefusal) → Some fault ≡ ending (reading octets).stage (reading octets).rest
    → EndsBy after failed reads octets given (Err fault)
refused_by after failed reads octets given fault shows =
    wrong after failed reads octets given fault (ap (λ e. option_map_or Err e (Ok (reading octets).frames)) (sym shows))
    (ending_is (reading octets).stage (reading octets).rest fault (reading_faults octets) shows)

-- at the end of the reader
pub ends_by : (after : Option (List ℕ)) (failed : Bool) (reads : ℕ) (octets : List ℕ) (given : List (List ℕ))
    (result : Result (Unit {0}) TraceRefusal) → IsAtEnd after → (reading octets).frames ≡ given
    → result_err result ≡ ending (reading octets).stage (reading octets).rest → EndsBy after failed reads octets given result
ends_by after failed reads octets given (Ok done) end all shows =
    (end, ap (λ e. option_map_or Err e (Ok (reading octets).frames)) (sym shows) ∙ ap Ok all)
ends_by after failed reads octets given (Err fault) end all shows = refused_by after failed reads octets given fault shows

-- at a piece that is refused
pub ends_refused : (after : Option (List ℕ)) (failed : Bool) (reads : ℕ) (octets piece : List ℕ) (given : List (List ℕ))
    (fault : TraceRefusal) → IsRefused octets piece fault → EndsBy after failed reads (octets ++ piece) given (Err fault)
ends_refused after failed reads octets piece given fault refused =
    refused_by after failed reads (octets ++ piece) given fault
    (sym (ap (λ s. ending s (reading (octets ++ piece)).rest) refused.fault_shows))

-- none of the frames before is left
pub all_given : (octets : List ℕ) (given frames : List (List ℕ)) → (reading octets).frames ≡ given ++ frames → frames ≡ []
    → (reading octets).frames ≡ given
all_given octets given frames so_far none = so_far ∙ ap (λ l. given ++ l) none ∙ append-nil given

-- the frames of one more piece
pub given_more : (octets piece : List ℕ) (given old frames : List (List ℕ)) → (reading octets).frames ≡ given ++ old → old ≡ []
    → (reading (octets ++ piece)).frames ≡ (reading octets).frames ++ frames
    → (reading (octets ++ piece)).frames ≡ given ++ frames
given_more octets piece given old frames so_far none more =
    more ∙ ap (λ l. l ++ frames) (all_given octets given old so_far none)

-- an end that is known, and one that is not there
at_end : {A : Type 0} (E : A → Type 0) (end : Option A) (is : A) → end ≡ Some is → E is → (a : A) → end ≡ Some a → E a
at_end E end is known holds a other = let same : is ≡ a = cc in subst E same holds

no_end : {A : Type 0} (E : A → Type 0) (end : Option A) → end ≡ None → (a : A) → end ≡ Some a → E a
no_end {A} E end none a is = let bad : ◌≡◌ {A = Option A} None (Some a) = sym none ∙ is in absurd cc

-- ---- the iterator itself: `new` is `old` after a read, while none of the frames before was left

is_memory : (why : TraceRefusal) → (why ≡ OutOfMemory) ⊎ (why ≢ OutOfMemory)
is_memory BadMagic = inr (λ e. cc)
is_memory BadVersion = inr (λ e. cc)
is_memory BadLink = inr (λ e. cc)
is_memory (BadRecord index why) = inr (λ e. cc)
is_memory OutOfMemory = inl refl
is_memory Cut = inr (λ e. cc)
is_memory ReadFault = inr (λ e. cc)

-- what holds of an end
abbrev EndsAt : {R : Type 0} → (R → Option (List ℕ)) → TraceFrames R → List ℕ → List (List ℕ) → Result (Unit {0}) TraceRefusal
    → Type 0
EndsAt remaining frames octets given end = (into_iter_items frames.frames ≡ [])
    × EndsBy (remaining (inner_of frames.reader)) (has_failed frames.reader) frames.pieces.left octets given end

-- the front of a trace, which its reader gave before
pub begins_well : {R : Type 0} (remaining : R → Option (List ℕ)) (before : Option (List ℕ)) (front : List ℕ)
    (new : TraceFrames R) → Consumes before (remaining (inner_of new.reader)) front → HasRead new.trace front
    → (reading front).frames ≡ into_iter_items new.frames → new.end ≡ None
    → HasTaken remaining before front [] new
begins_well remaining before front new consumed read frames going = record {
  consumed = λ fine. consumed;
  read = read;
  so_far = frames;
  ended = no_end (EndsAt remaining new front []) new.end going;
}

-- one that is refused at once
pub refused_at_once : (front : List ℕ) (why : TraceRefusal) → IsRefused [] front why → whole_trace front ≡ Err why
refused_at_once front why refused =
    ap (λ stage. option_map_or Err (ending stage (reading front).rest) (Ok (reading front).frames)) refused.fault_shows

module _ {R : Type 0} (remaining : R → Option (List ℕ)) (before : Option (List ℕ)) (octets : List ℕ) (given : List (List ℕ))
    (old new : TraceFrames R) (h : HasTaken remaining before octets given old) (open_old : old.end ≡ None)
    (none : into_iter_items old.frames ≡ []) where
  so_far_consumed : Consumes before (remaining (inner_of old.reader)) octets
  so_far_consumed = h.consumed (λ e. not_ended (sym open_old ∙ e))
    where
      not_ended : ◌≡◌ {A = Option (Result (Unit {0}) TraceRefusal)} None (Some (Err OutOfMemory)) → ⊥
      not_ended e = cc

  -- a piece whose frames are at hand
  pub takes_piece : (piece : List ℕ) → Consumes (remaining (inner_of old.reader)) (remaining (inner_of new.reader)) piece
      → HasRead new.trace (octets ++ piece)
      → (reading (octets ++ piece)).frames ≡ (reading octets).frames ++ into_iter_items new.frames → new.end ≡ None
      → (more : List ℕ) × HasTaken remaining before (octets ++ more) given new
  takes_piece piece consumed read frames going = (
    piece,
    record {
      consumed = λ fine. consumed_more before (remaining (inner_of old.reader)) (remaining (inner_of new.reader)) octets piece
          so_far_consumed consumed;
      read = read;
      so_far = given_more octets piece given (into_iter_items old.frames) (into_iter_items new.frames) h.so_far none frames;
      ended = no_end (EndsAt remaining new (octets ++ piece) given) new.end going;
    },
  )

  -- a piece that is refused, or for whose frames memory is wanting
  pub takes_fault : (piece : List ℕ) (why : TraceRefusal)
      → Consumes (remaining (inner_of old.reader)) (remaining (inner_of new.reader)) piece
      → new.frames ≡ old.frames → new.end ≡ Some (Err why)
      → (why ≢ OutOfMemory → IsRefused octets piece why × HasRead new.trace (octets ++ piece))
      → (why ≡ OutOfMemory → new.trace ≡ old.trace)
      → (more : List ℕ) × HasTaken remaining before (octets ++ more) given new
  takes_fault piece why consumed same end refused kept = ⊎_elim memory fault (is_memory why)
    where
      none_now : into_iter_items new.frames ≡ []
      none_now = ap into_iter_items same ∙ none

      memory : why ≡ OutOfMemory → (more : List ℕ) × HasTaken remaining before (octets ++ more) given new
      memory is = (
        [],
        record {
          consumed = λ fine. absurd (fine (end ∙ ap (λ w. Some (Err w)) is));
          read = kept is ∙ h.read ∙ ap progress (sym (append-nil octets));
          so_far = ap (λ o. (reading o).frames) (append-nil octets) ∙ h.so_far
              ∙ ap (λ f. given ++ into_iter_items f) (sym same);
          ended = at_end (EndsAt remaining new (octets ++ []) given) new.end (Err why) end (
            none_now,
            subst (λ w. EndsBy (remaining (inner_of new.reader))
                (has_failed new.reader) new.pieces.left (octets ++ []) given (Err w)) (sym is) tt,
          );
        },
      )

      fault : why ≢ OutOfMemory → (more : List ℕ) × HasTaken remaining before (octets ++ more) given new
      fault other = (
        piece,
        record {
          consumed = λ fine. consumed_more before (remaining (inner_of old.reader)) (remaining (inner_of new.reader)) octets
              piece so_far_consumed consumed;
          read = (refused other).1;
          so_far = (refused other).0.nothing ∙ h.so_far ∙ ap (λ f. given ++ into_iter_items f) (sym same);
          ended = at_end (EndsAt remaining new (octets ++ piece) given) new.end (Err why) end (
            none_now,
            ends_refused (remaining (inner_of new.reader))
                (has_failed new.reader) new.pieces.left octets piece given why (refused other).0,
          );
        },
      )

  -- the end of the reader, or a read that failed
  pub takes_end : (end : Result (Unit {0}) TraceRefusal)
      → Keeps (remaining (inner_of old.reader)) (remaining (inner_of new.reader)) → new.trace ≡ old.trace
      → new.frames ≡ old.frames → new.end ≡ Some end
      → ((reading octets).frames ≡ given → EndsBy (remaining (inner_of new.reader)) (has_failed new.reader) new.pieces.left octets
      given end)
      → (more : List ℕ) × HasTaken remaining before (octets ++ more) given new
  takes_end end kept trace same is how = (
    [],
    subst (λ o. HasTaken remaining before o given new) (sym (append-nil octets)) (record {
      consumed = λ fine. consumed_kept before (remaining (inner_of old.reader)) (remaining (inner_of new.reader)) octets
          so_far_consumed kept;
      read = trace ∙ h.read;
      so_far = h.so_far ∙ ap (λ f. given ++ into_iter_items f) (sym same);
      ended = at_end (EndsAt remaining new octets given) new.end end is (
        ap into_iter_items same ∙ none,
        how (all_given octets given (into_iter_items old.frames) h.so_far none),
      );
    }),
  )

-- ---- its frames at hand

-- the others, where none of them was given
pub with_others : {R : Type 0} (remaining : R → Option (List ℕ)) (before : Option (List ℕ)) (octets : List ℕ)
    (given : List (List ℕ)) (old : TraceFrames R) (left : IntoIter (List ℕ) Global)
    → into_iter_items old.frames ≡ into_iter_items left → HasTaken remaining before octets given old
    → HasTaken remaining before octets given (record old { frames = left })
with_others remaining before octets given old left same h = record {
  consumed = h.consumed;
  read = h.read;
  so_far = h.so_far ∙ ap (λ l. given ++ l) same;
  ended = λ end is. (sym same ∙ (h.ended end is).0, (h.ended end is).1);
}

-- the others, where the first was given
pub with_first : {R : Type 0} (remaining : R → Option (List ℕ)) (before : Option (List ℕ)) (octets : List ℕ)
    (given : List (List ℕ)) (old : TraceFrames R) (frame : List ℕ) (left : IntoIter (List ℕ) Global)
    → into_iter_items old.frames ≡ frame ∷ into_iter_items left → HasTaken remaining before octets given old
    → HasTaken remaining before octets (given ++ frame ∷ []) (record old { frames = left })
with_first remaining before octets given old frame left first h = record {
  consumed = h.consumed;
  read = h.read;
  so_far = h.so_far ∙ ap (λ l. given ++ l) first ∙ sym (append_assoc given (frame ∷ []) (into_iter_items left));
  ended = λ end is. absurd (some (sym first ∙ (h.ended end is).0));
}
  where
    some : frame ∷ into_iter_items left ≡ [] → ⊥
    some e = cc

-- so many reads are left, or it has ended
pub one_fewer : (after before : Bool) (left most : ℕ) → before ≡ false → (after ≡ false → left < most)
    → (if after then 0 else left + 1) < (if before then 0 else most + 1)
one_fewer true true left most going fewer = absurd (true≢false going)
one_fewer false true left most going fewer = absurd (true≢false going)
one_fewer true false left most going fewer = omega arith
one_fewer false false left most going fewer = let less = fewer refl in omega arith

-- nothing was taken more, and the next frame was
pub taken_so_far : {R : Type 0} (remaining : R → Option (List ℕ)) (before : Option (List ℕ)) (octets : List ℕ)
    (given : List (List ℕ)) (frames : TraceFrames R) → HasTaken remaining before octets given frames
    → HasTaken remaining before (octets ++ []) (given ++ []) frames
taken_so_far remaining before octets given frames h =
    subst (λ o. HasTaken remaining before o (given ++ []) frames) (sym (append-nil octets))
    (subst (λ l. HasTaken remaining before octets l frames) (sym (append-nil given)) h)

pub taken_next : {R : Type 0} (remaining : R → Option (List ℕ)) (before : Option (List ℕ)) (octets more : List ℕ)
    (given left : List (List ℕ)) (old new : TraceFrames R) (frame : Option (List ℕ))
    → HasTaken remaining before (octets ++ more) (given ++ left) old → TakesNext remaining old frame new
    → (further : List ℕ) × HasTaken remaining before (octets ++ further) (given ++ (left ++ option_to_list frame)) new
taken_next remaining before octets more given left old new frame h step =
    let next = step.goes_on before (octets ++ more) (given ++ left) h in (
      more ++ next.0,
      subst (λ o. HasTaken remaining before o (given ++ (left ++ option_to_list frame)) new) (append_assoc octets more next.0)
          (subst (λ l. HasTaken remaining before ((octets ++ more) ++ next.0) l new)
          (append_assoc given left (option_to_list frame))
          next.1),
    )
