-- A trace that is judged piece by piece.
use Rattle.std.proofs.Common.{◌≡◌, ◌⊎◌, ℕ, ◌+◌, ◌<◌, ◌≤◌, Bool, true, List, [], ◌∷◌, ◌++◌, length, map, Option, Some, None}
use Rattle.std.proofs.Common.{Result, Ok, Err, inl, inr, sym, ap, ◌∙◌, subst, refl, append_assoc, append-nil, arith}
use Rattle.std.proofs.Common.{length-append}
use Rattle.std.proofs.lemmas.List.{map-append, length-map}
use Rattle.std.proofs.lemmas.List.Elements.{filter_map-append}
use Rattle.std.specs.Prelude.{IfOk, IfErr}
use Rattle.std.specs.Io.KnownBytes.{Consumes, IsAtEnd}
use Rattle.std.specs.Option.{option_map_or, option_to_list}
use Rattle.std.specs.Result.{result_ok, result_err}
use Rattle.gw_io.proofs.Callers.{consumed_nothing, consumed_more}
use Rattle.gw_frame.specs.declared.refusal.FrameRefusal.{FrameRefusal}
use Rattle.gw_trace.specs.declared.refusal.TraceRefusal.{TraceRefusal}
use Rattle.gw_trace.specs.declared.refusal.TraceRefusal.TheVariants as trace
use Rattle.gw_trace.specs.declared.refusal.TraceRefusal.TheVariants.{BadRecord}
use Rattle.gw_trace.specs.Recorded.{Begun, HasBadHeader, HasSoFar, IsReadTo, Ends, Takes, frames_among, refusals_among}
use Rattle.gw_trace.specs.declared.records.Taken.{Taken}
use Rattle.gw_trace.specs.Traces.{index_of}
use Rattle.gw_trace.specs.declared.byte_order.Endian.{Endian}
use Rattle.gw_trace.specs.FaultKinds.{IsHeaderFault}
use Rattle.gw_trace.proofs.Callers.{bad_header_kind, so_far}
use Rattle.gw_judge.specs.declared.fate.Fate.{Fate}
use Rattle.gw_judge.specs.declared.capture.CaptureJudging.{CaptureJudging}
use Rattle.gw_judge.specs.declared.capture_fault.CaptureFault.{CaptureFault}
use Rattle.gw_judge.specs.declared.capture_tally.CaptureTally.{CaptureTally}
use Rattle.gw_judge.specs.declared.capture_tally.NoFrame.{NoFrame}
use Rattle.gw_judge.specs.Captures.{AreTold, EndsBehind, IsCaptureFault, IsCaptureJudged, IsCapturePartlyJudged, IsFirstNoFrame}
use Rattle.gw_judge.specs.CapturesUnderWay.{CountsRecord, HasCounted, Refuses, Steps, Closes, IsCaptureUnderWay}
use Rattle.gw_judge.specs.Counting.{no_tally, tally_with}
use Rattle.gw_judge.specs.Grouped.{Grouped, no_groups}
use Rattle.gw_judge.specs.Tallies.{up_to_most, IsTally}
use Rattle.gw_judge.proofs.Counting.{none_told, tally_more}
use Rattle.gw_judge.proofs.OneMore.{saturates}

-- no record
pub nothing_told : (fate : List ℕ → Fate) (told : CaptureTally) (groups : Grouped) → groups ≡ no_groups groups.grouping
    → told.frames ≡ no_tally groups → told.refused ≡ 0 → told.first ≡ None → AreTold fate [] told
nothing_told fate told groups fresh untold none first = record {
  frames = subst (IsTally []) (sym untold) (none_told groups fresh);
  refused = none;
  first = subst (IsFirstNoFrame []) (sym first) refl;
}

-- ---- a record more

-- a frame
frames_more : (records : List (Result (List ℕ) FrameRefusal)) (frame : List ℕ)
    → frames_among (records ++ Ok frame ∷ []) ≡ frames_among records ++ frame ∷ []
frames_more records frame = filter_map-append result_ok records (Ok frame ∷ [])

refusals_kept : (records : List (Result (List ℕ) FrameRefusal)) (frame : List ℕ)
    → refusals_among (records ++ Ok frame ∷ []) ≡ refusals_among records
refusals_kept records frame =
    filter_map-append result_err records (Ok frame ∷ []) ∙ append-nil (refusals_among records)

-- none
frames_kept : (records : List (Result (List ℕ) FrameRefusal)) (why : FrameRefusal)
    → frames_among (records ++ Err why ∷ []) ≡ frames_among records
frames_kept records why = filter_map-append result_ok records (Err why ∷ []) ∙ append-nil (frames_among records)

refusals_more : (records : List (Result (List ℕ) FrameRefusal)) (why : FrameRefusal)
    → refusals_among (records ++ Err why ∷ []) ≡ refusals_among records ++ why ∷ []
refusals_more records why = filter_map-append result_err records (Err why ∷ [])

-- records of which none is refused are their frames
pub all_frames : (records : List (Result (List ℕ) FrameRefusal)) → refusals_among records ≡ []
    → records ≡ map Ok (frames_among records)
all_frames [] none = refl
all_frames (Ok frame ∷ records) none = ap (λ rs. Ok frame ∷ rs) (all_frames records none)
all_frames (Err why ∷ records) none = absurd (some_is_none why (refusals_among records) none)
  where
    some_is_none : (why : FrameRefusal) (refusals : List FrameRefusal) → why ∷ refusals ≡ [] → ⊥
    some_is_none why refusals h = cc

-- the first that is refused stays the first
first_stays : (records : List (Result (List ℕ) FrameRefusal)) (said : Result (List ℕ) FrameRefusal) (first : NoFrame)
    → IsFirstNoFrame records (Some first) → IsFirstNoFrame (records ++ said ∷ []) (Some first)
first_stays records said first h = (
  h.0,
  h.1 ++ said ∷ [],
  ap (λ rs. rs ++ said ∷ []) h.2 ∙ append_assoc (map Ok h.0) (Err first.why ∷ h.1) (said ∷ []),
  h.3,
)

first_kept : (records : List (Result (List ℕ) FrameRefusal)) (frame : List ℕ) (first : Option NoFrame)
    → IsFirstNoFrame records first → IsFirstNoFrame (records ++ Ok frame ∷ []) first
first_kept records frame None h = refusals_kept records frame ∙ h
first_kept records frame (Some first) h = first_stays records (Ok frame) first h

first_found : (records : List (Result (List ℕ) FrameRefusal)) (more : NoFrame) (first : Option NoFrame)
    → more.index ≡ index_of (length records) → IsFirstNoFrame records first
    → IsFirstNoFrame (records ++ Err more.why ∷ []) (option_map_or Some first (Some more))
first_found records more None at h =
    let all : records ≡ map Ok (frames_among records) = all_frames records h in (
      frames_among records,
      [],
      ap (λ rs. rs ++ Err more.why ∷ []) all,
      at ∙ ap index_of (ap length all ∙ length-map (frames_among records) Ok),
    )
first_found records more (Some first) at h = first_stays records (Err more.why) first h

-- a frame more
pub frame_told : (fate : List ℕ → Fate) (records : List (Result (List ℕ) FrameRefusal)) (frame : List ℕ) (old new : CaptureTally)
    → AreTold fate records old → new.frames ≡ tally_with (fate frame) old.frames → new.refused ≡ old.refused
    → new.first ≡ old.first → AreTold fate (records ++ Ok frame ∷ []) new
frame_told fate records frame old new h counted refused first = record {
  frames = subst (λ frames. IsTally (map fate frames) new.frames) (sym (frames_more records frame))
      (subst (λ fates. IsTally fates new.frames) (sym (map-append fate (frames_among records) (frame ∷ [])))
      (subst (IsTally (map fate (frames_among records) ++ fate frame ∷ [])) (sym counted)
      (tally_more (map fate (frames_among records)) (fate frame) old.frames h.frames)));
  refused = refused ∙ h.refused
      ∙ sym (ap (λ (whys : List FrameRefusal). up_to_most (length whys)) (refusals_kept records frame));
  first = subst (IsFirstNoFrame (records ++ Ok frame ∷ [])) (sym first) (first_kept records frame old.first h.first);
}

-- one more that is none
pub refused_told : (fate : List ℕ → Fate) (records : List (Result (List ℕ) FrameRefusal)) (more : NoFrame)
    (old new : CaptureTally) → AreTold fate records old → more.index ≡ index_of (length records) → new.frames ≡ old.frames
    → new.refused ≡ up_to_most (old.refused + 1) → new.first ≡ option_map_or Some old.first (Some more)
    → AreTold fate (records ++ Err more.why ∷ []) new
refused_told fate records more old new h at frames refused first = record {
  frames = subst (λ fs. IsTally (map fate fs) new.frames) (sym (frames_kept records more.why))
      (subst (IsTally (map fate (frames_among records))) (sym frames) h.frames);
  refused = refused ∙ ap (λ n. up_to_most (n + 1)) h.refused ∙ sym (saturates (length (refusals_among records)))
      ∙ sym (ap up_to_most (ap length (refusals_more records more.why)
      ∙ length-append (refusals_among records) (more.why ∷ [])));
  first = subst (IsFirstNoFrame (records ++ Err more.why ∷ [])) (sym first) (first_found records more old.first at h.first);
}

-- how many frames were judged
pub judged_is : (fate : List ℕ → Fate) (records : List (Result (List ℕ) FrameRefusal)) (told : CaptureTally)
    → AreTold fate records told → told.frames.lines ≡ up_to_most (length (frames_among records))
judged_is fate records told h = h.frames.lines ∙ ap up_to_most (length-map (frames_among records) fate)

-- ---- a step

-- strictly, a record that is no frame ends the judging
pub ends_strictly : (fate : List ℕ → Fate) (strict : Bool) (octets used rest piece : List ℕ)
    (records : List (Result (List ℕ) FrameRefusal)) (said : Result (List ℕ) FrameRefusal) (kept : Begun) (fault : CaptureFault)
    (told : CaptureTally) → (strict ≡ true → refusals_among records ≡ []) → piece ≡ used ++ rest
    → IsReadTo kept (octets ++ used) (records ++ said ∷ [])
    → CountsRecord {A = Unit {0}} fate strict records said (Err fault) told
    → Refuses strict (octets ++ piece) fault.judged fault.why
ends_strictly fate strict octets used rest piece records said kept fault told fine split read h =
    let none : refusals_among records ≡ [] = fine h.1 in
    let all : records ≡ map Ok (frames_among records) = all_frames records none in
    subst (Refuses strict (octets ++ piece) fault.judged) (sym h.3) (
      h.1,
      record {
        front = octets ++ used;
        behind = rest;
        all = ap (λ xs. octets ++ xs) split ∙ sym (append_assoc octets used rest);
        frames = frames_among records;
        records = subst (λ rs. HasSoFar (octets ++ used) (rs ++ Err h.0 ∷ [])) all
            (subst (λ s. HasSoFar (octets ++ used) (records ++ s ∷ [])) h.2
            (so_far kept (octets ++ used) (records ++ said ∷ []) read));
        number = ap index_of (ap length all ∙ length-map (frames_among records) Ok);
        told = h.4;
      },
    )

-- behind a header that is refused there are no records
none_behind : (octets : List ℕ) (fault : TraceRefusal) (records : List (Result (List ℕ) FrameRefusal)) → HasBadHeader octets fault
    → HasSoFar octets records → records ≡ []
none_behind octets fault records bad h =
    let long : 24 ≤ length octets = bad.long in
    elim h [
      | inl within ↦ within.1
      | inr (inl refused) ↦ refused.2
      | inr (inr fine) ↦ absurd (two fine.0 (sym fine.2.header ∙ bad.header))
    ]
  where
    two : (order : Endian) → ◌≡◌ {A = Result Endian TraceRefusal} (Ok order) (Err fault) → ⊥
    two order same = cc

-- a header that is refused ends the judging
pub refused_header : (fate : List ℕ → Fate) (strict : Bool) (octets : List ℕ) (records : List (Result (List ℕ) FrameRefusal))
    (kept : Begun) (told : CaptureTally) (judged : ℕ) (fault : TraceRefusal) → AreTold fate records told
    → judged ≡ told.frames.lines → HasBadHeader octets fault → IsReadTo kept octets records
    → Refuses strict octets judged fault
refused_header fate strict octets records kept told judged fault h is bad read =
    by_kind fault bad (bad_header_kind octets fault bad)
  where
    none : judged ≡ 0
    none =
        is ∙ judged_is fate records told h
        ∙ ap (λ (rs : List (Result (List ℕ) FrameRefusal)). up_to_most (length (frames_among rs)))
        (none_behind octets fault records bad (so_far kept octets records read))

    by_kind : (fault : TraceRefusal) → HasBadHeader octets fault → IsHeaderFault fault → Refuses strict octets judged fault
    by_kind trace.BadMagic bad kind = (bad, none)
    by_kind trace.BadVersion bad kind = (bad, none)
    by_kind trace.BadLink bad kind = (bad, none)
    by_kind (BadRecord index why) bad kind = absurd kind
    by_kind trace.OutOfMemory bad kind = absurd kind
    by_kind trace.Cut bad kind = absurd kind
    by_kind trace.ReadFault bad kind = absurd kind

-- ---- the end

pub ends_refused : (fate : List ℕ → Fate) (strict : Bool) (octets : List ℕ) (p : CaptureJudging) (fault : CaptureFault)
    → (h : HasCounted fate strict octets p) → Ends {A = Unit {0}} octets h.records (Err fault.why)
    → fault.judged ≡ p.told.frames.lines → Closes fate strict octets (Err fault)
ends_refused fate strict octets p fault h ends is = λ after read_failed end. by_why after read_failed end fault.why ends
  where
    judged : fault.judged ≡ up_to_most (length (frames_among h.records))
    judged = is ∙ judged_is fate h.records p.told h.counted

    behind : EndsBehind strict h.records fault.judged
    behind = record { told = judged; fine = h.fine }

    none : h.records ≡ [] → fault.judged ≡ 0
    none e = judged ∙ ap (λ (rs : List (Result (List ℕ) FrameRefusal)). up_to_most (length (frames_among rs))) e

    by_why : (after : Option (List ℕ)) (read_failed : Bool) → IsAtEnd after → (why : TraceRefusal)
        → Ends {A = Unit {0}} octets h.records (Err why) → IsCaptureFault strict octets after read_failed fault.judged why
    by_why after read_failed end trace.BadMagic ends = (ends.0, none ends.1)
    by_why after read_failed end trace.BadVersion ends = (ends.0, none ends.1)
    by_why after read_failed end trace.BadLink ends = (ends.0, none ends.1)
    by_why after read_failed end (BadRecord index why) ends = inl (end, (h.records, ends.0, ends.1, behind))
    by_why after read_failed end trace.OutOfMemory ends = absurd ends
    by_why after read_failed end trace.Cut ends = (end, (h.records, ends, behind))
    by_why after read_failed end trace.ReadFault ends = absurd ends

-- ---- why it ends

-- a fault that shows whatever follows
pub met_fault : (strict : Bool) (octets : List ℕ) (after : Option (List ℕ)) (read_failed : Bool) (judged : ℕ) (why : TraceRefusal)
    → Refuses strict octets judged why → IsCaptureFault strict octets after read_failed judged why
met_fault strict octets after read_failed judged trace.BadMagic h = h
met_fault strict octets after read_failed judged trace.BadVersion h = h
met_fault strict octets after read_failed judged trace.BadLink h = h
met_fault strict octets after read_failed judged (BadRecord index why) h = inr h
met_fault strict octets after read_failed judged trace.OutOfMemory h = absurd h
met_fault strict octets after read_failed judged trace.Cut h = absurd h
met_fault strict octets after read_failed judged trace.ReadFault h = absurd h

-- ---- behind each read

-- a fault in the octets that were read
pub partly : (strict : Bool) (first later : List ℕ) (a c : Option (List ℕ)) (read_failed : Bool) (fault : CaptureFault)
    → Consumes a c later → Refuses strict (first ++ later) fault.judged fault.why
    → IsCapturePartlyJudged strict first a c read_failed fault.judged fault.why
partly strict first later a c read_failed fault consumed met = record {
  later = later;
  consumed = consumed;
  cause = met_fault strict (first ++ later) c read_failed fault.judged fault.why met;
}

-- the first octets alone
pub partly_first : (strict : Bool) (first : List ℕ) (a : Option (List ℕ)) (read_failed : Bool) (fault : CaptureFault)
    → Refuses strict first fault.judged fault.why → IsCapturePartlyJudged strict first a a read_failed fault.judged fault.why
partly_first strict first a read_failed fault met =
    partly strict first [] a a read_failed fault (consumed_nothing a)
    (subst (λ octets. Refuses strict octets fault.judged fault.why) (sym (append-nil first)) met)

pub way_begins : (fate : List ℕ → Fate) (strict : Bool) (first : List ℕ) (a : Option (List ℕ)) (p : CaptureJudging) (reads : ℕ)
    → HasCounted fate strict first p → reads ≡ 0 → IsCaptureUnderWay fate strict first a a p reads
way_begins fate strict first a p reads counted none = record {
  later = [];
  consumed = consumed_nothing a;
  counted = subst (λ octets. HasCounted fate strict octets p) (sym (append-nil first)) counted;
  some = omega arith;
}

pub way_goes_on : (fate : List ℕ → Fate) (strict : Bool) (first : List ℕ) (a b c : Option (List ℕ)) (p q : CaptureJudging)
    (reads more : ℕ) (piece : List ℕ) → IsCaptureUnderWay fate strict first a b p reads → Consumes b c piece → 0 < length piece
    → more ≤ reads + 1 → ((octets : List ℕ) → HasCounted fate strict octets p → HasCounted fate strict (octets ++ piece) q)
    → IsCaptureUnderWay fate strict first a c q more
way_goes_on fate strict first a b c p q reads more piece way consumed some one counted = record {
  later = way.later ++ piece;
  consumed = consumed_more a b c way.later piece way.consumed consumed;
  counted = subst (λ octets. HasCounted fate strict octets q) (append_assoc first way.later piece)
      (counted (first ++ way.later) way.counted);
  some = let before = way.some in omega (arith, length-append way.later piece);
}

-- a piece with a fault
pub way_fails : (fate : List ℕ → Fate) (strict : Bool) (first : List ℕ) (a b c : Option (List ℕ)) (p : CaptureJudging) (reads : ℕ)
    (piece : List ℕ) (read_failed : Bool) (fault : CaptureFault) → IsCaptureUnderWay fate strict first a b p reads
    → Consumes b c piece
    → ((octets : List ℕ) → HasCounted fate strict octets p → Refuses strict (octets ++ piece) fault.judged fault.why)
    → IsCapturePartlyJudged strict first a c read_failed fault.judged fault.why
way_fails fate strict first a b c p reads piece read_failed fault way consumed met =
    partly strict first (way.later ++ piece) a c read_failed fault (consumed_more a b c way.later piece way.consumed consumed)
    (subst (λ octets. Refuses strict octets fault.judged fault.why) (append_assoc first way.later piece)
    (met (first ++ way.later) way.counted))

-- a read that failed, or an end that was not reached
pub way_stops : (fate : List ℕ → Fate) (strict : Bool) (first : List ℕ) (a b c : Option (List ℕ)) (p : CaptureJudging) (reads : ℕ)
    (read_failed : Bool) (fault : CaptureFault) → (way : IsCaptureUnderWay fate strict first a b p reads) → Consumes a c way.later
    → (read_failed ≡ true) ⊎ (18446744073709551615 ≤ reads) → fault.why ≡ trace.ReadFault → fault.judged ≡ p.told.frames.lines
    → IsCapturePartlyJudged strict first a c read_failed fault.judged fault.why
way_stops fate strict first a b c p reads read_failed fault way consumed cause why judged = record {
  later = way.later;
  consumed = consumed;
  cause = subst (IsCaptureFault strict (first ++ way.later) c read_failed fault.judged) (sym why) (
    elim cause [
      | inl failed ↦ inl failed
      | inr all ↦ inr (let some = way.some in omega (arith, all, length-append first way.later))
    ],
    (
      way.counted.records,
      so_far p.records (first ++ way.later) way.counted.records way.counted.read,
      record {
        told = judged ∙ judged_is fate way.counted.records p.told way.counted.counted;
        fine = way.counted.fine;
      },
    ),
  );
}

-- a record that is whole with octets of a piece
pub steps : (fate : List ℕ → Fate) (strict : Bool) (octets piece : List ℕ) (p q : CaptureJudging)
    (h : HasCounted fate strict octets p) (taken : Taken) (said : Result (List ℕ) FrameRefusal)
    → Takes octets h.records piece taken q.records → taken.whole ≡ Some said
    → AreTold fate (h.records ++ said ∷ []) q.told × (strict ≡ true → refusals_among (said ∷ []) ≡ [])
    → Steps fate strict octets piece taken.rest.now q
steps fate strict octets piece p q h taken said t whole told = (
  t.used,
  t.split,
  record {
    records = h.records ++ said ∷ [];
    read = subst (λ w. IsReadTo q.records (octets ++ t.used) (h.records ++ option_to_list w)) whole t.read;
    counted = told.0;
    fine = λ e. filter_map-append result_err h.records (said ∷ [])
        ∙ ap (λ whys. whys ++ refusals_among (said ∷ [])) (h.fine e) ∙ told.1 e;
  },
)

-- ---- the end of the reader

-- nothing is left
pub way_ends : (fate : List ℕ → Fate) (strict : Bool) (first : List ℕ) (a b c : Option (List ℕ)) (p : CaptureJudging) (reads : ℕ)
    (result : Result CaptureTally CaptureFault) → (way : IsCaptureUnderWay fate strict first a b p reads)
    → Consumes a c way.later → IsAtEnd c → Closes fate strict (first ++ way.later) result
    → IfOk result (IsCaptureJudged fate strict first a c)
way_ends fate strict first a b c p reads (Ok told) way consumed end closed = record {
  later = way.later;
  consumed = consumed;
  end = end;
  order = closed.0;
  records = closed.1;
  whole = closed.2;
  counted = closed.3;
  fine = closed.4;
}
way_ends fate strict first a b c p reads (Err fault) way consumed end closed = tt

pub way_ends_refused : (fate : List ℕ → Fate) (strict : Bool) (first : List ℕ) (a b c : Option (List ℕ)) (p : CaptureJudging)
    (reads : ℕ) (read_failed : Bool) (result : Result CaptureTally CaptureFault)
    → (way : IsCaptureUnderWay fate strict first a b p reads) → Consumes a c way.later → IsAtEnd c
    → Closes fate strict (first ++ way.later) result
    → IfErr result (λ fault. IsCapturePartlyJudged strict first a c read_failed fault.judged fault.why)
way_ends_refused fate strict first a b c p reads read_failed (Ok told) way consumed end closed = tt
way_ends_refused fate strict first a b c p reads read_failed (Err fault) way consumed end closed = record {
  later = way.later;
  consumed = consumed;
  cause = closed c read_failed end;
}
