-- What a piece adds, and what a trace says of it.
use Rattle.std.proofs.Common.{◌≡◌, ℕ, suc, ◌+◌, ◌-◌, ◌^◌, ◌≤◌, ◌<◌, List, [], ◌∷◌, ◌++◌, length, take, drop, Option, Some, None}
use Rattle.std.proofs.Common.{Result, sym, ap, ◌∙◌, subst, refl, arith, append-nil}
use Rattle.std.proofs.lemmas.Bool.Decides.{nat_tests}
use Rattle.std.proofs.lemmas.List.{take-append-drop}
use Rattle.std.proofs.Math.Nat.{min-eq_left}
use Rattle.std.specs.Option.{option_map_or, option_to_list}
use Rattle.gw_frame.specs.declared.refusal.FrameRefusal.{FrameRefusal}
use Rattle.gw_trace.specs.declared.decoded_piece.DecodedPiece.{DecodedPiece}
use Rattle.gw_trace.specs.declared.byte_order.Endian.{Endian}
use Rattle.gw_trace.specs.declared.record.Beginning.TheVariants.{Unfinished, Bad, Whole}
use Rattle.gw_trace.specs.declared.stage.Stage.{Stage}
use Rattle.gw_trace.specs.declared.stage.Stage.TheVariants.{Header, Records, Failed}
use Rattle.gw_trace.specs.declared.refusal.TraceRefusal.{TraceRefusal}
use Rattle.gw_trace.specs.declared.refusal.TraceRefusal.TheVariants.{BadRecord}
use Rattle.gw_trace.specs.Traces.{beginning, captured, Contents, contents, stopped, behind, Reading, index_of, reading_from}
use Rattle.gw_trace.specs.Traces.{reading_behind, reading, header_of}
use Rattle.gw_trace.specs.Progress.{Progress, progress, read_on, kept_after, fault_in, in_records, at_fault, HasRead, Gives}
use Rattle.gw_trace.specs.Progress.{IsRefused}
use Rattle.gw_trace.specs.DecodedPieces.{frames_in, IsDecoded, refusal_in}
use Rattle.gw_trace.proofs.Beginnings.{whole_on, bad_on, unfinished_is_short, unfinished_is_shorter}
use Rattle.gw_trace.proofs.Contents.{contents_unfinished, contents_bad, contents_whole, captured_on}
use Rattle.gw_trace.proofs.Joining.{drop_behind, short_front}
use Rattle.gw_trace.proofs.Resuming.{reading_header, reading_records, resumed, progress_on}

-- a decoded piece by its parts
pub decoded : (a : DecodedPiece) (given : ℕ) (r : Reading) (first : Option (List ℕ)) (others : List (List ℕ)) → a.first ≡ first
    → a.others ≡ others → option_to_list first ++ others ≡ r.frames → a.next ≡ kept_after given r → IsDecoded a given r
decoded a given r first others one more frames next =
    record {
      frames = ap (λ f. option_to_list f ++ a.others) one ∙ ap (λ o. option_to_list first ++ o) more
          ∙ frames;
      next = next;
    }

-- a number that fits is its own index
index_same : (n : ℕ) → n < 2 ^ 64 → n ≡ index_of (n + 0)
index_same n h = sym (ap index_of (and_zero n) ∙ min-eq_left (within n h))
  where
    and_zero : (n : ℕ) → n + 0 ≡ n
    and_zero n = omega arith

    within : (n : ℕ) → n < 2 ^ 64 → n ≤ 18446744073709551615
    within n h = omega arith

-- a header that is not whole yet
pub header_short : (xs front : List ℕ) → front ≡ take 24 xs → length front < 24
    → reading xs ≡ record { frames = []; rest = front; stage = Header }
header_short xs front e h =
    reading_header xs (short_front 24 xs front e h).1
    ∙ ap (λ rest. record { frames = []; rest = rest; stage = Header }) (sym (short_front 24 xs front e h).0)

-- a header that is whole
pub header_whole : (xs front : List ℕ) (header : Result Endian TraceRefusal) → front ≡ take 24 xs → 24 ≤ length xs
    → header ≡ header_of front → reading xs ≡ reading_behind header (drop 24 xs)
header_whole xs front header e long h =
    reading_records xs long ∙ ap (λ r. reading_behind r (drop 24 xs)) (sym (h ∙ ap header_of e))

-- the first record is not whole yet
pub record_short : (order : Endian) (given : ℕ) (xs front : List ℕ) → given < 2 ^ 64 → front ≡ take 32 xs
    → Unfinished ≡ beginning order front
    → (reading_from order given (contents order xs) ≡ record { frames = []; rest = front; stage = Records order })
    × (in_records order front given ≡ kept_after given (reading_from order given (contents order xs)))
record_short order given xs front fits e b =
    let s = short_front 32 xs front e (unfinished_is_short order front (sym b)) in
    let c : contents order xs ≡ stopped front None = ap (contents order) (sym s.0) ∙ contents_unfinished order front (sym b) in
    let r : reading_from order given (contents order xs) ≡ record { frames = []; rest = front; stage = Records order } =
    ap (reading_from order given) c in
    (r, ap (in_records order front) (index_same given fits) ∙ sym (ap (kept_after given) r))

-- the first record is no frame
pub record_bad : (order : Endian) (given : ℕ) (xs front : List ℕ) (why : FrameRefusal) → given < 2 ^ 64 → front ≡ take 32 xs
    → Bad why ≡ beginning order front
    → ((reading_from order given (contents order xs)).frames ≡ [])
    × (at_fault (BadRecord given why) given ≡ kept_after given (reading_from order given (contents order xs)))
record_bad order given xs front why fits e b =
    let there : beginning order xs ≡ Bad why =
    ap (beginning order) (sym (take-append-drop 32 xs))
    ∙ bad_on order (take 32 xs) (drop 32 xs) why (sym (b ∙ ap (beginning order) e)) in
    let c : contents order xs ≡ stopped xs (Some why) = contents_bad order xs why there in (
      ap (λ d. (reading_from order given d).frames) c,
      ap (λ n. at_fault (BadRecord n why) n) (index_same given fits)
          ∙ sym (ap (λ d. kept_after given (reading_from order given d)) c),
    )

-- the first record is whole
pub record FirstWhole (order : Endian) (partial piece : List ℕ) (count : ℕ) (front : List ℕ) : Type 0 where
  pub contents_are : contents order (partial ++ piece)
      ≡ behind (captured count front) (contents order (drop (16 + count - length partial) piece))
  pub longer : length partial < 16 + count

-- the record that was begun becomes whole within its first 32 octets
pub record_whole : (order : Endian) (partial piece front : List ℕ) (count : ℕ) → front ≡ take 32 (partial ++ piece)
    → beginning order partial ≡ Unfinished → Whole count ≡ beginning order front → FirstWhole order partial piece count front
record_whole order partial piece front count e unfinished b =
    let parts : take 32 (partial ++ piece) ++ drop 32 (partial ++ piece) ≡ partial ++ piece =
    take-append-drop 32 (partial ++ piece) in
    let whole : beginning order (take 32 (partial ++ piece)) ≡ Whole count = sym (b ∙ ap (beginning order) e) in
    let there : beginning order (partial ++ piece) ≡ Whole count =
    ap (beginning order) (sym parts) ∙ whole_on order (take 32 (partial ++ piece)) (drop 32 (partial ++ piece)) count whole in
    let same : captured count (partial ++ piece) ≡ captured count front =
    ap (captured count) (sym parts) ∙ captured_on order (take 32 (partial ++ piece)) (drop 32 (partial ++ piece)) count whole
    ∙ ap (captured count) (sym e) in
    let longer : length partial < 16 + count = unfinished_is_shorter order partial piece count unfinished there in
    record {
      contents_are = contents_whole order (partial ++ piece) count there
          ∙ ap (λ frame. behind frame (contents order (drop (16 + count) (partial ++ piece)))) same
          ∙ ap (λ rest. behind (captured count front) (contents order rest))
          (drop_behind (16 + count) partial piece (at_most (length partial) (16 + count) longer));
      longer = longer;
    }
  where
    at_most : (m n : ℕ) → m < n → m ≤ n
    at_most m n h = omega arith

-- what is kept behind one frame and others is what is kept behind the others, counted one further
pub kept_behind : (order : Endian) (given next : ℕ) (frame : List ℕ) (d : Contents) → next ≡ index_of (given + 1)
    → kept_after next (reading_from order next d) ≡ kept_after given (reading_from order given (behind frame d))
kept_behind order given next frame d e =
    ap (λ i. record {
      stage = option_map_or (λ why. Failed (BadRecord i why)) d.fault (Records order);
      rest = option_map_or (λ why. []) d.fault d.rest;
      given = i;
    })
    (further given next (length d.frames) e)
  where
    further : (given next n : ℕ) → next ≡ index_of (given + 1) → index_of (next + n) ≡ index_of (given + suc n)
    further given next n e = grind (arith, nat_tests)

-- what a piece adds is what the trace says
pub record Fed (a : DecodedPiece) (octets piece : List ℕ) : Type 0 where
  pub so_far : (reading (octets ++ piece)).frames ≡ (reading octets).frames ++ frames_in a
  pub stage : a.next.stage ≡ (reading (octets ++ piece)).stage
  pub read : HasRead a.next (octets ++ piece)

-- a trace that has read octets, and what it adds of a piece
pub fed : (trace : Progress) (a : DecodedPiece) (octets piece : List ℕ) → IsDecoded a trace.given (read_on trace piece)
    → HasRead trace octets → Fed a octets piece
fed trace a octets piece is h = at (subst (λ t. IsDecoded a t.given (read_on t piece)) h is)
  where
    at : IsDecoded a (progress octets).given (read_on (progress octets) piece) → Fed a octets piece
    at is = record {
      so_far = ap (λ r. r.frames) (resumed octets piece) ∙ ap (λ fs. (reading octets).frames ++ fs) (sym is.frames);
      stage = ap (λ p. p.stage) is.next ∙ sym (ap (λ r. r.stage) (resumed octets piece));
      read = is.next ∙ sym (progress_on octets piece);
    }

-- a fault with no frame before it
pub refusal_some : (frames : List (List ℕ)) (stage : Stage) (fault : TraceRefusal) → refusal_in frames stage ≡ Some fault
    → (frames ≡ []) × (stage ≡ Failed fault)
refusal_some [] Header fault h = absurd (none_is_some fault h)
  where
    none_is_some : (fault : TraceRefusal) → None ≡ Some fault → ⊥
    none_is_some fault h = cc
refusal_some [] (Records order) fault h = absurd (none_is_some fault h)
  where
    none_is_some : (fault : TraceRefusal) → None ≡ Some fault → ⊥
    none_is_some fault h = cc
refusal_some [] (Failed met) fault h = (refl, same met fault h)
  where
    same : (met fault : TraceRefusal) → Some met ≡ Some fault → Failed met ≡ Failed fault
    same met fault h = cc
refusal_some (frame ∷ frames) stage fault h = absurd (none_is_some fault h)
  where
    none_is_some : (fault : TraceRefusal) → None ≡ Some fault → ⊥
    none_is_some fault h = cc

-- no fault shows before a frame
pub refusal_none : (frames : List (List ℕ)) (stage : Stage) → refusal_in frames stage ≡ None → frames ≡ [] → fault_in stage ≡ None
refusal_none frames stage h e = sym (ap (λ fs. refusal_in fs stage) e) ∙ h

-- an answer of feed that refuses, and one that gives frames
pub refuses : (a : DecodedPiece) (octets piece : List ℕ) (fault : TraceRefusal) → Fed a octets piece
    → refusal_in (frames_in a) a.next.stage ≡ Some fault → IsRefused octets piece fault
refuses a octets piece fault f h =
    let r = refusal_some (frames_in a) a.next.stage fault h in
    record {
      nothing = f.so_far ∙ ap (λ fs. (reading octets).frames ++ fs) r.0 ∙ append-nil (reading octets).frames;
      fault_shows = sym f.stage ∙ r.1;
    }

-- frames that are given
pub gives : (a : DecodedPiece) (octets piece : List ℕ) (frames : List (List ℕ)) → Fed a octets piece
    → refusal_in (frames_in a) a.next.stage ≡ None → frames ≡ frames_in a → Gives octets piece frames
gives a octets piece frames f h e = record {
  so_far = f.so_far ∙ ap (λ fs. (reading octets).frames ++ fs) (sym e);
  sound = λ none. ap fault_in (sym f.stage) ∙ refusal_none (frames_in a) a.next.stage h (sym e ∙ none);
}
