-- Reading in pieces is reading at once.
use Rattle.std.proofs.Common.{◌≡◌, ℕ, ◌+◌, ◌≤◌, ◌<◌, nat_lt, true, false, cond, Bool, List, [], ◌++◌, length, take, drop, Option}
use Rattle.std.proofs.Common.{Some, None, Result, Ok, Err, sym, ap, ◌∙◌, refl, arith, length-append, append-nil}
use Rattle.std.proofs.lemmas.Bool.{ltb-true, ltb-false, le-ltb}
use Rattle.std.proofs.lemmas.Bool.Decides.{nat_tests}
use Rattle.std.proofs.lemmas.List.{take-append-le, drop-append-le}
use Rattle.std.specs.Option.{option_map_or}
use Rattle.gw_frame.specs.declared.refusal.FrameRefusal.{FrameRefusal}
use Rattle.gw_trace.specs.declared.byte_order.Endian.{Endian}
use Rattle.gw_trace.specs.declared.stage.Stage.TheVariants.{Header, Records, Failed}
use Rattle.gw_trace.specs.declared.refusal.TraceRefusal.{TraceRefusal}
use Rattle.gw_trace.specs.declared.refusal.TraceRefusal.TheVariants.{BadRecord}
use Rattle.gw_trace.specs.Traces.{Contents, contents, Reading, index_of, reading_from, reading_behind, reading, header_of}
use Rattle.gw_trace.specs.Progress.{progress, read_in, read_on, kept_after}
use Rattle.gw_trace.proofs.Contents.{after_frames, goes_on, stays_faulty}

-- a reading with frames before its own
abbrev pub with_frames : List (List ℕ) → Reading → Reading
with_frames frames r = record r { frames = frames ++ r.frames }

-- how a reading goes on with a piece
abbrev on : Reading → List ℕ → Reading
on r piece = with_frames r.frames (read_in r.stage r.rest (index_of (length r.frames)) piece)

-- a header that is whole shows as soon
pub reading_header : (octets : List ℕ) → length octets < 24
    → reading octets ≡ record { frames = []; rest = octets; stage = Header }
unfolding reading
reading_header octets h = at_test (nat_lt (length octets) 24) (grind (arith, nat_tests))
  where
    at_test : (b : Bool) → b ≡ true
        → cond b (record { frames = []; rest = octets; stage = Header })
        (reading_behind (header_of (take 24 octets)) (drop 24 octets)) ≡ record { frames = []; rest = octets; stage = Header }
    at_test b e = rw e refl

-- what stands behind a whole header
pub reading_records : (octets : List ℕ) → 24 ≤ length octets
    → reading octets ≡ reading_behind (header_of (take 24 octets)) (drop 24 octets)
unfolding reading
reading_records octets h = rw (le-ltb (length octets) 24 h) refl

-- the same index, whichever way it is counted
index_again : (a b : ℕ) → index_of (a + b) ≡ index_of (index_of a + b)
index_again a b = grind (arith, nat_tests)

-- contents without a fault, resumed
sound_on : (order : Endian) (xs ys : List ℕ) → (contents order xs).fault ≡ None
    → reading_from order 0 (contents order (xs ++ ys)) ≡ on (reading_from order 0 (contents order xs)) ys
sound_on order xs ys sound =
    ap (reading_from order 0) (goes_on order xs ys sound)
    ∙ counted order (contents order xs).frames (contents order ((contents order xs).rest ++ ys))
    ∙ sym (ap (λ c. on (reading_from order 0 c) ys) (as_sound (contents order xs) sound))
  where
    zero_and : (n : ℕ) → 0 + n ≡ n
    zero_and n = omega arith

    as_sound : (c : Contents) → c.fault ≡ None → c ≡ record { frames = c.frames; rest = c.rest; fault = None }
    as_sound c sound = λ i. record { frames = c.frames; rest = c.rest; fault = sound i }

    same_index : (frames others : List (List ℕ))
        → index_of (0 + length (frames ++ others)) ≡ index_of (index_of (length frames) + length others)
    same_index frames others = ap index_of (zero_and (length (frames ++ others)) ∙ length-append frames others)
        ∙ index_again (length frames) (length others)

    counted : (order : Endian) (frames : List (List ℕ)) (d : Contents)
        → reading_from order 0 (after_frames frames d) ≡ with_frames frames (reading_from order (index_of (length frames)) d)
    counted order frames d = ap (λ n.
        record {
          frames = frames ++ d.frames;
          rest = option_map_or (λ why. []) d.fault d.rest;
          stage = option_map_or (λ why. Failed (BadRecord n why)) d.fault (Records order);
        }) (same_index frames d.frames)

-- contents with a fault, resumed
faulty_on : (order : Endian) (xs ys : List ℕ) (why : FrameRefusal) → (contents order xs).fault ≡ Some why
    → reading_from order 0 (contents order (xs ++ ys)) ≡ on (reading_from order 0 (contents order xs)) ys
faulty_on order xs ys why faulty =
    at_fault (contents order xs) (contents order (xs ++ ys)) faulty (stays_faulty order xs ys why faulty).0
    (stays_faulty order xs ys why faulty).1
  where
    at_fault : (c d : Contents) → c.fault ≡ Some why → d.frames ≡ c.frames → d.fault ≡ Some why
        → reading_from order 0 d ≡ on (reading_from order 0 c) ys
    at_fault c d faulty same stays =
        let there : Contents = record { frames = c.frames; rest = c.rest; fault = Some why } in
        let later : d ≡ record { frames = c.frames; rest = d.rest; fault = Some why } =
        λ i. record { frames = same i; rest = d.rest; fault = stays i } in
        let now : c ≡ there = λ i. record { frames = c.frames; rest = c.rest; fault = faulty i } in
        ap (reading_from order 0) later
        ∙ ap (λ frames. record { frames = frames; rest = []; stage = Failed (BadRecord (index_of (0 + length c.frames)) why) })
        (sym (append-nil c.frames))
        ∙ sym (ap (λ a. on (reading_from order 0 a) ys) now)

behind_on : (header : Result Endian TraceRefusal) (xs ys : List ℕ)
    → reading_behind header (xs ++ ys) ≡ on (reading_behind header xs) ys
behind_on (Err fault) xs ys = refl
behind_on (Ok order) xs ys = by_fault (contents order xs).fault refl
  where
    by_fault : (fault : Option FrameRefusal) → (contents order xs).fault ≡ fault
        → reading_from order 0 (contents order (xs ++ ys)) ≡ on (reading_from order 0 (contents order xs)) ys
    by_fault None e = sound_on order xs ys e
    by_fault (Some why) e = faulty_on order xs ys why e

-- by whether a number is below another
pub by_test : (P : Type 0) (a b : ℕ) → (a < b → P) → (b ≤ a → P) → P
by_test P a b less more = at_test (nat_lt a b) refl
  where
    at_test : (t : Bool) → nat_lt a b ≡ t → P
    at_test true e = less (ltb-true a b e)
    at_test false e = more (ltb-false a b e)

-- what octets and a piece say is what the octets say, and what the piece says behind what is kept of them
pub resumed : (octets piece : List ℕ)
    → reading (octets ++ piece) ≡ with_frames (reading octets).frames (read_on (progress octets) piece)
resumed octets piece =
    by_test (reading (octets ++ piece) ≡ on (reading octets) piece) (length octets) 24
    (λ short. sym (ap (λ r. on r piece) (reading_header octets short)))
    (λ long. whole_header long)
  where
    whole_header : 24 ≤ length octets → reading (octets ++ piece) ≡ on (reading octets) piece
    whole_header long =
        let longer : 24 ≤ length (octets ++ piece) = rw (length-append octets piece) (omega arith) in
        reading_records (octets ++ piece) longer
        ∙ ap (λ header. reading_behind (header_of header) (drop 24 (octets ++ piece))) (take-append-le 24 octets piece long)
        ∙ ap (reading_behind (header_of (take 24 octets))) (drop-append-le 24 octets piece long)
        ∙ behind_on (header_of (take 24 octets)) (drop 24 octets) piece
        ∙ sym (ap (λ r. on r piece) (reading_records octets long))

-- what is kept after a piece is what is kept of all octets so far
pub progress_on : (octets piece : List ℕ)
    → progress (octets ++ piece) ≡ kept_after (progress octets).given (read_on (progress octets) piece)
progress_on octets piece =
    ap (λ r. record { stage = r.stage; rest = r.rest; given = index_of (length r.frames) }) (resumed octets piece)
    ∙ counted (reading octets).frames (read_on (progress octets) piece)
  where
    counted : (frames : List (List ℕ)) (r : Reading)
        → record { stage = r.stage; rest = r.rest; given = index_of (length (frames ++ r.frames)) }
        ≡ kept_after (index_of (length frames)) r
    counted frames r = ap (λ n. record { stage = r.stage; rest = r.rest; given = n })
        (ap index_of (length-append frames r.frames) ∙ index_again (length frames) (length r.frames))

-- nothing was read
pub progress_nothing : progress [] ≡ record { stage = Header; rest = []; given = 0 }
unfolding reading
progress_nothing = refl

-- no octets give no frames
pub nothing_read : (reading []).frames ≡ []
unfolding reading
nothing_read = refl
