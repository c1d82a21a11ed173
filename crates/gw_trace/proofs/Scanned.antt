-- Octets that are whole records, and a scan over them.
use Rattle.std.proofs.Common.{◌≡◌, ℕ, ◌+◌, ◌-◌, ◌*◌, ◌≤◌, ◌<◌, List, [], ◌∷◌, ◌++◌, length, take, drop, Option, Some, None, sym}
use Rattle.std.proofs.Common.{ap, ◌∙◌, subst, refl, arith, length-drop, append-nil, take-add}
use Rattle.std.proofs.lemmas.List.{take-append-drop, take_all, length-take-le, length_push, drop-take}
use Rattle.std.proofs.Math.ListN.{drop_of_length-le}
use Rattle.std.specs.Prelude.{Result, Ok, Err, is_ok, true, IfOk}
use Rattle.std.specs.Result.{result_err}
use Rattle.std.proofs.lemmas.Result.{IfOk-at_ok}
use Rattle.gw_frame.specs.declared.refusal.FrameRefusal.{FrameRefusal}
use Rattle.gw_frame.specs.Record.{refusal_of, IsRecord}
use Rattle.gw_trace.specs.declared.byte_order.Endian.{Endian}
use Rattle.gw_trace.specs.declared.record.Beginning.TheVariants.{Bad, Whole}
use Rattle.gw_trace.specs.Traces.{captured_length, captured, beginning, stopped, behind, contents}
use Rattle.gw_trace.specs.declared.scan.Front.{Front}
use Rattle.gw_trace.specs.Scans.{IsFront}
use Rattle.gw_trace.specs.Wholes.{AreRecords}
use Rattle.gw_trace.proofs.Beginnings.{whole_of, whole_on, bad_on, nothing_is_unfinished, unfinished_is_shorter}
use Rattle.gw_trace.proofs.Contents.{over_records, by_beginning, contents_unfinished, contents_bad, contents_whole, after_frames}
use Rattle.gw_trace.proofs.Contents.{captured_on, goes_on}

-- a slice from an offset on
pub rest_from : (at : ℕ) (xs : List ℕ) → take (length xs - at) (drop at xs) ≡ drop at xs
rest_from at xs = take_all (length xs - at) (drop at xs) (rw (length-drop at xs) (omega arith))

-- no octets
pub no_contents : (order : Endian) → contents order [] ≡ stopped [] None
no_contents order = contents_unfinished order [] (nothing_is_unfinished order [] (omega arith))

-- they are whole records, none
pub no_records : (order : Endian) → AreRecords order []
no_records order = record { sound = ap (λ c. c.fault) (no_contents order); whole = ap (λ c. c.rest) (no_contents order) }

-- they have no frames
pub no_frames : (order : Endian) → (contents order []).frames ≡ []
no_frames order = ap (λ c. c.frames) (no_contents order)

-- each frame stands in at least 24 octets
pub frames_fit : (order : Endian) (xs : List ℕ) → 24 * length (contents order xs).frames ≤ length xs
frames_fit order = over_records (λ xs. 24 * length (contents order xs).frames ≤ length xs) order
    (λ xs e. rw (contents_unfinished order xs e) (omega arith))
    (λ xs why e. rw (contents_bad order xs why e) (omega arith))
    (λ xs n e fit.
    let w = whole_of order xs n e in
    let low : 8 ≤ n = w.low in
    let all : 16 + n ≤ length xs = w.all in
    let rest : length (drop (16 + n) xs) ≡ length xs - (16 + n) = length-drop (16 + n) xs in
    rw (contents_whole order xs n e) (omega arith))

-- the first of whole records is whole, and so are the others
pub record FirstOf (order : Endian) (xs : List ℕ) : Type 0 where
  pub is : beginning order xs ≡ Whole (captured_length order xs)
  pub frames : (contents order xs).frames
      ≡ captured (captured_length order xs) xs ∷ (contents order (drop (16 + captured_length order xs) xs)).frames
  pub others : AreRecords order (drop (16 + captured_length order xs) xs)

-- some octets that are whole records begin with one
pub first_of_records : (order : Endian) (xs : List ℕ) → AreRecords order xs → 0 < length xs → FirstOf order xs
first_of_records order xs are some =
    by_beginning (FirstOf order xs) (beginning order xs)
    (λ e. absurd (not_empty xs some (sym (ap (λ c. c.rest) (contents_unfinished order xs e)) ∙ are.whole)))
    (λ why e. absurd (faulty why (sym (ap (λ c. c.fault) (contents_bad order xs why e)) ∙ are.sound)))
    (λ n e.
    let count : n ≡ captured_length order xs = (whole_of order xs n e).count_is in
    subst (λ m. beginning order xs ≡ Whole m → FirstOf order xs) (sym count) (λ f. at_length f) e)
  where
    not_empty : (xs : List ℕ) → 0 < length xs → xs ≡ [] → ⊥
    not_empty xs some h = omega (arith, ap length h)

    faulty : (why : FrameRefusal) → Some why ≡ None → ⊥
    faulty why h = cc

    at_length : beginning order xs ≡ Whole (captured_length order xs) → FirstOf order xs
    at_length e =
        let c : contents order xs ≡ behind (captured (captured_length order xs) xs)
        (contents order (drop (16 + captured_length order xs) xs)) = contents_whole order xs (captured_length order xs) e in
        record {
          is = e;
          frames = ap (λ a. a.frames) c;
          others = record { sound = sym (ap (λ a. a.fault) c) ∙ are.sound; whole = sym (ap (λ a. a.rest) c) ∙ are.whole };
        }

-- what octets hold whose front is whole records
pub walked : (order : Endian) (xs : List ℕ) (at : ℕ) → AreRecords order (take at xs)
    → contents order xs ≡ after_frames (contents order (take at xs)).frames (contents order (drop at xs))
walked order xs at are =
    ap (contents order) (sym (take-append-drop at xs)) ∙ goes_on order (take at xs) (drop at xs) are.sound
    ∙ ap (λ rest. after_frames (contents order (take at xs)).frames (contents order (rest ++ drop at xs))) are.whole

-- a whole record is whole without what follows
pub whole_in_front : (order : Endian) (ys : List ℕ) (n : ℕ) → beginning order ys ≡ Whole n
    → beginning order (take (16 + n) ys) ≡ Whole n
whole_in_front order ys n e =
    let all : 16 + n ≤ length ys = (whole_of order ys n e).all in
    let len : length (take (16 + n) ys) ≡ 16 + n = length-take-le (16 + n) ys all in
    let parts : beginning order (take (16 + n) ys ++ drop (16 + n) ys) ≡ Whole n =
    ap (beginning order) (take-append-drop (16 + n) ys) ∙ e in
    by_beginning (beginning order (take (16 + n) ys) ≡ Whole n) (beginning order (take (16 + n) ys))
    (λ u. absurd (omega (arith, unfinished_is_shorter order (take (16 + n) ys) (drop (16 + n) ys) n u parts)))
    (λ why b. absurd (bad_is_whole why n (sym (bad_on order (take (16 + n) ys) (drop (16 + n) ys) why b) ∙ parts)))
    (λ m w. w ∙ sym (whole_on order (take (16 + n) ys) (drop (16 + n) ys) m w) ∙ parts)
  where
    bad_is_whole : (why : FrameRefusal) (n : ℕ) → Bad why ≡ Whole n → ⊥
    bad_is_whole why n h = cc

-- one record more
pub record OneMore (order : Endian) (xs : List ℕ) (at n : ℕ) : Type 0 where
  pub are : AreRecords order (take (at + (16 + n)) xs)
  pub frames : (contents order (take (at + (16 + n)) xs)).frames
      ≡ (contents order (take at xs)).frames ++ captured n (drop at xs) ∷ []
  pub within : at + (16 + n) ≤ length xs

-- the records in front, and one more behind them
pub one_more : (order : Endian) (xs : List ℕ) (at n : ℕ) → at ≤ length xs → AreRecords order (take at xs)
    → beginning order (drop at xs) ≡ Whole n → OneMore order xs at n
one_more order xs at n inside are e =
    let all : 16 + n ≤ length (drop at xs) = (whole_of order (drop at xs) n e).all in
    let left : length (drop at xs) ≡ length xs - at = length-drop at xs in
    let c : contents order (take (at + (16 + n)) xs) ≡ after_frames (contents order (take at xs)).frames
    (contents order (take (16 + n) (drop at xs))) =
    ap (contents order) (take-add at (16 + n) xs) ∙ goes_on order (take at xs) (take (16 + n) (drop at xs)) are.sound
    ∙ ap (λ rest. after_frames (contents order (take at xs)).frames (contents order (rest ++ take (16 + n) (drop at xs))))
    are.whole in
    let d : contents order (take (16 + n) (drop at xs))
    ≡ record { frames = captured n (drop at xs) ∷ []; rest = []; fault = None } = alone order (drop at xs) n e in
    let both : contents order (take (at + (16 + n)) xs)
    ≡ record { frames = (contents order (take at xs)).frames ++ captured n (drop at xs) ∷ []; rest = []; fault = None } =
    c ∙ ap (after_frames (contents order (take at xs)).frames) d in
    record {
      are = record { sound = ap (λ a. a.fault) both; whole = ap (λ a. a.rest) both };
      frames = ap (λ a. a.frames) both;
      within = omega arith;
    }
  where
    -- a whole record, and nothing behind it
    alone : (order : Endian) (ys : List ℕ) (n : ℕ) → beginning order ys ≡ Whole n
        → contents order (take (16 + n) ys) ≡ record { frames = captured n ys ∷ []; rest = []; fault = None }
    alone order ys n e =
        let all : 16 + n ≤ length ys = (whole_of order ys n e).all in
        let len : length (take (16 + n) ys) ≡ 16 + n = length-take-le (16 + n) ys all in
        let e' : beginning order (take (16 + n) ys) ≡ Whole n = whole_in_front order ys n e in
        let same : captured n ys ≡ captured n (take (16 + n) ys) =
        ap (captured n) (sym (take-append-drop (16 + n) ys)) ∙ captured_on order (take (16 + n) ys) (drop (16 + n) ys) n e' in
        let nothing : drop (16 + n) (take (16 + n) ys) ≡ [] = drop_of_length-le (take (16 + n) ys) (omega arith) in
        contents_whole order (take (16 + n) ys) n e'
        ∙ ap (λ rest. behind (captured n (take (16 + n) ys)) (contents order rest)) nothing
        ∙ ap (behind (captured n (take (16 + n) ys))) (no_contents order)
        ∙ ap (λ frame. record { frames = frame ∷ []; rest = []; fault = None }) (sym same)

-- a front with one record more
pub front_with : (order : Endian) (xs : List ℕ) (front : Front) (n : ℕ) → IsFront order xs front
    → beginning order (drop front.end xs) ≡ Whole n
    → IsFront order xs (record { end = front.end + 16 + n; count = front.count + 1 })
front_with order xs front n is e =
    let m = one_more order xs front.end n is.within is.whole e in
    subst (λ end. IsFront order xs (record { end = end; count = front.count + 1 })) (further front.end n) (record {
      within = m.within;
      whole = m.are;
      counted = ap (λ k. k + 1) is.counted
          ∙ sym (ap length m.frames ∙ length_push (contents order (take front.end xs)).frames (captured n (drop front.end xs)));
    })
  where
    further : (at n : ℕ) → at + (16 + n) ≡ at + 16 + n
    further at n = omega arith

-- there are fewer records than octets
pub few_in_front : (order : Endian) (xs : List ℕ) (front : Front) → IsFront order xs front → 24 * front.count ≤ length xs
few_in_front order xs front is =
    let fit = frames_fit order (take front.end xs) in
    let len = length-take-le front.end xs is.within in
    omega (arith, is.counted, is.within, fit, len)

-- where a scan ends
pub scan_ends : (order : Endian) (xs : List ℕ) (at : ℕ) (fault : Option FrameRefusal) → AreRecords order (take at xs)
    → contents order (drop at xs) ≡ stopped (drop at xs) fault
    → record { frames = (contents order (take at xs)).frames; rest = drop at xs; fault = fault } ≡ contents order xs
scan_ends order xs at fault are e =
    sym (walked order xs at are ∙ ap (after_frames (contents order (take at xs)).frames) e
    ∙ ap (λ frames. record { frames = frames; rest = drop at xs; fault = fault })
    (append-nil (contents order (take at xs)).frames))

-- octets that are none hold no frames
pub empty_frames : (order : Endian) (xs : List ℕ) → length xs ≡ 0 → (contents order xs).frames ≡ []
empty_frames order xs h = ap (λ ys. (contents order ys).frames) (nil xs h) ∙ no_frames order
  where
    nil : (xs : List ℕ) → length xs ≡ 0 → xs ≡ []
    nil [] h = refl
    nil (x ∷ xs) h = absurd (omega (arith, h))

-- the first record, as it is cut out of octets
pub first_octets : (n : ℕ) (xs front : List ℕ) → front ≡ take (16 + n) xs
    → take (length front - 16) (drop 16 front) ≡ captured n xs
first_octets n xs front e = rest_from 16 front ∙ ap (drop 16) e ∙ drop-take 16 n xs

-- the first record is a frame, and the frames are this one and those of the others
pub first_is_frame : (order : Endian) (xs : List ℕ) (n : ℕ) → AreRecords order xs → 0 < length xs → n ≡ captured_length order xs
    → refusal_of (captured n xs) ≡ None
first_is_frame order xs n are some is =
    ap (λ m. refusal_of (captured m xs)) is
    ∙ (whole_of order xs (captured_length order xs) (first_of_records order xs are some).is).frame

-- the frame of the first record before those of the others
pub first_frames : (order : Endian) (xs rest frame : List ℕ) (n : ℕ) → AreRecords order xs → 0 < length xs
    → n ≡ captured_length order xs → rest ≡ drop (16 + n) xs → frame ≡ captured n xs
    → (contents order xs).frames ≡ frame ∷ (contents order rest).frames
first_frames order xs rest frame n are some is behind whole =
    (first_of_records order xs are some).frames
    ∙ ap (λ m. captured m xs ∷ (contents order (drop (16 + m) xs)).frames) (sym is)
    ∙ ap (λ f. f ∷ (contents order (drop (16 + n) xs)).frames) (sym whole)
    ∙ ap (λ ys. frame ∷ (contents order ys).frames) (sym behind)

-- the others are whole records too
pub first_others : (order : Endian) (xs rest : List ℕ) (n : ℕ) → AreRecords order xs → 0 < length xs
    → n ≡ captured_length order xs → rest ≡ drop (16 + n) xs → AreRecords order rest
first_others order xs rest n are some is behind =
    subst (AreRecords order) (sym (behind ∙ ap (λ m. drop (16 + m) xs) is)) (first_of_records order xs are some).others

-- a read that is not refused
pub read_ok : (r : Result (List ℕ) FrameRefusal) → result_err r ≡ None → is_ok r ≡ true
read_ok (Ok frame) h = refl
read_ok (Err why) h = absurd (some_is_none why h)
  where
    some_is_none : (why : FrameRefusal) → Some why ≡ None → ⊥
    some_is_none why h = cc

-- a read that succeeds gives the octets
pub read_gives : (r : Result (List ℕ) FrameRefusal) (octets frame : List ℕ) → IfOk r (λ f. IsRecord octets × (f ≡ octets))
    → r ≡ Ok frame → frame ≡ octets
read_gives r octets frame h e = (IfOk-at_ok (λ f. IsRecord octets × (f ≡ octets)) e h).1
