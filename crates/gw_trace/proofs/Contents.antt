-- What is read of octets behind a header, record by record, and when more octets follow.
use Rattle.std.proofs.Common.{◌≡◌, ℕ, zero, suc, ◌+◌, ◌≤◌, List, ◌∷◌, ◌++◌, length, drop, Some, None, sym, ap, ◌∙◌, refl, arith}
use Rattle.std.proofs.Common.{length-drop}
use Rattle.std.proofs.lemmas.List.{take-append-le, drop-append-le}
use Rattle.gw_frame.specs.declared.refusal.FrameRefusal.{FrameRefusal}
use Rattle.gw_trace.specs.declared.byte_order.Endian.{Endian}
use Rattle.gw_trace.specs.declared.record.Beginning.{Beginning}
use Rattle.gw_trace.specs.declared.record.Beginning.TheVariants.{Unfinished, Bad, Whole}
use Rattle.gw_trace.specs.Traces.{captured, beginning, Contents, stopped, behind, contents_from, records, contents}
use Rattle.gw_trace.proofs.Beginnings.{whole_of, whole_on, bad_on, nothing_is_unfinished}

-- the three ways in which octets begin
pub by_beginning : (P : Type 0) (b : Beginning) → (b ≡ Unfinished → P) → ((why : FrameRefusal) → b ≡ Bad why → P)
    → ((n : ℕ) → b ≡ Whole n → P) → P
by_beginning P Unfinished unfinished bad whole = unfinished refl
by_beginning P (Bad why) unfinished bad whole = bad why refl
by_beginning P (Whole n) unfinished bad whole = whole n refl

-- what is left behind a whole record is shorter
shorter : (order : Endian) (xs : List ℕ) (n most : ℕ) → beginning order xs ≡ Whole n → length xs ≤ suc most
    → length (drop (16 + n) xs) ≤ most
shorter order xs n most e h =
    let w = whole_of order xs n e in
    let all : 16 + n ≤ length xs = w.all in
    rw (length-drop (16 + n) xs) (omega arith)

-- an induction over the records of octets
pub over_records : (P : List ℕ → Type 0) (order : Endian)
    → ((xs : List ℕ) → beginning order xs ≡ Unfinished → P xs)
    → ((xs : List ℕ) (why : FrameRefusal) → beginning order xs ≡ Bad why → P xs)
    → ((xs : List ℕ) (n : ℕ) → beginning order xs ≡ Whole n → P (drop (16 + n) xs) → P xs)
    → (xs : List ℕ) → P xs
over_records P order unfinished bad whole xs = over (length xs) xs (omega arith)
  where
    over : (most : ℕ) (xs : List ℕ) → length xs ≤ most → P xs
    over zero xs h = unfinished xs (nothing_is_unfinished order xs (omega arith))
    over (suc most) xs h = by_beginning (P xs) (beginning order xs) (λ e. unfinished xs e) (λ why e. bad xs why e)
        (λ n e. whole xs n e (over most (drop (16 + n) xs) (shorter order xs n most e h)))

-- a bound on the records that is great enough changes nothing
enough : (n m : ℕ) (order : Endian) (xs : List ℕ) → length xs ≤ n → length xs ≤ m → records n order xs ≡ records m order xs
unfolding records
enough zero zero order xs h k = refl
enough zero (suc m) order xs h k = rw (nothing_is_unfinished order xs (omega arith)) refl
enough (suc n) zero order xs h k = rw (nothing_is_unfinished order xs (omega arith)) refl
enough (suc n) (suc m) order xs h k =
    by_beginning (contents_from xs (beginning order xs) (λ rest. records n order rest) ≡ contents_from xs (beginning order xs)
    (λ rest. records m order rest)) (beginning order xs)
    (λ e. rw e refl)
    (λ why e. rw e refl)
    (λ count e. rw e (ap (behind (captured count xs))
    (enough n m order (drop (16 + count) xs) (shorter order xs count n e h) (shorter order xs count m e k))))

-- the contents by what the octets begin with
step : (order : Endian) (xs : List ℕ)
    → contents order xs ≡ contents_from xs (beginning order xs) (λ rest. records (length xs) order rest)
unfolding contents records
step order xs = enough (length xs) (suc (length xs)) order xs (omega arith) (omega arith)

-- contents by what the octets begin with
pub contents_unfinished : (order : Endian) (xs : List ℕ) → beginning order xs ≡ Unfinished → contents order xs ≡ stopped xs None
contents_unfinished order xs e = step order xs ∙ ap (λ b. contents_from xs b (λ rest. records (length xs) order rest)) e

-- at a record that is no frame the contents stop
pub contents_bad : (order : Endian) (xs : List ℕ) (why : FrameRefusal) → beginning order xs ≡ Bad why
    → contents order xs ≡ stopped xs (Some why)
contents_bad order xs why e = step order xs ∙ ap (λ b. contents_from xs b (λ rest. records (length xs) order rest)) e

-- a whole record stands before the contents of the rest
pub contents_whole : (order : Endian) (xs : List ℕ) (n : ℕ) → beginning order xs ≡ Whole n
    → contents order xs ≡ behind (captured n xs) (contents order (drop (16 + n) xs))
unfolding contents
contents_whole order xs n e =
    step order xs ∙ ap (λ b. contents_from xs b (λ rest. records (length xs) order rest)) e
    ∙ ap (behind (captured n xs)) (enough (length xs) (length (drop (16 + n) xs)) order (drop (16 + n) xs)
    (rw (length-drop (16 + n) xs) (omega arith)) (omega arith))

-- the contents, behind these frames
abbrev pub after_frames : List (List ℕ) → Contents → Contents
after_frames frames c = record c { frames = frames ++ c.frames }

-- a whole record is not changed by what follows
pub captured_on : (order : Endian) (xs ys : List ℕ) (n : ℕ) → beginning order xs ≡ Whole n → captured n (xs ++ ys) ≡ captured n xs
captured_on order xs ys n e =
    let all : 16 + n ≤ length xs = (whole_of order xs n e).all in
    let header : 16 ≤ length xs = omega arith in
    let there : n ≤ length (drop 16 xs) = rw (length-drop 16 xs) (omega arith) in
    rw (drop-append-le 16 xs ys header, take-append-le n (drop 16 xs) ys there) refl

rest_on : (order : Endian) (xs ys : List ℕ) (n : ℕ) → beginning order xs ≡ Whole n
    → drop (16 + n) (xs ++ ys) ≡ drop (16 + n) xs ++ ys
rest_on order xs ys n e = drop-append-le (16 + n) xs ys (whole_of order xs n e).all

-- octets without a fault, and more behind them: what was unfinished goes on
abbrev GoesOn : Endian → List ℕ → Type 0
GoesOn order xs =
    (ys : List ℕ) → (contents order xs).fault ≡ None
    → contents order (xs ++ ys) ≡ after_frames (contents order xs).frames (contents order ((contents order xs).rest ++ ys))

-- the contents of both, by those of the first
pub goes_on : (order : Endian) (xs : List ℕ) → GoesOn order xs
goes_on order = over_records (GoesOn order) order
    (λ xs e ys h. rw (contents_unfinished order xs e) refl)
    (λ xs why e ys h. absurd (some_is_none why (rw (contents_bad order xs why e) at h)))
    (λ xs n e on ys h.
    let c : contents order xs ≡ behind (captured n xs) (contents order (drop (16 + n) xs)) = contents_whole order xs n e in
    let sound : (contents order (drop (16 + n) xs)).fault ≡ None = rw c at h in
    contents_whole order (xs ++ ys) n (whole_on order xs ys n e)
    ∙ rw (captured_on order xs ys n e, rest_on order xs ys n e, on ys sound, c) refl)
  where
    some_is_none : (why : FrameRefusal) → Some why ≡ None → ⊥
    some_is_none why h = cc

-- what stands before a fault, and the fault, stay as they are
abbrev StaysFaulty : Endian → List ℕ → Type 0
StaysFaulty order xs = (ys : List ℕ) (why : FrameRefusal) → (contents order xs).fault ≡ Some why
    → ((contents order (xs ++ ys)).frames ≡ (contents order xs).frames) × ((contents order (xs ++ ys)).fault ≡ Some why)

-- octets with a fault, whatever follows
pub stays_faulty : (order : Endian) (xs : List ℕ) → StaysFaulty order xs
stays_faulty order = over_records (StaysFaulty order) order
    (λ xs e ys why h. absurd (none_is_some why (rw (contents_unfinished order xs e) at h)))
    (λ xs why e ys fault h.
    let c : contents order xs ≡ stopped xs (Some why) = contents_bad order xs why e in
    let d : contents order (xs ++ ys) ≡ stopped (xs ++ ys) (Some why) =
    contents_bad order (xs ++ ys) why (bad_on order xs ys why e) in
    (ap (λ a. a.frames) d ∙ sym (ap (λ a. a.frames) c), ap (λ a. a.fault) d ∙ sym (ap (λ a. a.fault) c) ∙ h))
    (λ xs n e on ys why h.
    let c : contents order xs ≡ behind (captured n xs) (contents order (drop (16 + n) xs)) = contents_whole order xs n e in
    let faulty : (contents order (drop (16 + n) xs)).fault ≡ Some why = rw c at h in
    let d : contents order (xs ++ ys) ≡ behind (captured n xs) (contents order (drop (16 + n) xs ++ ys)) =
    contents_whole order (xs ++ ys) n (whole_on order xs ys n e)
    ∙ rw (captured_on order xs ys n e, rest_on order xs ys n e) refl in (
      ap (λ a. a.frames) d ∙ ap (λ fs. captured n xs ∷ fs) (on ys why faulty).0 ∙ sym (ap (λ a. a.frames) c),
      ap (λ a. a.fault) d ∙ (on ys why faulty).1,
    ))
  where
    none_is_some : (why : FrameRefusal) → None ≡ Some why → ⊥
    none_is_some why h = cc

-- without a fault, what stands behind the whole records is no record yet
abbrev EndsUnfinished : Endian → List ℕ → Type 0
EndsUnfinished order xs = (contents order xs).fault ≡ None → beginning order (contents order xs).rest ≡ Unfinished

-- the rest of octets without a fault
pub ends_unfinished : (order : Endian) (xs : List ℕ) → EndsUnfinished order xs
ends_unfinished order = over_records (EndsUnfinished order) order
    (λ xs e h. rw (contents_unfinished order xs e) e)
    (λ xs why e h. absurd (some_is_none why (rw (contents_bad order xs why e) at h)))
    (λ xs n e on h. rw (contents_whole order xs n e) (on (rw (contents_whole order xs n e) at h)))
  where
    some_is_none : (why : FrameRefusal) → Some why ≡ None → ⊥
    some_is_none why h = cc
