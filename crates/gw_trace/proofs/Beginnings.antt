-- What octets begin with, when more octets follow.
use Rattle.std.proofs.Common.{◌≡◌, ℕ, ◌+◌, ◌≤◌, ◌<◌, ◌≢◌, List, ◌++◌, length, take, drop, Option, Some, None, ap, ◌∙◌, refl}
use Rattle.std.proofs.Common.{arith, length-append, length-drop}
use Rattle.std.proofs.lemmas.Bool.Decides.{nat_tests}
use Rattle.std.proofs.lemmas.List.{take-append-le, drop-append-le}
use Rattle.gw_frame.specs.declared.refusal.FrameRefusal.{FrameRefusal}
use Rattle.gw_frame.specs.Record.{refusal_of}
use Rattle.gw_trace.specs.declared.byte_order.Endian.{Endian}
use Rattle.gw_trace.specs.declared.record.Beginning.TheVariants.{Unfinished, Bad, Whole}
use Rattle.gw_trace.specs.Traces.{number, field, captured_length, captured, begun, beginning}

-- a field that stands in the front is not changed by what follows
pub field_on : (order : Endian) (at count : ℕ) (xs ys : List ℕ) → at + count ≤ length xs
    → field order at count (xs ++ ys) ≡ field order at count xs
field_on order at count xs ys h = ap (number order count) (part_on at count xs ys h)
  where
    part_on : (at count : ℕ) (xs ys : List ℕ) → at + count ≤ length xs → take count (drop at (xs ++ ys)) ≡ take count (drop at xs)
    part_on at count xs ys h =
        let inside : at ≤ length xs = omega arith in
        let there : count ≤ length (drop at xs) = simp length-drop (omega arith) in
        rw (drop-append-le at xs ys inside, take-append-le count (drop at xs) ys there) refl

-- what a whole record says
pub record IsWhole (there count n : ℕ) (refusal : Option FrameRefusal) : Type 0 where
  pub header : 16 ≤ there
  pub count_is : n ≡ count
  pub low : 8 ≤ n
  pub high : n ≤ 16
  pub all : 16 + n ≤ there
  pub frame : refusal ≡ None

-- a record that is whole says all that IsWhole has, and nothing else is one
pub whole_says : (there count n : ℕ) (refusal : Option FrameRefusal) → begun there count refusal ≡ Whole n
    → IsWhole there count n refusal
whole_says there count n None h = grind (arith, nat_tests)
whole_says there count n (Some why) h = grind (arith, nat_tests)

-- the other way round: what IsWhole has makes a whole record
pub whole_from : (there count n : ℕ) (refusal : Option FrameRefusal) → IsWhole there count n refusal
    → begun there count refusal ≡ Whole n
whole_from there count n None h = grind (arith, nat_tests)
whole_from there count n (Some why) h = grind (arith, nat_tests)

-- what a record is, once it shows, is not changed by more octets
pub begun_on : (there more count : ℕ) (refusal later : Option FrameRefusal) → (16 + count ≤ there → later ≡ refusal)
    → begun there count refusal ≢ Unfinished → begun (there + more) count later ≡ begun there count refusal
begun_on there more count refusal later same h = grind (arith, nat_tests)

-- the same of octets
pub whole_of : (order : Endian) (xs : List ℕ) (n : ℕ) → beginning order xs ≡ Whole n
    → IsWhole (length xs) (captured_length order xs) n (refusal_of (captured (captured_length order xs) xs))
unfolding beginning
whole_of order xs n e =
    whole_says (length xs) (captured_length order xs) n (refusal_of (captured (captured_length order xs) xs)) e

-- no octets are no record
pub nothing_is_unfinished : (order : Endian) (xs : List ℕ) → length xs < 16 → beginning order xs ≡ Unfinished
unfolding beginning
nothing_is_unfinished order xs h =
    short (length xs) (captured_length order xs) (refusal_of (captured (captured_length order xs) xs)) h
  where
    short : (there count : ℕ) (refusal : Option FrameRefusal) → there < 16 → begun there count refusal ≡ Unfinished
    short there count refusal h = grind (arith, nat_tests)

-- what octets begin with, once it shows, is not changed by what follows
pub begins_on : (order : Endian) (xs ys : List ℕ) → beginning order xs ≢ Unfinished
    → beginning order (xs ++ ys) ≡ beginning order xs
unfolding beginning
begins_on order xs ys h =
    let header : 16 ≤ length xs = header_shows (length xs) (captured_length order xs)
    (refusal_of (captured (captured_length order xs) xs)) h in
    let same : captured_length order (xs ++ ys) ≡ captured_length order xs = field_on order 8 4 xs ys (omega arith) in
    rw (same, length-append xs ys)
    (begun_on (length xs) (length ys) (captured_length order xs) (refusal_of (captured (captured_length order xs) xs))
    (refusal_of (captured (captured_length order xs) (xs ++ ys)))
    (λ all. ap refusal_of (part_on (captured_length order xs) xs ys all)) h)
  where
    header_shows : (there count : ℕ) (refusal : Option FrameRefusal) → begun there count refusal ≢ Unfinished → 16 ≤ there
    header_shows there count refusal h = grind (arith, nat_tests)

    part_on : (count : ℕ) (xs ys : List ℕ) → 16 + count ≤ length xs → captured count (xs ++ ys) ≡ captured count xs
    part_on count xs ys all =
        let header : 16 ≤ length xs = omega arith in
        let there : count ≤ length (drop 16 xs) = rw (length-drop 16 xs) (omega arith) in
        rw (drop-append-le 16 xs ys header, take-append-le count (drop 16 xs) ys there) refl

-- a whole record stays whole
pub whole_on : (order : Endian) (xs ys : List ℕ) (n : ℕ) → beginning order xs ≡ Whole n → beginning order (xs ++ ys) ≡ Whole n
whole_on order xs ys n e = begins_on order xs ys (rw e (λ h. whole_is_unfinished n h)) ∙ e
  where
    whole_is_unfinished : (n : ℕ) → Whole n ≡ Unfinished → ⊥
    whole_is_unfinished n h = cc

-- a record that is no frame stays so
pub bad_on : (order : Endian) (xs ys : List ℕ) (why : FrameRefusal) → beginning order xs ≡ Bad why
    → beginning order (xs ++ ys) ≡ Bad why
bad_on order xs ys why e = begins_on order xs ys (rw e (λ h. bad_is_unfinished why h)) ∙ e
  where
    bad_is_unfinished : (why : FrameRefusal) → Bad why ≡ Unfinished → ⊥
    bad_is_unfinished why h = cc

-- a record that is not whole is shorter than the whole one
pub unfinished_is_shorter : (order : Endian) (xs ys : List ℕ) (n : ℕ) → beginning order xs ≡ Unfinished
    → beginning order (xs ++ ys) ≡ Whole n → length xs < 16 + n
unfolding beginning
unfinished_is_shorter order xs ys n u e =
    let w = whole_of order (xs ++ ys) n e in
    shorter n (length xs) (λ all.
    let header : 16 ≤ length xs = omega arith in
    let same : captured_length order (xs ++ ys) ≡ captured_length order xs = field_on order 8 4 xs ys (omega arith) in
    let count : n ≡ captured_length order xs = w.count_is ∙ same in
    finished (length xs) n (captured_length order xs) (refusal_of (captured (captured_length order xs) xs)) count w.low w.high
    all u)
  where
    shorter : (n there : ℕ) → (16 + n ≤ there → ⊥) → there < 16 + n
    shorter n there h = grind arith

    finished : (there n count : ℕ) (refusal : Option FrameRefusal) → n ≡ count → 8 ≤ n → n ≤ 16 → 16 + n ≤ there
        → begun there count refusal ≡ Unfinished → ⊥
    finished there n count None same low high all u = grind (arith, nat_tests)
    finished there n count (Some why) same low high all u = grind (arith, nat_tests)

-- what is not whole yet is less than the longest record with its header
pub unfinished_is_short : (order : Endian) (xs : List ℕ) → beginning order xs ≡ Unfinished → length xs < 32
unfolding beginning
unfinished_is_short order xs u =
    short (length xs) (captured_length order xs) (refusal_of (captured (captured_length order xs) xs)) u
  where
    short : (there count : ℕ) (refusal : Option FrameRefusal) → begun there count refusal ≡ Unfinished → there < 32
    short there count None h = grind (arith, nat_tests)
    short there count (Some why) h = grind (arith, nat_tests)
