-- Hexadecimal digits, and what is wrong with other texts.
use Rattle.std.proofs.Common.{◌≡◌, ℕ, ◌+◌, ◌-◌, ◌*◌, ◌/◌, ◌%◌, ◌<◌, ◌≤◌, Bool, true, false, not, ◌&&◌, ◌||◌, List, ◌++◌, length}
use Rattle.std.proofs.Common.{take, get_or, inl, inr, Some, None, Result, Ok, Err, refl, ap, sym, ◌∙◌, arith}
use Rattle.std.specs.Prelude.{nat_le, is_some, is_err, slice_get, if◌then◌else◌, MatchResult}
use Rattle.std.specs.List.{AllPass}
use Rattle.std.specs.Char.{is_ascii_hexdigit}
use Rattle.std.proofs.lemmas.Bool.{cases_eq, false≢true, lt-ltb, le-ltb}
use Rattle.std.proofs.lemmas.List.{get_or_default, take-append-le, take_all}
use Rattle.std.proofs.lemmas.List.Elements.{All-get_or}
use Rattle.std.proofs.lemmas.List.Sums.{position_or_len_is}
use Rattle.std.proofs.lemmas.Option.{slice_get_read}
use Rattle.hex.specs.Hex.{decode_of, decode_sized, is_hex_digit}
use Rattle.hex.specs.declared.error.FromHexError.{FromHexError}
use Rattle.hex.proofs.HexLemmas.{decode_of-ok, decode_of-digits, decode_sized-twice}
use Rattle.gw_frame.specs.Record.{refusal_of}
use Rattle.gw_frame.specs.declared.refusal.FrameRefusal.TheVariants.{TooLong}
use Rattle.gw_input.specs.Records.{first_no_digit}

-- the test of the code and that of `hex` are one
pub same_digits : (c : ℕ) → is_ascii_hexdigit c ≡ is_hex_digit c
same_digits c = go (nat_le 48 c && nat_le c 57) (nat_le 65 c && nat_le c 70) (nat_le 97 c && nat_le c 102)
  where
    go : (decimal upper lower : Bool)
        → ((decimal || upper) || lower)
        ≡ is_some (if upper then Some (c - 55) else if lower then Some (c - 87) else if decimal then Some (c - 48) else None)
    go true true true = refl
    go true true false = refl
    go true false true = refl
    go true false false = refl
    go false true true = refl
    go false true false = refl
    go false false true = refl
    go false false false = refl

-- a text with an octet that is no digit is refused
pub no_digit_refused : (text : List ℕ) (at : ℕ) → at < length text → is_hex_digit (get_or text at 0) ≡ false
    → is_err (decode_of text) ≡ true
no_digit_refused text at within other = go (decode_of text) refl
  where
    go : (read : Result (List ℕ) FromHexError) → decode_of text ≡ read → is_err read ≡ true
    go (Err e) same = refl
    go (Ok octets) same =
        let all = (decode_of-ok text octets same).1 in
        absurd (false≢true (sym other ∙ All-get_or (λ c. is_hex_digit c ≡ true) text at 0 within all))

-- the first octet that is no digit
pub first_other : (text : List ℕ) (at : ℕ) → at < length text → ((k : ℕ) → k < at → is_hex_digit (get_or text k 0) ≡ true)
    → is_hex_digit (get_or text at 0) ≡ false → first_no_digit text ≡ Some at
first_other text at within before other =
    let first = position_or_len_is (λ c. not (is_hex_digit c)) text at 0 (omega arith) (λ k below. ap not (before k below))
    (λ _. ap not other) in
    let inside = lt-ltb at (length text) within in
    rw (first, inside) refl

-- digits alone have no such octet
pub no_other : (text : List ℕ) → ((k : ℕ) → k < length text → is_hex_digit (get_or text k 0) ≡ true) → first_no_digit text ≡ None
no_other text digits =
    let none = position_or_len_is (λ c. not (is_hex_digit c)) text (length text) 0 (omega arith)
    (λ k below. ap not (digits k below)) (λ past. absurd (omega arith)) in
    let past = le-ltb (length text) (length text) (omega arith) in
    rw (none, past) refl

-- what an even number of digits is decoded to, into room for that many octets
pub decoded_into : (text : List ℕ) (room : ℕ) → AllPass is_hex_digit text → length text % 2 ≡ 0 → room ≡ length text / 2
    → (octets : List ℕ) × (decode_of text ≡ Ok octets) × (decode_sized text room ≡ Ok octets) × (length octets ≡ room)
decoded_into text room digits even half =
    let read = decode_of-digits text even digits in
    let twice : length text ≡ 2 * room = omega arith in
    let long = (decode_of-ok text read.0 read.1).2 in
    (read.0, read.1, decode_sized-twice text room twice ∙ read.1, omega arith)

-- one digit more
pub digits_more : (text : List ℕ) (at : ℕ) → ((k : ℕ) → k < at → is_hex_digit (get_or text k 0) ≡ true)
    → is_hex_digit (get_or text at 0) ≡ true
    → (k : ℕ) → k < at + 1 → is_hex_digit (get_or text k 0) ≡ true
digits_more text at before here k below =
    elim (cases_eq k at) [
      | inl same ↦ ap (λ i. is_hex_digit (get_or text i 0)) same ∙ here
      | inr other ↦ before k (omega arith)
    ]

-- an octet of the text
pub element_there : (text : List ℕ) (at : ℕ) → at < length text → slice_get text at ≡ Some (get_or text at 0)
element_there text at within =
    slice_get_read text (length text) at (get_or text at 0) refl within (get_or_default text at 0 (get_or text at 0) within)

-- what was decoded into room for that many octets, with other octets behind it
pub decoded_is : (text out : List ℕ) (result : Result Unit FromHexError) (room size : ℕ) → AllPass is_hex_digit text
    → length text % 2 ≡ 0
    → room ≡ length text / 2 → size ≡ room
    → MatchResult (decode_sized text size) (λ octets. (result ≡ Ok tt) × (out ≡ octets)) (λ e. result ≡ Err e)
    → (decode_of text ≡ Ok out) × (length out ≡ room)
decoded_is text out result room size digits even half same written =
    let into = decoded_into text room digits even half in
    let read : decode_sized text size ≡ Ok into.0 = ap (decode_sized text) same ∙ into.2 in
    let is = (rw read at written).1 in
    (into.1 ∙ ap Ok (sym is), ap length is ∙ into.3)

-- more octets than a record has
pub too_long : (octets : List ℕ) → 16 < length octets → refusal_of octets ≡ Some (TooLong (length octets))
too_long octets more =
    let many : 8 ≤ length octets = omega arith in
    let short = le-ltb _ _ many in
    let long = lt-ltb 16 (length octets) more in
    rw (short, long) refl

-- the octets in front of others
pub front_of : (out rest : List ℕ) (room : ℕ) → length out ≡ room → take room (out ++ rest) ≡ out
front_of out rest room long = take-append-le room out rest (omega arith) ∙ take_all room out (omega arith)
