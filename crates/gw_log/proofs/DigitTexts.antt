-- Texts of digits: where they end, and what they spell.
use Rattle.std.proofs.Common.{◌≡◌, ℕ, suc, ◌+◌, ◌*◌, ◌/◌, ◌%◌, ◌<◌, ◌≤◌, ◌==◌, true}
use Rattle.std.proofs.Common.{false, List, [], ◌∷◌, ◌++◌, length, take, drop, inl, inr}
use Rattle.std.proofs.Common.{Some, None, Ok, get_or, zero, refl, sym, ap, ◌∙◌, append_assoc, length-append, arith}
use Rattle.std.specs.Prelude.{◌&&◌, is_some, nat_le, unwrap_or}
use Rattle.std.specs.List.{list_all, position_or_len, slice_split}
use Rattle.std.proofs.lemmas.Bool.{cases_eq, eq-eqb, eqb-true, leb-true, ne_eqb, lt-ltb, le-ltb, and_parts, false≢true}
use Rattle.hex.specs.Hex.{is_hex_digit, encode_upper, encode_with, upper_digits, IsBytes}
use Rattle.hex.proofs.HexLemmas.{IsDigits-upper_digits, length-encode_with}
use Rattle.gw_log.specs.LogFrames.{coded_payload, digit, spelled, pairs, parted, payload}
use Rattle.gw_log.specs.LogFrames.{is_dot, is_payload_character, without_dots}
use Rattle.gw_log.specs.LogTexts.{upper_digit, three_digits}

-- a digit is no other octet
pub differs : (c mark : ℕ) → is_hex_digit mark ≡ false → is_hex_digit c ≡ true → (c == mark) ≡ false
differs c mark other digit =
    elim (cases_eq c mark) [
      | inl same ↦ absurd (false≢true (sym other ∙ sym (ap is_hex_digit same) ∙ digit))
      | inr apart ↦ ne_eqb c mark apart
    ]

-- the first octet of this value stands behind digits
first_behind : (mark : ℕ) (digits rest : List ℕ) → is_hex_digit mark ≡ false → list_all is_hex_digit digits ≡ true
    → position_or_len (λ c. c == mark) (digits ++ mark ∷ rest) ≡ length digits
first_behind mark [] rest other all = rw (eq-eqb mark mark refl) refl
first_behind mark (c ∷ cs) rest other all =
    let parts = and_parts (is_hex_digit c) (list_all is_hex_digit cs) all in
    let next = first_behind mark cs rest other parts.1 in
    rw (differs c mark other parts.0, next) (omega arith)

take_front : (xs ys : List ℕ) → take (length xs) (xs ++ ys) ≡ xs
take_front [] ys = refl
take_front (x ∷ xs) ys = ap (λ (r : List ℕ). x ∷ r) (take_front xs ys)

drop_front : (xs : List ℕ) (y : ℕ) (ys : List ℕ) → drop (length xs + 1) (xs ++ y ∷ ys) ≡ ys
drop_front [] y ys = refl
drop_front (x ∷ xs) y ys =
    let e : suc (length xs) + 1 ≡ suc (length xs + 1) = omega arith in
    rw e (drop_front xs y ys)

pub parted_behind : (mark : ℕ) (digits rest : List ℕ) → is_hex_digit mark ≡ false → list_all is_hex_digit digits ≡ true
    → parted mark (digits ++ mark ∷ rest) ≡ Some (digits, rest)
parted_behind mark digits rest other all =
    let at = first_behind mark digits rest other all in
    let within : length digits < length (digits ++ mark ∷ rest) = omega (arith, length-append digits (mark ∷ rest)) in
    rw (at, lt-ltb _ _ within, take_front digits (mark ∷ rest), drop_front digits mark rest) refl

-- no octet of this value stands among digits
none_among : (mark : ℕ) (digits : List ℕ) → is_hex_digit mark ≡ false → list_all is_hex_digit digits ≡ true
    → position_or_len (λ c. c == mark) digits ≡ length digits
none_among mark [] other all = refl
none_among mark (c ∷ cs) other all =
    let parts = and_parts (is_hex_digit c) (list_all is_hex_digit cs) all in
    let next = none_among mark cs other parts.1 in
    rw (differs c mark other parts.0, next) (omega arith)

pub parted_nowhere : (mark : ℕ) (digits : List ℕ) → is_hex_digit mark ≡ false → list_all is_hex_digit digits ≡ true
    → parted mark digits ≡ None
parted_nowhere mark digits other all =
    rw (none_among mark digits other all, le-ltb (length digits) (length digits) (omega arith)) refl

-- ---- payloads of digits without dots

characters : (digits : List ℕ) → list_all is_hex_digit digits ≡ true → list_all is_payload_character digits ≡ true
characters [] all = refl
characters (c ∷ cs) all =
    let parts = and_parts (is_hex_digit c) (list_all is_hex_digit cs) all in
    rw (parts.0, characters cs parts.1) refl

no_dots : (digits : List ℕ) → list_all is_hex_digit digits ≡ true → without_dots digits ≡ digits
no_dots [] all = refl
no_dots (c ∷ cs) all =
    let parts = and_parts (is_hex_digit c) (list_all is_hex_digit cs) all in
    rw (differs c 46 refl parts.0, no_dots cs parts.1) refl

one_part : (digits : List ℕ) → list_all is_hex_digit digits ≡ true → slice_split is_dot digits ≡ digits ∷ []
one_part [] all = refl
one_part (c ∷ cs) all =
    let parts = and_parts (is_hex_digit c) (list_all is_hex_digit cs) all in
    rw (differs c 46 refl parts.0, one_part cs parts.1) refl

pub payload_of_digits : (digits : List ℕ) → list_all is_hex_digit digits ≡ true → length digits % 2 ≡ 0 → length digits ≤ 16
    → payload digits ≡ Ok (pairs digits)
payload_of_digits [] all even few = refl
payload_of_digits (c ∷ cs) all even few =
    let even' : (length (c ∷ cs) % 2 == 1) ≡ false = ne_eqb _ 1 (λ odd. omega arith) in
    let some : (length (c ∷ cs) == 0) ≡ false = ne_eqb _ 0 (λ none. omega arith) in
    rw (characters (c ∷ cs) all, one_part (c ∷ cs) all, even', no_dots (c ∷ cs) all, le-ltb 16 (length (c ∷ cs)) few, some) refl

-- digits alone, two an octet, of 8 octets at most
pub plain_payload : (text : List ℕ)
    → (list_all is_hex_digit text && (nat_le (length text) 16 && (length text % 2 == 0))) ≡ true
    → coded_payload text ≡ Ok (pairs text)
plain_payload text plain =
    let all = and_parts (list_all is_hex_digit text) (nat_le (length text) 16 && (length text % 2 == 0)) plain in
    let sizes = and_parts (nat_le (length text) 16) (length text % 2 == 0) all.1 in
    let few : length text ≤ 16 = leb-true (length text) 16 sizes.0 in
    rw (parted_nowhere 95 text refl all.0) (payload_of_digits text all.0 (eqb-true (length text % 2) 0 sizes.1) few)

-- ---- digits of octets

pub upper_is_digit : (d : ℕ) → d < 16 → is_hex_digit (upper_digit d) ≡ true
upper_is_digit d small = ap is_some (IsDigits-upper_digits d small)

pub digit_of_upper : (d : ℕ) → d < 16 → digit (upper_digit d) ≡ d
unfolding digit
digit_of_upper d small = ap (λ o. unwrap_or o 0) (IsDigits-upper_digits d small)

pub octets_are_digits : (octets : List ℕ) → IsBytes octets → list_all is_hex_digit (encode_upper octets) ≡ true
unfolding encode_with
octets_are_digits [] small = refl
octets_are_digits (b ∷ rest) small =
    let fits : b < 256 = small 0 in
    rw (
      upper_is_digit (b / 16) (omega arith),
      upper_is_digit (b % 16) (omega arith),
      octets_are_digits rest (λ i. small (suc i)),
    ) refl

pub pairs_of_octets : (octets : List ℕ) → IsBytes octets → pairs (encode_upper octets) ≡ octets
unfolding encode_with
pairs_of_octets [] small = refl
pairs_of_octets (b ∷ rest) small =
    let fits : b < 256 = small 0 in
    let whole : 16 * (b / 16) + b % 16 ≡ b = omega arith in
    rw (
      digit_of_upper (b / 16) (omega arith),
      digit_of_upper (b % 16) (omega arith),
      whole,
      pairs_of_octets rest (λ i. small (suc i)),
    ) refl

pub payload_of_octets : (octets : List ℕ) → IsBytes octets → length octets ≤ 8 → payload (encode_upper octets) ≡ Ok octets
payload_of_octets octets small few =
    let long = length-encode_with upper_digits octets in
    payload_of_digits (encode_upper octets) (octets_are_digits octets small) (omega (arith, long)) (omega (arith, long))
    ∙ ap Ok (pairs_of_octets octets small)

-- ---- the numbers of identifiers

pub spelled_word : (a b c d : ℕ) → a < 256 → b < 256 → c < 256 → d < 256
    → spelled (encode_upper (a ∷ b ∷ c ∷ d ∷ [])) ≡ 16777216 * a + 65536 * b + 256 * c + d
unfolding encode_with
spelled_word a b c d la lb lc ld =
    rw (
      digit_of_upper (a / 16) (omega arith),
      digit_of_upper (a % 16) (omega arith),
      digit_of_upper (b / 16) (omega arith),
      digit_of_upper (b % 16) (omega arith),
      digit_of_upper (c / 16) (omega arith),
      digit_of_upper (c % 16) (omega arith),
      digit_of_upper (d / 16) (omega arith),
      digit_of_upper (d % 16) (omega arith),
    ) (omega arith)

pub spelled_three : (n : ℕ) → n < 0x800 → spelled (three_digits n) ≡ n
spelled_three n small =
    rw (digit_of_upper (n / 256) (omega arith), digit_of_upper (n / 16 % 16) (omega arith), digit_of_upper (n % 16) (omega arith))
    (omega arith)

pub three_are_digits : (n : ℕ) → n < 0x800 → list_all is_hex_digit (three_digits n) ≡ true
three_are_digits n small =
    rw (upper_is_digit (n / 256) (omega arith), upper_is_digit (n / 16 % 16) (omega arith), upper_is_digit (n % 16) (omega arith))
    refl

-- ---- writing octets

encode_more : (octets : List ℕ) (i : ℕ) → i < length octets
    → encode_upper (take (i + 1) octets)
    ≡ encode_upper (take i octets) ++ upper_digit (get_or octets i 0 / 16) ∷ upper_digit (get_or octets i 0 % 16) ∷ []
unfolding encode_with
encode_more [] i within = absurd (omega arith)
encode_more (b ∷ rest) zero within = refl
encode_more (b ∷ rest) (suc i) within =
    let next = encode_more rest i (omega arith) in
    let e : suc i + 1 ≡ suc (i + 1) = omega arith in
    rw (e, next) refl

-- the text with one octet more behind it
pub more_octets : (start text one two octets : List ℕ) (i high low : ℕ) → i < length octets
    → text ≡ start ++ encode_upper (take i octets) → one ≡ text ++ high ∷ [] → two ≡ one ++ low ∷ []
    → high ≡ upper_digit (get_or octets i 0 / 16) → low ≡ upper_digit (get_or octets i 0 % 16)
    → two ≡ start ++ encode_upper (take (i + 1) octets)
more_octets start text one two octets i high low within before first second is_high is_low =
    let more = encode_more octets i within in
    rw (second, first, before, is_high, is_low, more) (simp append_assoc)
