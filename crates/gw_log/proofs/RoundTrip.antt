-- What was written in candump's form reads back as what a log says of it.
use Rattle.std.proofs.Common.{◌≡◌, ℕ, zero, suc, ◌+◌, ◌-◌, ◌*◌, ◌/◌, ◌%◌, ◌<◌, ◌≤◌, ◌==◌, true, false, List, [], ◌∷◌, ◌++◌}
use Rattle.std.proofs.Common.{length, take, drop, replicate, slice_index, inl, inr, Ok, refl, ap, ap₂, ◌∙◌, append_assoc, arith}
use Rattle.std.specs.List.{list_all}
use Rattle.std.proofs.lemmas.Bool.{cases_Bool, ne_eqb, eqb-true, eqb-false, lt-ltb, le-ltb, le-leb}
use Rattle.std.proofs.lemmas.List.{length-take}
use Rattle.byteorder.specs.Endian.{big_bytes}
use Rattle.hex.specs.Hex.{is_hex_digit, encode_upper, encode_with, IsBytes}
use Rattle.gw_frame.specs.Record.{word_of, payload_of, payload_length}
use Rattle.gw_log.specs.LogFrames.{extended, remote, error, has_flag, record_of}
use Rattle.gw_log.specs.LogFrames.{identifier, long_word, body}
use Rattle.gw_log.specs.LogFrames.{frame_of}
use Rattle.gw_log.specs.LogTexts.{upper_digit, three_digits, identifier_text}
use Rattle.gw_log.specs.LogTexts.{length_text, body_text, text_of, said_word}
use Rattle.gw_log.specs.LogTexts.{said_payload, said_record, WritesAndReads}
use Rattle.gw_log.proofs.DigitTexts.{differs, parted_behind, parted_nowhere, payload_of_octets, octets_are_digits, upper_is_digit}
use Rattle.gw_log.proofs.DigitTexts.{spelled_word, spelled_three, three_are_digits}

-- a frame by its identifier and what stands behind `#`
pub frame_behind : (digits rest : List ℕ) (word : ℕ) → list_all is_hex_digit digits ≡ true → identifier digits ≡ Ok word
    → (slice_index rest 0 == 35) ≡ false → frame_of (digits ++ 35 ∷ rest) ≡ body word rest
unfolding frame_of
frame_behind digits rest word all id other = rw (parted_behind 35 digits rest refl all, other, id) refl

first_is_other : (octets : List ℕ) (mark : ℕ) → is_hex_digit mark ≡ false → (0 == mark) ≡ false → IsBytes octets
    → (slice_index (encode_upper octets) 0 == mark) ≡ false
unfolding encode_with
first_is_other [] mark other zero_other small = zero_other
first_is_other (b ∷ rest) mark other zero_other small =
    let fits : b < 256 = small 0 in
    differs (upper_digit (b / 16)) mark other (upper_is_digit (b / 16) (omega arith))

pub body_of_octets : (word : ℕ) (octets : List ℕ) → IsBytes octets → length octets ≤ 8
    → body word (encode_upper octets) ≡ Ok (record_of word octets)
body_of_octets word octets small few =
    rw (
      first_is_other octets 82 refl refl small,
      first_is_other octets 114 refl refl small,
      parted_nowhere 95 (encode_upper octets) refl (octets_are_digits octets small),
      payload_of_octets octets small few,
    ) refl

pub body_of_length : (word n : ℕ) → n ≤ 8 → has_flag error word ≡ false
    → body word (82 ∷ length_text n) ≡ Ok (record_of (word + remote) (replicate n 0))
body_of_length word zero few plain = rw plain refl
body_of_length word (suc n) few plain =
    let back : 48 + suc n - 48 ≡ suc n = omega arith in
    let some : (suc n == 0) ≡ false = ne_eqb _ 0 (λ none. omega arith) in
    rw (some, le-leb 48 (48 + suc n) (omega arith), le-leb (48 + suc n) 56 (omega arith), back, plain) refl

four_small : (a b c d : ℕ) → a < 256 → b < 256 → c < 256 → d < 256 → IsBytes (a ∷ b ∷ c ∷ d ∷ [])
four_small a b c d la lb lc ld zero = la
four_small a b c d la lb lc ld (suc zero) = lb
four_small a b c d la lb lc ld (suc (suc zero)) = lc
four_small a b c d la lb lc ld (suc (suc (suc zero))) = ld
four_small a b c d la lb lc ld (suc (suc (suc (suc i)))) = omega arith

octets_small : (n : ℕ) → IsBytes (big_bytes 4 n)
octets_small n = four_small _ _ _ _ (omega arith) (omega arith) (omega arith) (omega arith)

-- the digits of a number of 32 bits
pub eight : (n : ℕ) → n < 4294967296 → identifier (encode_upper (big_bytes 4 n)) ≡ long_word n
unfolding encode_with
eight n fits =
    let whole : 16777216 * (n / 16777216 % 256) + 65536 * (n / 65536 % 256) + 256 * (n / 256 % 256) + n % 256 ≡ n = omega arith in
    let all = octets_are_digits (big_bytes 4 n) (octets_small n) in
    let number = spelled_word (n / 16777216 % 256) (n / 65536 % 256) (n / 256 % 256) (n % 256) (omega arith) (omega arith)
    (omega arith) (omega arith) ∙ whole in
    rw (all, number) refl

pub three : (n : ℕ) → n < 0x800 → identifier (three_digits n) ≡ Ok n
three n fits = rw (three_are_digits n fits, spelled_three n fits, lt-ltb n 0x800 fits) refl

-- ---- the frames that a log can say, one after another: error frames, extended ones, those of 11 bits

error_frame : (w : ℕ) (p : List ℕ) → IsBytes p → length p ≤ 8 → has_flag error w ≡ true
    → frame_of (encode_upper (big_bytes 4 (w % remote)) ++ 35 ∷ encode_upper p) ≡ Ok (record_of (w % remote) p)
error_frame w p small few flagged =
    let set = eqb-true (w / error % 2) 1 flagged in
    let word : long_word (w % remote) ≡ Ok (w % remote) =
    rw (le-ltb (w % remote) error (omega arith), lt-ltb (w % remote) remote (omega arith)) refl in
    frame_behind (encode_upper (big_bytes 4 (w % remote))) (encode_upper p) (w % remote)
    (octets_are_digits (big_bytes 4 (w % remote)) (octets_small (w % remote)))
    (eight (w % remote) (omega arith) ∙ word) (first_is_other p 35 refl refl small)
    ∙ body_of_octets (w % remote) p small few

-- an extended identifier's digits, and what stands behind them
extended_behind : (w : ℕ) (rest : List ℕ) → (slice_index rest 0 == 35) ≡ false
    → frame_of (encode_upper (big_bytes 4 (w % error)) ++ 35 ∷ rest) ≡ body (w % error + extended) rest
extended_behind w rest other =
    let word : long_word (w % error) ≡ Ok (w % error + extended) = rw (lt-ltb (w % error) error (omega arith)) refl in
    frame_behind (encode_upper (big_bytes 4 (w % error))) rest (w % error + extended)
    (octets_are_digits (big_bytes 4 (w % error)) (octets_small (w % error))) (eight (w % error) (omega arith) ∙ word) other

short_behind : (w : ℕ) (rest : List ℕ) → (slice_index rest 0 == 35) ≡ false
    → frame_of (three_digits (w % 0x800) ++ 35 ∷ rest) ≡ body (w % 0x800) rest
short_behind w rest other =
    frame_behind (three_digits (w % 0x800)) rest (w % 0x800) (three_are_digits (w % 0x800) (omega arith))
    (three (w % 0x800) (omega arith)) other

extended_data : (w : ℕ) (p : List ℕ) → w < 4294967296 → IsBytes p → length p ≤ 8 → has_flag error w ≡ false
    → has_flag extended w ≡ true → has_flag remote w ≡ false
    → frame_of (encode_upper (big_bytes 4 (w % error)) ++ 35 ∷ encode_upper p) ≡ Ok (record_of w p)
extended_data w p fits small few no_error long no_remote =
    let unset = eqb-false (w / error % 2) 1 no_error in
    let set = eqb-true (w / extended % 2) 1 long in
    let no_request = eqb-false (w / remote % 2) 1 no_remote in
    let same : w % error + extended ≡ w = omega arith in
    extended_behind w (encode_upper p) (first_is_other p 35 refl refl small) ∙ body_of_octets (w % error + extended) p small few
    ∙ ap (λ v. Ok (record_of v p)) same

extended_remote : (w n : ℕ) → w < 4294967296 → n ≤ 8 → has_flag error w ≡ false → has_flag extended w ≡ true
    → has_flag remote w ≡ true
    → frame_of (encode_upper (big_bytes 4 (w % error)) ++ 35 ∷ 82 ∷ length_text n) ≡ Ok (record_of w (replicate n 0))
extended_remote w n fits few no_error long far =
    let unset = eqb-false (w / error % 2) 1 no_error in
    let set = eqb-true (w / extended % 2) 1 long in
    let request = eqb-true (w / remote % 2) 1 far in
    let same : w % error + extended + remote ≡ w = omega arith in
    let plain : has_flag error (w % error + extended) ≡ false = ne_eqb _ 1 (λ one. omega arith) in
    extended_behind w (82 ∷ length_text n) refl ∙ body_of_length (w % error + extended) n few plain
    ∙ ap (λ v. Ok (record_of v (replicate n 0))) same

short_data : (w : ℕ) (p : List ℕ) → w < 4294967296 → IsBytes p → length p ≤ 8 → has_flag extended w ≡ false
    → has_flag remote w ≡ false
    → frame_of (three_digits (w % 0x800) ++ 35 ∷ encode_upper p) ≡ Ok (record_of (w / remote * remote + w % 0x800) p)
short_data w p fits small few short no_remote =
    let unset = eqb-false (w / extended % 2) 1 short in
    let no_request = eqb-false (w / remote % 2) 1 no_remote in
    let same : w % 0x800 ≡ w / remote * remote + w % 0x800 = omega arith in
    short_behind w (encode_upper p) (first_is_other p 35 refl refl small) ∙ body_of_octets (w % 0x800) p small few
    ∙ ap (λ v. Ok (record_of v p)) same

short_remote : (w n : ℕ) → w < 4294967296 → n ≤ 8 → has_flag extended w ≡ false → has_flag remote w ≡ true
    → frame_of (three_digits (w % 0x800) ++ 35 ∷ 82 ∷ length_text n)
    ≡ Ok (record_of (w / remote * remote + w % 0x800) (replicate n 0))
short_remote w n fits few short far =
    let unset = eqb-false (w / extended % 2) 1 short in
    let request = eqb-true (w / remote % 2) 1 far in
    let same : w % 0x800 + remote ≡ w / remote * remote + w % 0x800 = omega arith in
    let plain : has_flag error (w % 0x800) ≡ false = ne_eqb _ 1 (λ one. omega arith) in
    short_behind w (82 ∷ length_text n) refl ∙ body_of_length (w % 0x800) n few plain
    ∙ ap (λ v. Ok (record_of v (replicate n 0))) same

reads_back : (w : ℕ) (p : List ℕ) → w < 4294967296 → IsBytes p → length p ≤ 8
    → frame_of (identifier_text w ++ 35 ∷ body_text w p) ≡ Ok (record_of (said_word w) (said_payload w p))
reads_back w p fits small few =
    elim (cases_Bool (has_flag error w)) [
      | inl is_error ↦
          elim (cases_Bool (has_flag remote w)) [
            | inl far ↦ rw (is_error, far) (error_frame w p small few is_error)
            | inr near ↦ rw (is_error, near) (error_frame w p small few is_error)
          ]
      | inr no_error ↦
          elim (cases_Bool (has_flag extended w)) [
            | inl long ↦
                elim (cases_Bool (has_flag remote w)) [
                  | inl far ↦ rw (no_error, long, far) (extended_remote w (length p) fits few no_error long far)
                  | inr near ↦ rw (no_error, long, near) (extended_data w p fits small few no_error long near)
                ]
            | inr short ↦
                elim (cases_Bool (has_flag remote w)) [
                  | inl far ↦ rw (no_error, short, far) (short_remote w (length p) fits few short far)
                  | inr near ↦ rw (no_error, short, near) (short_data w p fits small few short near)
                ]
          ]
    ]

take_small : (n : ℕ) (xs : List ℕ) → IsBytes xs → IsBytes (take n xs)
take_small zero xs small i = omega arith
take_small (suc n) [] small i = omega arith
take_small (suc n) (x ∷ xs) small zero = small zero
take_small (suc n) (x ∷ xs) small (suc i) = take_small n xs (λ k. small (suc k)) i

drop_small : (n : ℕ) (xs : List ℕ) → IsBytes xs → IsBytes (drop n xs)
drop_small zero xs small i = small i
drop_small (suc n) [] small i = omega arith
drop_small (suc n) (x ∷ xs) small i = drop_small n xs (λ k. small (suc k)) i

pub writes_and_reads : WritesAndReads
unfolding text_of said_record
writes_and_reads octets valid =
    let a = valid.octets_fit 0 in
    let b = valid.octets_fit 1 in
    let c = valid.octets_fit 2 in
    let d = valid.octets_fit 3 in
    let len = valid.length_fits in
    reads_back (word_of octets) (payload_of octets) (omega arith)
    (take_small (payload_length octets) (drop 8 octets) (drop_small 8 octets valid.octets_fit))
    (omega (arith, length-take (payload_length octets) (drop 8 octets)))

-- the text that the code puts together
pub text_there : (octets digits marked text payload : List ℕ) (word : ℕ) → word ≡ word_of octets → digits ≡ identifier_text word
    → marked ≡ digits ++ 35 ∷ [] → text ≡ marked ++ body_text word payload → payload ≡ payload_of octets
    → text ≡ text_of octets
unfolding text_of
text_there octets digits marked text payload word is_word is_digits is_marked is_text is_payload =
    is_text
    ∙ ap (λ (front : List ℕ). front ++ body_text word payload) (is_marked ∙ ap (λ (front : List ℕ). front ++ 35 ∷ []) is_digits)
    ∙ append_assoc (identifier_text word) (35 ∷ []) (body_text word payload)
    ∙ ap₂ (λ (w : ℕ) (p : List ℕ). identifier_text w ++ 35 ∷ body_text w p) is_word is_payload
