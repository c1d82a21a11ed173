-- What was read in candump's form is what a log says, and reads back from its text.
use Rattle.std.proofs.Common.{◌≡◌, ◌⊎◌, ℕ, zero, suc, ◌+◌, ◌-◌, ◌*◌, ◌/◌, ◌%◌, ◌<◌, ◌≤◌, ◌==◌, true, false, List, [], ◌∷◌}
use Rattle.std.proofs.Common.{length, drop, replicate, slice_index, inl, inr, Option, Some, None, Result, Ok, Err, IfOk, IfSome}
use Rattle.std.proofs.Common.{refl, ap, ap₂, ◌∙◌, subst, arith}
use Rattle.std.specs.Prelude.{◌&&◌, not, nat_lt, nat_le, if◌then◌else◌}
use Rattle.std.specs.List.{list_all, list_any, slice_split}
use Rattle.std.proofs.lemmas.Bool.{cond_both, and_parts, eq-eqb, eqb-false, ltb-true, ltb-false, leb-true, ne_eqb}
use Rattle.std.proofs.lemmas.List.{take_all, length-replicate}
use Rattle.hex.specs.Hex.{is_hex_digit, IsBytes}
use Rattle.gw_frame.specs.Record.{IsRecord, word_of, payload_of}
use Rattle.gw_log.specs.declared.refusal.LogRefusal.{LogRefusal}
use Rattle.gw_log.specs.declared.refusal.LogRefusal.TheVariants.{CanFd, NoDigit, BadDigits, WideId, OddDigits}
use Rattle.gw_log.specs.declared.refusal.LogRefusal.TheVariants.{BadLength, BadRemote, BadCode}
use Rattle.gw_log.specs.LogFrames.{extended, remote, error, has_flag, record_of, parted, spelled, pairs, short_word}
use Rattle.gw_log.specs.LogFrames.{long_word, identifier, is_payload_character, is_bad_part, is_dot, without_dots, payload}
use Rattle.gw_log.specs.LogFrames.{is_code, coded, payload_and_code, coded_payload, with_word, remote_length, remote_of}
use Rattle.gw_log.specs.LogFrames.{is_letter_r, body, behind_identifier, frame_in, frame_of}
use Rattle.gw_log.specs.LogTexts.{said_word, said_payload, said_record, ReadsAndWrites}
use Rattle.gw_log.proofs.DigitValues.{digit_small}
use Rattle.gw_log.proofs.RoundTrip.{writes_and_reads}

-- a record that a log says as it stands
abbrev IsSaid : List ℕ → Type 0
IsSaid octets = IsRecord octets × (said_record octets ≡ octets)

-- the words of identifiers: of 11 bits, of 29 bits, of an error frame
abbrev IsWord : ℕ → Type 0
IsWord word = (word < 0x800) ⊎ ((extended ≤ word) × (word < extended + error)) ⊎ ((error ≤ word) × (word < remote))

abbrev IsPayload : List ℕ → Type 0
IsPayload octets = IsBytes octets × (length octets ≤ 8)

-- ---- what a record has

fit : (w : ℕ) (p : List ℕ) → IsPayload p → IsBytes (record_of w p)
fit w p is zero = omega arith
fit w p is (suc zero) = omega arith
fit w p is (suc (suc zero)) = omega arith
fit w p is (suc (suc (suc zero))) = omega arith
fit w p is (suc (suc (suc (suc zero)))) = let few = is.1 in omega arith
fit w p is (suc (suc (suc (suc (suc zero))))) = omega arith
fit w p is (suc (suc (suc (suc (suc (suc zero)))))) = omega arith
fit w p is (suc (suc (suc (suc (suc (suc (suc zero))))))) = omega arith
fit w p is (suc (suc (suc (suc (suc (suc (suc (suc i)))))))) = is.0 i

record_is : (w : ℕ) (p : List ℕ) → IsPayload p → IsRecord (record_of w p)
record_is w p is =
    let few = is.1 in
    record {
      octets_fit = fit w p is;
      not_short = omega arith;
      not_long = omega arith;
      length_fits = few;
      not_cut = omega arith;
    }

word_back : (w : ℕ) (p : List ℕ) → w < 4294967296 → word_of (record_of w p) ≡ w
word_back w p fits = omega arith

is_said : (w : ℕ) (p : List ℕ) → w < 4294967296 → IsPayload p → said_word w ≡ w → said_payload w p ≡ p → IsSaid (record_of w p)
unfolding said_record
is_said w p fits is word carries =
    let carried : payload_of (record_of w p) ≡ p = take_all (length p) p (omega arith) in (
      record_is w p is,
      ap₂ (λ (v : ℕ) (q : List ℕ). record_of (said_word v) (said_payload v q)) (word_back w p fits) carried
          ∙ ap₂ record_of word carries,
    )

data_said : (w : ℕ) (p : List ℕ) → IsWord w → IsPayload p → IsSaid (record_of w p)
data_said w p (inl short) is =
    let plain : has_flag error w ≡ false = ne_eqb _ 1 (λ one. omega arith) in
    let eleven : has_flag extended w ≡ false = ne_eqb _ 1 (λ one. omega arith) in
    let near : has_flag remote w ≡ false = ne_eqb _ 1 (λ one. omega arith) in
    is_said w p (omega arith) is (rw (plain, eleven) (omega arith)) (rw near refl)
data_said w p (inr (inl long)) is =
    let least = long.0 in
    let most = long.1 in
    let plain : has_flag error w ≡ false = ne_eqb _ 1 (λ one. omega arith) in
    let all : has_flag extended w ≡ true = eq-eqb _ 1 (omega arith) in
    let near : has_flag remote w ≡ false = ne_eqb _ 1 (λ one. omega arith) in
    is_said w p (omega arith) is (rw (plain, all) refl) (rw near refl)
data_said w p (inr (inr fault)) is =
    let least = fault.0 in
    let most = fault.1 in
    let set : has_flag error w ≡ true = eq-eqb _ 1 (omega arith) in
    let near : has_flag remote w ≡ false = ne_eqb _ 1 (λ one. omega arith) in
    is_said w p (omega arith) is (rw set (omega arith)) (rw near refl)

zeros_small : (n : ℕ) → IsBytes (replicate n 0)
zeros_small zero i = omega arith
zeros_small (suc n) zero = omega arith
zeros_small (suc n) (suc i) = zeros_small n i

remote_word : (w n : ℕ) → IsWord w → n ≤ 8 → has_flag error w ≡ false → IsSaid (record_of (w + remote) (replicate n 0))
remote_word w n (inl short) few plain =
    let count : length (replicate n 0) ≡ n = length-replicate n 0 in
    let no_error : has_flag error (w + remote) ≡ false = ne_eqb _ 1 (λ one. omega arith) in
    let eleven : has_flag extended (w + remote) ≡ false = ne_eqb _ 1 (λ one. omega arith) in
    let far : has_flag remote (w + remote) ≡ true = eq-eqb _ 1 (omega arith) in
    is_said (w + remote) (replicate n 0) (omega arith) (zeros_small n, omega (arith, count))
    (rw (no_error, eleven) (omega arith)) (rw (far, no_error) (ap (λ (m : ℕ). replicate m 0) count))
remote_word w n (inr (inl long)) few plain =
    let least = long.0 in
    let most = long.1 in
    let count : length (replicate n 0) ≡ n = length-replicate n 0 in
    let no_error : has_flag error (w + remote) ≡ false = ne_eqb _ 1 (λ one. omega arith) in
    let all : has_flag extended (w + remote) ≡ true = eq-eqb _ 1 (omega arith) in
    let far : has_flag remote (w + remote) ≡ true = eq-eqb _ 1 (omega arith) in
    is_said (w + remote) (replicate n 0) (omega arith) (zeros_small n, omega (arith, count))
    (rw (no_error, all) refl) (rw (far, no_error) (ap (λ (m : ℕ). replicate m 0) count))
remote_word w n (inr (inr fault)) few plain =
    let least = fault.0 in
    let most = fault.1 in
    let unset = eqb-false (w / error % 2) 1 plain in
    absurd (unset (omega arith))

-- ---- what is read

short_is : (n : ℕ) → IfOk (short_word n) IsWord
short_is n =
    cond_both (nat_lt n 0x800) (Ok n) (Err WideId) (λ (r : Result ℕ LogRefusal). IfOk r IsWord)
    (λ yes. inl (ltb-true n 0x800 yes)) (λ no. tt)

error_is : (n : ℕ) → error ≤ n → IfOk (if nat_lt n remote then Ok n else Err WideId) IsWord
error_is n least =
    cond_both (nat_lt n remote) (Ok n) (Err WideId) (λ (r : Result ℕ LogRefusal). IfOk r IsWord)
    (λ yes. inr (inr (least, ltb-true n remote yes))) (λ no. tt)

long_is : (n : ℕ) → IfOk (long_word n) IsWord
long_is n =
    cond_both (nat_lt n error) (Ok (n + extended)) (if nat_lt n remote then Ok n else Err WideId)
    (λ (r : Result ℕ LogRefusal). IfOk r IsWord)
    (λ yes. let below = ltb-true n error yes in inr (inl (omega arith, omega arith)))
    (λ no. error_is n (ltb-false n error no))

eight_is : (digits : List ℕ) → IfOk (if length digits == 8 then long_word (spelled digits) else Err BadDigits) IsWord
eight_is digits =
    cond_both (length digits == 8) (long_word (spelled digits)) (Err BadDigits) (λ (r : Result ℕ LogRefusal). IfOk r IsWord)
    (λ yes. long_is (spelled digits)) (λ no. tt)

digits_are : (digits : List ℕ)
    → IfOk (if length digits == 3 then short_word (spelled digits)
    else if length digits == 8 then long_word (spelled digits) else Err BadDigits) IsWord
digits_are digits =
    cond_both (length digits == 3) (short_word (spelled digits))
    (if length digits == 8 then long_word (spelled digits) else Err BadDigits) (λ (r : Result ℕ LogRefusal). IfOk r IsWord)
    (λ yes. short_is (spelled digits)) (λ no. eight_is digits)

identifier_is : (digits : List ℕ) → IfOk (identifier digits) IsWord
identifier_is digits =
    cond_both (not (list_all is_hex_digit digits)) (Err NoDigit)
    (if length digits == 3 then short_word (spelled digits)
    else if length digits == 8 then long_word (spelled digits) else Err BadDigits) (λ (r : Result ℕ LogRefusal). IfOk r IsWord)
    (λ yes. tt) (λ no. digits_are digits)

pairs_small : (digits : List ℕ) → IsBytes (pairs digits)
pairs_small [] i = omega arith
pairs_small (c ∷ []) i = omega arith
pairs_small (c ∷ d ∷ cs) zero = let high = digit_small c in let low = digit_small d in omega arith
pairs_small (c ∷ d ∷ cs) (suc i) = pairs_small cs i

pairs_half : (digits : List ℕ) → 2 * length (pairs digits) ≤ length digits
pairs_half [] = omega arith
pairs_half (c ∷ []) = omega arith
pairs_half (c ∷ d ∷ cs) = let rest = pairs_half cs in omega arith

few_are : (text : List ℕ)
    → IfOk (if nat_lt 16 (length (without_dots text)) then Err BadLength else Ok (pairs (without_dots text))) IsPayload
few_are text =
    cond_both (nat_lt 16 (length (without_dots text))) (Err BadLength) (Ok (pairs (without_dots text)))
    (λ (r : Result (List ℕ) LogRefusal). IfOk r IsPayload) (λ yes. tt)
    (λ no.
    let few = ltb-false 16 (length (without_dots text)) no in
    let half = pairs_half (without_dots text) in
    (pairs_small (without_dots text), omega arith))

payload_is : (text : List ℕ) → IfOk (payload text) IsPayload
payload_is text =
    cond_both (length text == 0) (Ok [])
    (if not (list_all is_payload_character text) then Err NoDigit
    else if list_any is_bad_part (slice_split is_dot text) then Err OddDigits
    else if nat_lt 16 (length (without_dots text)) then Err BadLength else Ok (pairs (without_dots text)))
    (λ (r : Result (List ℕ) LogRefusal). IfOk r IsPayload)
    (λ none. ((λ i. omega arith), omega arith))
    (λ some.
    cond_both (not (list_all is_payload_character text)) (Err NoDigit)
    (if list_any is_bad_part (slice_split is_dot text) then Err OddDigits
    else if nat_lt 16 (length (without_dots text)) then Err BadLength else Ok (pairs (without_dots text)))
    (λ (r : Result (List ℕ) LogRefusal). IfOk r IsPayload) (λ yes. tt)
    (λ no.
    cond_both (list_any is_bad_part (slice_split is_dot text)) (Err OddDigits)
    (if nat_lt 16 (length (without_dots text)) then Err BadLength else Ok (pairs (without_dots text)))
    (λ (r : Result (List ℕ) LogRefusal). IfOk r IsPayload) (λ yes. tt) (λ no. few_are text)))

coded_is : (read : Result (List ℕ) LogRefusal) (code : List ℕ) → IfOk read IsPayload → IfOk (coded read code) IsPayload
coded_is (Err why) code is = tt
coded_is (Ok octets) code is =
    cond_both ((length octets == 8) && is_code code) (Ok octets) (Err BadCode)
    (λ (r : Result (List ℕ) LogRefusal). IfOk r IsPayload) (λ yes. is) (λ no. tt)

parts_are : (text : List ℕ) (parts : Option (List ℕ × List ℕ)) → IfOk (payload_and_code text parts) IsPayload
parts_are text None = payload_is text
parts_are text (Some parts) = coded_is (payload parts.0) parts.1 (payload_is parts.0)

with_said : (w : ℕ) (read : Result (List ℕ) LogRefusal) → IsWord w → IfOk read IsPayload → IfOk (with_word w read) IsSaid
with_said w (Err why) word is = tt
with_said w (Ok octets) word is = data_said w octets word is

length_is : (text : List ℕ) → IfSome (remote_length text) (λ n. n ≤ 8)
length_is [] = omega arith
length_is (c ∷ []) =
    cond_both (nat_le 48 c && nat_le c 56) (Some (c - 48)) None (λ (found : Option ℕ). IfSome found (λ n. n ≤ 8))
    (λ yes. let most = leb-true c 56 (and_parts (nat_le 48 c) (nat_le c 56) yes).1 in omega arith) (λ no. tt)
length_is (c ∷ d ∷ code) =
    cond_both (((c == 56) && (d == 95)) && is_code code) (Some 8) None (λ (found : Option ℕ). IfSome found (λ n. n ≤ 8))
    (λ yes. omega arith) (λ no. tt)

remote_said : (w : ℕ) (found : Option ℕ) → IsWord w → IfSome found (λ n. n ≤ 8) → IfOk (remote_of w found) IsSaid
remote_said w None word few = tt
remote_said w (Some n) word few =
    cond_both (has_flag error w) (Err BadRemote) (Ok (record_of (w + remote) (replicate n 0)))
    (λ (r : Result (List ℕ) LogRefusal). IfOk r IsSaid) (λ yes. tt) (λ no. remote_word w n word few no)

body_said : (w : ℕ) (text : List ℕ) → IsWord w → IfOk (body w text) IsSaid
body_said w text word =
    cond_both (is_letter_r (slice_index text 0)) (remote_of w (remote_length (drop 1 text))) (with_word w (coded_payload text))
    (λ (r : Result (List ℕ) LogRefusal). IfOk r IsSaid)
    (λ yes. remote_said w (remote_length (drop 1 text)) word (length_is (drop 1 text)))
    (λ no. with_said w (coded_payload text) word (parts_are text (parted 95 text)))

behind_said : (word : Result ℕ LogRefusal) (text : List ℕ) → IfOk word IsWord → IfOk (behind_identifier word text) IsSaid
behind_said (Err why) text is = tt
behind_said (Ok w) text is = body_said w text is

in_said : (parts : Option (List ℕ × List ℕ)) → IfOk (frame_in parts) IsSaid
in_said None = tt
in_said (Some parts) =
    cond_both (slice_index parts.1 0 == 35) (Err CanFd) (behind_identifier (identifier parts.0) parts.1)
    (λ (r : Result (List ℕ) LogRefusal). IfOk r IsSaid) (λ yes. tt)
    (λ no. behind_said (identifier parts.0) parts.1 (identifier_is parts.0))

read_is_said : (text : List ℕ) → IfOk (frame_of text) IsSaid
unfolding frame_of
read_is_said text = in_said (parted 35 text)

pub reads_and_writes : ReadsAndWrites
reads_and_writes text octets read =
    let is : IsSaid octets = subst (λ (r : Result (List ℕ) LogRefusal). IfOk r IsSaid) read (read_is_said text) in
    (is.1, writes_and_reads octets is.0 ∙ ap Ok is.1)
