-- candump's form of a frame: `18FEF100#0102`, `123#R3`. The identifier has three digits, or eight: extended, or an error frame
-- where 0x20000000 is set.
use Rattle.std.specs.Prelude.{ℕ, ◌+◌, ◌*◌, ◌/◌, ◌%◌, ◌-◌, Bool, false, not, ◌==◌, ◌&&◌, ◌||◌, nat_lt, nat_le, if◌then◌else◌}
use Rattle.std.specs.Prelude.{List, [], ◌∷◌, ◌++◌, length, take, drop, replicate, slice_index, fold, filter, position}
use Rattle.std.specs.Prelude.{Option, Some, None, unwrap_or, option_map, Result, Ok, Err}
use Rattle.std.specs.List.{list_any, list_all, slice_split}
use Rattle.byteorder.specs.Endian.{big_bytes}
use Rattle.hex.specs.Hex.{hex_digit_value, is_hex_digit}
use Rattle.gw_log.specs.declared.refusal.LogRefusal.{LogRefusal}
use Rattle.gw_log.specs.declared.refusal.LogRefusal.TheVariants.{CanFd, NoFrame, NoDigit, BadDigits, WideId, OddDigits}
use Rattle.gw_log.specs.declared.refusal.LogRefusal.TheVariants.{BadLength, BadRemote, BadCode}
use Rattle.gw_log.specs.declared.refusal.LogRefusal.TheVariants.{OpenTime, WordsBefore, DigitsBehind, LongLine}

-- the flags of an identifier word
abbrev pub extended : ℕ
extended = 0x80000000

abbrev pub remote : ℕ
remote = 0x40000000

abbrev pub error : ℕ
error = 0x20000000

abbrev pub has_flag : ℕ → ℕ → Bool
has_flag flag word = word / flag % 2 == 1

-- the record of an identifier word and a payload
abbrev pub record_of : ℕ → List ℕ → List ℕ
record_of word payload = big_bytes 4 word ++ length payload ∷ 0 ∷ 0 ∷ 0 ∷ payload

-- what stands before the first octet of this value and behind it
abbrev pub parted : ℕ → List ℕ → Option (List ℕ × List ℕ)
parted octet text = option_map (λ at. (take at text, drop (at + 1) text)) (position (λ c. c == octet) text)

unfoldable pub digit : ℕ → ℕ
digit c = unwrap_or (hex_digit_value c) 0

-- the number that digits spell
abbrev pub spelled : List ℕ → ℕ
spelled digits = fold (λ n c. 16 * n + digit c) 0 digits

-- the octets that digits spell, two an octet
abbrev pub pairs : List ℕ → List ℕ
pairs [] = []
pairs (c ∷ []) = []
pairs (c ∷ d ∷ cs) = (16 * digit c + digit d) ∷ pairs cs

-- the identifier word of the number that three digits spell
abbrev pub short_word : ℕ → Result ℕ LogRefusal
short_word n = if nat_lt n 0x800 then Ok n else Err WideId

-- the identifier word of the number that eight digits spell
abbrev pub long_word : ℕ → Result ℕ LogRefusal
long_word n =
    if nat_lt n error then Ok (n + extended)
    else if nat_lt n remote then Ok n
    else Err WideId

abbrev pub identifier : List ℕ → Result ℕ LogRefusal
identifier digits =
    if not (list_all is_hex_digit digits) then Err NoDigit
    else if length digits == 3 then short_word (spelled digits)
    else if length digits == 8 then long_word (spelled digits)
    else Err BadDigits

-- a payload: octets of two digits each, with a dot between octets wherever one likes
abbrev pub is_dot : ℕ → Bool
is_dot c = c == 46

abbrev pub is_payload_character : ℕ → Bool
is_payload_character c = is_hex_digit c || is_dot c

-- between dots stand octets, one at least
abbrev pub is_bad_part : List ℕ → Bool
is_bad_part part = (length part == 0) || (length part % 2 == 1)

abbrev pub without_dots : List ℕ → List ℕ
without_dots text = filter (λ c. not (is_dot c)) text

abbrev pub payload : List ℕ → Result (List ℕ) LogRefusal
payload text =
    if length text == 0 then Ok []
    else if not (list_all is_payload_character text) then Err NoDigit
    else if list_any is_bad_part (slice_split is_dot text) then Err OddDigits
    else if nat_lt 16 (length (without_dots text)) then Err BadLength
    else Ok (pairs (without_dots text))

-- a raw length code stands behind `_`; the record has no place for it
abbrev pub is_code : List ℕ → Bool
is_code [] = false
is_code (c ∷ []) = nat_le 9 (digit c)
is_code (c ∷ d ∷ more) = false

abbrev pub coded : Result (List ℕ) LogRefusal → List ℕ → Result (List ℕ) LogRefusal
coded (Err why) code = Err why
coded (Ok octets) code = if (length octets == 8) && is_code code then Ok octets else Err BadCode

abbrev pub payload_and_code : List ℕ → Option (List ℕ × List ℕ) → Result (List ℕ) LogRefusal
payload_and_code text None = payload text
payload_and_code text (Some parts) = coded (payload parts.0) parts.1

abbrev pub coded_payload : List ℕ → Result (List ℕ) LogRefusal
coded_payload text = payload_and_code text (parted 95 text)

abbrev pub with_word : ℕ → Result (List ℕ) LogRefusal → Result (List ℕ) LogRefusal
with_word word (Err why) = Err why
with_word word (Ok octets) = Ok (record_of word octets)

-- the length behind an `R`
abbrev pub remote_length : List ℕ → Option ℕ
remote_length [] = Some 0
remote_length (c ∷ []) = if nat_le 48 c && nat_le c 56 then Some (c - 48) else None
remote_length (c ∷ d ∷ code) = if ((c == 56) && (d == 95)) && is_code code then Some 8 else None

-- a remote frame's record has zeros for its payload
abbrev pub remote_of : ℕ → Option ℕ → Result (List ℕ) LogRefusal
remote_of word None = Err BadRemote
remote_of word (Some n) =
    if has_flag error word then Err BadRemote else Ok (record_of (word + remote) (replicate n 0))

abbrev pub is_letter_r : ℕ → Bool
is_letter_r c = (c == 82) || (c == 114)

abbrev pub body : ℕ → List ℕ → Result (List ℕ) LogRefusal
body word text =
    if is_letter_r (slice_index text 0) then remote_of word (remote_length (drop 1 text))
    else with_word word (coded_payload text)

abbrev pub behind_identifier : Result ℕ LogRefusal → List ℕ → Result (List ℕ) LogRefusal
behind_identifier (Err why) text = Err why
behind_identifier (Ok word) text = body word text

abbrev pub frame_in : Option (List ℕ × List ℕ) → Result (List ℕ) LogRefusal
frame_in None = Err NoFrame
frame_in (Some parts) =
    if slice_index parts.1 0 == 35 then Err CanFd else behind_identifier (identifier parts.0) parts.1

-- 'frame_of': the record that a text in candump's form means, or the first refusal
unfoldable pub frame_of : List ℕ → Result (List ℕ) LogRefusal
frame_of text = frame_in (parted 35 text)

-- the number by which a refusal is told
abbrev pub refusal_number : LogRefusal → ℕ
refusal_number CanFd = 101
refusal_number OpenTime = 102
refusal_number NoFrame = 103
refusal_number WordsBefore = 104
refusal_number DigitsBehind = 105
refusal_number NoDigit = 106
refusal_number BadDigits = 107
refusal_number WideId = 108
refusal_number OddDigits = 109
refusal_number BadLength = 110
refusal_number BadRemote = 111
refusal_number BadCode = 112
refusal_number LongLine = 113
