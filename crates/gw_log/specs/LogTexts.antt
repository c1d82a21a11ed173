-- The other way: a record in candump's form, and what a log says of a record.
use Rattle.std.specs.Prelude.{◌≡◌, ℕ, ◌+◌, ◌*◌, ◌/◌, ◌%◌, Bool, not, ◌==◌, ◌&&◌, if◌then◌else◌}
use Rattle.std.specs.Prelude.{List, [], ◌∷◌, ◌++◌, length, replicate, slice_index, Ok}
use Rattle.byteorder.specs.Endian.{big_bytes}
use Rattle.hex.specs.Hex.{encode_upper, upper_digits}
use Rattle.gw_frame.specs.Record.{IsRecord, word_of, payload_of}
use Rattle.gw_log.specs.LogFrames.{extended, remote, error, has_flag, record_of, frame_of}

abbrev pub upper_digit : ℕ → ℕ
upper_digit v = slice_index upper_digits v

abbrev pub three_digits : ℕ → List ℕ
three_digits n = upper_digit (n / 256) ∷ upper_digit (n / 16 % 16) ∷ upper_digit (n % 16) ∷ []

-- an error frame's word below 0x40000000, an extended one's 29 bits, or 11 bits
abbrev pub identifier_text : ℕ → List ℕ
identifier_text word =
    if has_flag error word then encode_upper (big_bytes 4 (word % remote))
    else if has_flag extended word then encode_upper (big_bytes 4 (word % error))
    else three_digits (word % 0x800)

-- an error frame is never remote in a log
abbrev pub is_remote : ℕ → Bool
is_remote word = has_flag remote word && not (has_flag error word)

abbrev pub length_text : ℕ → List ℕ
length_text n = if n == 0 then [] else (48 + n) ∷ []

abbrev pub body_text : ℕ → List ℕ → List ℕ
body_text word payload = if is_remote word then 82 ∷ length_text (length payload) else encode_upper payload

-- 'text_of': a record in candump's form, in capitals and without dots
unfoldable pub text_of : List ℕ → List ℕ
text_of octets = identifier_text (word_of octets) ++ 35 ∷ body_text (word_of octets) (payload_of octets)

-- the word that a log can say: the flags and the bits that its form has digits for
abbrev pub said_word : ℕ → ℕ
said_word word =
    if has_flag error word then word % remote
    else if has_flag extended word then word
    else word / remote * remote + word % 0x800

-- what a log says in a record's place: no padding, zeros in octets 5 to 7 and for the octets of a remote frame
abbrev pub said_payload : ℕ → List ℕ → List ℕ
said_payload word payload = if is_remote word then replicate (length payload) 0 else payload

unfoldable pub said_record : List ℕ → List ℕ
said_record octets = record_of (said_word (word_of octets)) (said_payload (word_of octets) (payload_of octets))

-- what was written reads back as what a log says in the record's place
abbrev pub WritesAndReads : Type 0
WritesAndReads = (octets : List ℕ) → IsRecord octets → frame_of (text_of octets) ≡ Ok (said_record octets)

-- what was read is what a log says: written, it reads back as itself
abbrev pub ReadsAndWrites : Type 0
ReadsAndWrites =
    (text octets : List ℕ) → frame_of text ≡ Ok octets
    → (said_record octets ≡ octets) × (frame_of (text_of octets) ≡ Ok octets)
