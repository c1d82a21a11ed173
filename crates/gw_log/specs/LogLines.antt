-- The lines of a log: `(time) interface frame`, as `candump -l` writes them, a frame alone, and the display form of candump,
-- `can0  18FEF100   [2]  01 02`, and records in digits.
use Rattle.std.specs.Prelude.{ℕ, ◌+◌, ◌-◌, ◌%◌, Bool, true, false, not, ◌==◌, ◌&&◌, ◌||◌, nat_lt, nat_le, if◌then◌else◌}
use Rattle.std.specs.Prelude.{List, [], ◌∷◌, length, take, drop, slice_index, slice_index_or, codes, position}
use Rattle.std.specs.Prelude.{Option, Some, None, Result, Ok, Err}
use Rattle.std.specs.List.{list_any, list_all, filter, slice_split, flat_map, prefix_len}
use Rattle.std.specs.Str.{bytes_eq}
use Rattle.hex.specs.Hex.{is_hex_digit}
use Rattle.gw_frame.specs.declared.refusal.FrameRefusal.{FrameRefusal}
use Rattle.gw_frame.specs.Record.{refusal_of}
use Rattle.gw_log.specs.declared.refusal.LogRefusal.{LogRefusal}
use Rattle.gw_log.specs.declared.refusal.LogRefusal.TheVariants.{CanFd, OpenTime, NoFrame, WordsBefore, DigitsBehind, OddDigits}
use Rattle.gw_log.specs.declared.refusal.LogRefusal.TheVariants.{BadLength, LongLine}
use Rattle.gw_log.specs.LogFrames.{frame_of, identifier, pairs, with_word, remote_of}

-- space, tab, CR and LF, so that a line means the same with its end and without it
unfoldable pub is_blank : ℕ → Bool
is_blank c = ((c == 32) || (c == 9)) || ((c == 13) || (c == 10))

abbrev pub has_octets : List ℕ → Bool
has_octets [] = false
has_octets (c ∷ cs) = true

-- the words between blanks
unfoldable pub words_of : List ℕ → List (List ℕ)
words_of text = filter has_octets (slice_split is_blank text)

-- the word with an index, counted from 0, and no octets where there is none
abbrev pub word_at : List (List ℕ) → ℕ → List ℕ
word_at words index = slice_index_or words index []

-- what a line says: its time as it stands, brackets and all, or no octets; its interface, or no octets; and a record
pub record Entry : Type 0 where
  pub time : List ℕ
  pub interface : List ℕ
  pub octets : List ℕ

-- an entry; nothing; or why a line says neither
abbrev pub Reading : Type 0
Reading = Result (Option Entry) LogRefusal

abbrev pub entry : List ℕ → List ℕ → Result (List ℕ) LogRefusal → Reading
entry time interface (Err why) = Err why
entry time interface (Ok octets) = Ok (Some (record { time = time; interface = interface; octets = octets }))

-- a word of two hexadecimal digits or more, right behind a frame: a blank stands in its payload
abbrev pub is_torn : List ℕ → Bool
is_torn word = nat_le 2 (length word) && list_all is_hex_digit word

-- ---- `time interface frame`: the frame is the word with this index

abbrev pub logged : List ℕ → List (List ℕ) → ℕ → Reading
logged time words index =
    if nat_lt 1 index then Err WordsBefore
    else if is_torn (word_at words (index + 1)) then Err DigitsBehind
    else entry time (if index == 1 then word_at words 0 else []) (frame_of (word_at words index))

-- ---- the display form: the word with this index has the length in brackets

-- of CAN FD it has two digits
abbrev pub is_decimal : ℕ → Bool
is_decimal c = nat_le 48 c && nat_le c 57

abbrev pub bracketed : List ℕ → Result ℕ LogRefusal
bracketed (a ∷ n ∷ b ∷ []) = if (nat_le 48 n && nat_le n 56) && (b == 93) then Ok (n - 48) else Err BadLength
bracketed (a ∷ n ∷ m ∷ b ∷ []) = if (is_decimal n && is_decimal m) && (b == 93) then Err CanFd else Err BadLength
bracketed _ = Err BadLength

-- `RX` or `TX`, with two marks behind it, `-` where one is not set
abbrev pub is_direction : List ℕ → Bool
is_direction word = bytes_eq word (codes "RX") || bytes_eq word (codes "TX")

abbrev pub is_mark_of : ℕ → List ℕ → Bool
is_mark_of letter word = (length word == 1) && ((slice_index word 0 == 45) || (slice_index word 0 == letter))

abbrev pub has_direction : List (List ℕ) → Bool
has_direction words = is_direction (word_at words 1) && (is_mark_of 66 (word_at words 2) && is_mark_of 69 (word_at words 3))

-- interface and identifier, of the words before the brackets
abbrev pub named : List (List ℕ) → ℕ → Result (List ℕ × List ℕ) LogRefusal
named words index =
    if index == 0 then Err NoFrame
    else if index == 1 then Ok ([], word_at words 0)
    else if index == 2 then Ok (word_at words 0, word_at words 1)
    else if (index == 5) && has_direction words then Ok (word_at words 0, word_at words 4)
    else Err WordsBefore

-- the octets of n words from an index on, each of two digits
abbrev pub is_octet_word : List ℕ → Bool
is_octet_word word = (length word == 2) && list_all is_hex_digit word

abbrev pub octets_shown : List (List ℕ) → ℕ → ℕ → Result (List ℕ) LogRefusal
octets_shown words index n =
    let shown = take n (drop index words) in
    if nat_lt (length shown) n || not (list_all is_octet_word shown) then Err BadLength
    else if is_torn (word_at words (index + n)) then Err DigitsBehind
    else Ok (flat_map pairs shown)

abbrev pub is_request : List (List ℕ) → ℕ → Bool
is_request words index =
    bytes_eq (word_at words index) (codes "remote") && bytes_eq (word_at words (index + 1)) (codes "request")

abbrev pub shown_frame : Result ℕ LogRefusal → List (List ℕ) → ℕ → ℕ → Result (List ℕ) LogRefusal
shown_frame (Err why) words index n = Err why
shown_frame (Ok word) words index n =
    if is_request words index then remote_of word (Some n) else with_word word (octets_shown words index n)

abbrev pub shown_as : List ℕ → Result (List ℕ × List ℕ) LogRefusal → List (List ℕ) → ℕ → ℕ → Reading
shown_as time (Err why) words index n = Err why
shown_as time (Ok names) words index n = entry time names.0 (shown_frame (identifier names.1) words index n)

abbrev pub shown : List ℕ → List (List ℕ) → ℕ → Result ℕ LogRefusal → Reading
shown time words index (Err why) = Err why
shown time words index (Ok n) = shown_as time (named words index) words (index + 1) n

abbrev pub displayed : List ℕ → List (List ℕ) → ℕ → Reading
displayed time words index = shown time words index (bracketed (word_at words index))

-- ---- a record in digits, alone or behind a time

-- a record has 8 octets at least, of two digits each
abbrev pub is_recorded : List ℕ → Bool
is_recorded word = nat_le 16 (length word) && list_all is_hex_digit word

abbrev pub record_in : List ℕ → Option FrameRefusal → Result (List ℕ) LogRefusal
record_in octets None = Ok octets
record_in octets (Some why) = Err BadLength

-- and 16 at most
abbrev pub recorded : List ℕ → Result (List ℕ) LogRefusal
recorded word =
    if length word % 2 == 1 then Err OddDigits
    else if nat_lt 32 (length word) then Err BadLength
    else record_in (pairs word) (refusal_of (pairs word))

abbrev pub alone : List ℕ → List (List ℕ) → Reading
alone time words =
    if is_recorded (word_at words 0) && not (has_octets (word_at words 1)) then entry time [] (recorded (word_at words 0))
    else Err NoFrame

-- ---- a line

-- the first word that has a `#` or begins with `[` tells the form; where there is none, a record may stand
unfoldable pub is_marked : List ℕ → Bool
is_marked word = (slice_index word 0 == 91) || list_any (λ c. c == 35) word

abbrev pub in_form : List ℕ → List (List ℕ) → Option ℕ → Reading
in_form time words None = alone time words
in_form time words (Some index) =
    if slice_index (word_at words index) 0 == 91 then displayed time words index else logged time words index

abbrev pub in_words : List ℕ → List (List ℕ) → Reading
in_words time words = in_form time words (position is_marked words)

-- a time ends at the first `)`
abbrev pub timed_to : List ℕ → Option ℕ → Reading
timed_to text None = Err OpenTime
timed_to text (Some at) = in_words (take (at + 1) text) (words_of (drop (at + 1) text))

abbrev pub timed : List ℕ → Reading
timed text = timed_to text (position (λ c. c == 41) text)

-- no octets, and a comment behind `#`, say nothing
abbrev pub said : List ℕ → Reading
said text =
    if (length text == 0) || (slice_index text 0 == 35) then Ok None
    else if slice_index text 0 == 40 then timed text
    else in_words [] (words_of text)

abbrev pub behind_blanks : List ℕ → List ℕ
behind_blanks text = drop (prefix_len is_blank text) text

-- 'line_of': what a line says, with its end or without it; it has at most 65536 octets
unfoldable pub line_of : List ℕ → Reading
line_of line = if nat_lt 65536 (length line) then Err LongLine else said (behind_blanks line)
