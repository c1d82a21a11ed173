-- Records as text: hexadecimal digits, two for an octet, of either case.
use Rattle.std.specs.Prelude.{◌≡◌, ℕ, true, not, List, length, Option, Some, None, slice_get, position, Result, Ok, Err, is_err}
use Rattle.std.specs.Prelude.{MatchResult}
use Rattle.hex.specs.Hex.{decode_of, is_hex_digit}
use Rattle.hex.specs.declared.error.FromHexError.TheVariants.{OddLength}
use Rattle.gw_frame.specs.Record.{IsRecord, refusal_of, refusal_number}
use Rattle.gw_input.specs.declared.records.RecordFault.{RecordFault}
use Rattle.gw_input.specs.declared.records.RecordFault.TheVariants.{NoDigit, OddDigits, NoRecord}

-- the digits of a record's octets
pub record NamesRecord (text : List ℕ) (octets : List ℕ) : Type 0 where
  pub hex : decode_of text ≡ Ok octets
  pub valid : IsRecord octets

-- where the first octet stands that is no digit
abbrev pub first_no_digit : List ℕ → Option ℕ
first_no_digit text = position (λ c. not (is_hex_digit c)) text

-- why a text names no record: an octet that is no digit comes before the number of digits, and both before the octets
abbrev pub IsRecordFault : List ℕ → RecordFault → Type 0
IsRecordFault text (NoDigit at octet) =
    (is_err (decode_of text) ≡ true) × (first_no_digit text ≡ Some at) × (slice_get text at ≡ Some octet)
IsRecordFault text (OddDigits digits) = (decode_of text ≡ Err OddLength) × (first_no_digit text ≡ None) × (digits ≡ length text)
IsRecordFault text (NoRecord why) = (octets : List ℕ) × (decode_of text ≡ Ok octets) × (refusal_of octets ≡ Some why)

-- the number by which such a text is told
abbrev pub record_number : RecordFault → ℕ
record_number (NoDigit at octet) = 97
record_number (OddDigits digits) = 97
record_number (NoRecord why) = refusal_number why

-- a text that names a record, or why it names none
abbrev pub IsRecordText : List ℕ → Result (List ℕ) RecordFault → Type 0
IsRecordText text read = MatchResult read (NamesRecord text) (IsRecordFault text)
