-- What the command `claims` answers and refuses: its input has one record a line, in hexadecimal digits, and empty lines.
use Rattle.std.specs.Prelude.{◌≡◌, ℕ, suc, ◌-◌, ◌==◌, Bool, false, not, ◌&&◌, if◌then◌else◌, List, [], ◌∷◌, ◌++◌, length}
use Rattle.std.specs.Prelude.{replicate, reverse, decimal, Option, Some, None, is_none, slice_get, position}
use Rattle.std.specs.List.{filter_map, flat_map, list_any, range_with_len}
use Rattle.std.specs.Option.{option_and_then, option_map_or}
use Rattle.std.specs.Result.{result_ok}
use Rattle.std.specs.Fmt.{digits}
use Rattle.hex.specs.Hex.{decode_of}
use Rattle.gw_frame.specs.Record.{refusal_of}
use Rattle.gw_claims.specs.Holders.{holder_of, HoldsAfter}
use Rattle.gw_answers.specs.declared.answer.Answer.{Answer}
use Rattle.gw_answers.specs.declared.answer.Answer.TheVariants.{Text}
use Rattle.gw_input.specs.declared.records.RecordFault.{RecordFault}
use Rattle.gw_answers.specs.declared.refusal.Refusal.{Refusal}
use Rattle.gw_answers.specs.declared.refusal.Refusal.TheVariants.{RecordOnLine, OutOfMemory}
use Rattle.gw_input.specs.Lines.{lines_of}
use Rattle.gw_input.specs.Records.{IsRecordFault}

-- octets, where they are a record
abbrev pub if_record : List ℕ → Option (List ℕ)
if_record octets = if is_none (refusal_of octets) then Some octets else None

abbrev pub is_blank : List ℕ → Bool
is_blank line = length line == 0

-- the record that a line names; an empty line names none
abbrev pub record_on : List ℕ → Option (List ℕ)
record_on line = if is_blank line then None else option_and_then if_record (result_ok (decode_of line))

-- a line that is to name a record and does not
abbrev pub is_bad : List ℕ → Bool
is_bad line = not (is_blank line) && is_none (record_on line)

abbrev pub records_on : List (List ℕ) → List (List ℕ)
records_on lines = filter_map record_on lines

-- what was heard, newest first, with the record that one more line names
abbrev pub heard_on : List ℕ → List (List ℕ) → List (List ℕ)
heard_on line heard = option_map_or (λ octets. octets ∷ heard) (record_on line) heard

-- a NAME in 16 hexadecimal digits
abbrev pub name_digits : ℕ → List ℕ
name_digits name = replicate (16 - length (digits 16 false name)) 48 ++ digits 16 false name

-- the line of an address and the NAME that holds it
abbrev pub holder_line : ℕ → ℕ → List ℕ
holder_line address name = decimal address ++ 32 ∷ name_digits name ++ 10 ∷ []

-- the lines of the addresses that are held, in ascending order
abbrev pub line_at : List (Option ℕ) → ℕ → List ℕ
line_at table address = option_map_or (holder_line address) (holder_of table address) []

unfoldable pub holder_lines : List (Option ℕ) → List ℕ
holder_lines table = flat_map (line_at table) (range_with_len 0 254)

-- the holders after the records that the lines name, the last one heard newest, where no line is bad
pub record IsHeld (input lines : List ℕ) : Type 0 where
  pub table : List (Option ℕ)
  pub heard : HoldsAfter table (reverse (records_on (lines_of input)))
  pub good : list_any is_bad (lines_of input) ≡ false
  pub all : lines ≡ holder_lines table

abbrev pub AnswersClaims : List ℕ → Answer → Type 0
AnswersClaims input (Text lines) = IsHeld input lines.items
AnswersClaims input _ = ⊥

-- the first bad line, counted from 1, and what is wrong with it
pub record IsFirstBad (input : List ℕ) (number : ℕ) (fault : RecordFault) : Type 0 where
  pub place : ℕ
  pub line : List ℕ
  pub first : position is_bad (lines_of input) ≡ Some place
  pub there : slice_get (lines_of input) place ≡ Some line
  pub counted : number ≡ suc place
  pub bad : IsRecordFault line fault

-- memory may be wanting for the answer alone
abbrev pub RefusesClaims : List ℕ → Refusal → Type 0
RefusesClaims input (RecordOnLine number fault) = IsFirstBad input number fault
RefusesClaims input OutOfMemory = list_any is_bad (lines_of input) ≡ false
RefusesClaims input _ = ⊥
