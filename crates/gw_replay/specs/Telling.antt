-- What a script tells of the texts in its commands: a policy or the octets of a record, or why there are none.
use Rattle.std.specs.Prelude.{◌≡◌, ◌≢◌, ◌⊎◌, ℕ, Bool, true, false, nat_le, if◌then◌else◌, List, [], ◌∷◌, length}
use Rattle.std.specs.Prelude.{Option, Some, None, Result, Ok, Err}
use Rattle.std.specs.Option.{option_map_or}
use Rattle.std.specs.Str.{is_utf8}
use Rattle.hex.specs.Hex.{decode_of}
use Rattle.hex.specs.declared.error.FromHexError.{FromHexError}
use Rattle.toml.specs.Data.{Data, Members}
use Rattle.toml.specs.Parse.{parse_document}
use Rattle.gw_frame.specs.Record.{refusal_of, refusal_number}
use Rattle.gw_insn.specs.declared.insn.Raw.{Raw}
use Rattle.gw_insn.specs.declared.reading.ListRefusal.{ListRefusal}
use Rattle.gw_insn.specs.declared.reading.ListRefusal.TheVariants as list
use Rattle.gw_insn.specs.Listing.{IsListing, IsListRefusal}
use Rattle.gw_insn.specs.Listing as listing
use Rattle.gw_verify.specs.declared.cause.Cause.{Cause}
use Rattle.gw_verify.specs.declared.cause.Cause.TheVariants as cause
use Rattle.gw_verify.specs.Cause.{cause_number}
use Rattle.gw_verify.specs.Flow.{forms_of}
use Rattle.gw_verify.specs.Accepted.{IsRefusal}
use Rattle.gw_table.specs.Table.{Meaning}
use Rattle.gw_table.specs.TableText.{written_rules, unknown_key, bad_action, bad_range, meaning_in}
use Rattle.gw_table.specs.Emission.{emission}
use Rattle.gw_table.specs.declared.table.Part.{Part}
use Rattle.gw_table.specs.declared.refusal.KeyLocation.{KeyLocation}
use Rattle.gw_table.specs.declared.refusal.ActionFault.{ActionFault}
use Rattle.gw_table.specs.declared.refusal.Field.{Field}
use Rattle.gw_table.specs.declared.refusal.RangeFault.{RangeFault}
use Rattle.gw_policy.specs.Filter.{Filter}
use Rattle.gw_input.specs.Programs.{IsProgramPolicy}
use Rattle.gw_input.specs.Refused.{listing_details, cause_details, refused_line}

-- programs

-- the line of a text that is no listing
pub record TellsListing (text line : List ℕ) : Type 0 where
  pub why : ListRefusal
  pub refusal : IsListRefusal text why
  pub known : why ≢ list.OutOfMemory
  pub told : line ≡ refused_line (listing.refusal_number why) (listing_details why)

-- the line of a listing whose code is refused
pub record TellsCode (text line : List ℕ) : Type 0 where
  pub code : List Raw
  pub why : Cause
  pub place : ℕ
  pub listed : IsListing text code
  pub refusal : IsRefusal (forms_of code) why place
  pub known : why ≢ cause.OutOfMemory
  pub told : line ≡ refused_line (cause_number why) (cause_details why place)

-- the policy of a program's text, or the line of its refusal: that of the listing, else that of the code
abbrev pub TellsProgram : List ℕ → Result Filter (List ℕ) → Type 0
TellsProgram text (Ok policy) = IsProgramPolicy text policy
TellsProgram text (Err line) = TellsListing text line ⊎ TellsCode text line

-- tables

-- what a table means, or the number of its refusal with what stands behind it
abbrev pub Found : Type 0
Found = Result Meaning (ℕ × List ℕ)

-- by what is wrong with a document, the first first: its keys, its actions, its ranges, and too many rules
abbrev pub judged : Option (KeyLocation × List ℕ) → Option (Part × ActionFault) → Option (ℕ × (Field × RangeFault)) → Bool
    → Meaning → Found
judged (Some key) action range few meaning = Err (51, [])
judged None (Some action) range few meaning = Err (52, [])
judged None None (Some range) few meaning = Err (53, range.0 ∷ [])
judged None None None true meaning = Ok meaning
judged None None None false meaning = Err (54, [])

-- of a document by its rules, if it has any
abbrev pub found_in : Members → Option (List Data) → Found
found_in document None = Err (51, [])
found_in document (Some rules) =
    judged (unknown_key document rules) (bad_action document rules) (bad_range rules) (nat_le (length rules) 256)
    (meaning_in document rules)

abbrev pub found_of : Members → Found
found_of document = found_in document (written_rules document)

-- of octets: 50 where they are no document in UTF-8
abbrev pub table_found : List ℕ → Found
table_found octets = if is_utf8 octets then option_map_or found_of (parse_document octets) (Err (50, [])) else Err (50, [])

abbrev pub told_found : Found → Result Filter (List ℕ)
told_found (Ok meaning) = Ok (record { code = emission meaning; table = Some meaning })
told_found (Err why) = Err (refused_line why.0 why.1)

abbrev pub told_octets : Result (List ℕ) FromHexError → Result Filter (List ℕ)
told_octets (Ok octets) = told_found (table_found octets)
told_octets (Err e) = Err (refused_line 97 [])

-- the policy of a table's text in hexadecimal digits, or the line of its refusal: 97 where they are none
abbrev pub table_told : List ℕ → Result Filter (List ℕ)
table_told hex = told_octets (decode_of hex)

-- records

-- octets, or the number of their refusal as a record
abbrev pub judged_record : List ℕ → Result (List ℕ) ℕ
judged_record octets = option_map_or (λ why. Err (refusal_number why)) (refusal_of octets) (Ok octets)

abbrev pub spelled_record : Result (List ℕ) FromHexError → Result (List ℕ) ℕ
spelled_record (Ok octets) = judged_record octets
spelled_record (Err e) = Err 97

-- a record's octets, or the number of its text's refusal: 97 where it is no hexadecimal digits
abbrev pub record_told : List ℕ → Result (List ℕ) ℕ
record_told hex = spelled_record (decode_of hex)
