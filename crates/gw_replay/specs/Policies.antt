-- What the texts of policies mean: a program's listing, and a table's text in hexadecimal digits.
use Rattle.std.specs.Prelude.{◌≡◌, ◌≢◌, ℕ, true, List, Result, Ok, Err, is_err}
use Rattle.std.specs.Str.{IsUtf8}
use Rattle.hex.specs.Hex.{decode_of}
use Rattle.gw_insn.specs.declared.reading.ListRefusal.TheVariants as list
use Rattle.gw_insn.specs.Listing.{IsListing, IsListRefusal}
use Rattle.gw_verify.specs.declared.cause.Cause.TheVariants as cause
use Rattle.gw_verify.specs.Flow.{forms_of}
use Rattle.gw_verify.specs.Accepted.{IsRefusal}
use Rattle.gw_table.specs.TableText.{IsTableRefusal}
use Rattle.gw_table.specs.declared.refusal.TableRefusal.TheVariants as table
use Rattle.gw_policy.specs.Filter.{Filter}
use Rattle.gw_input.specs.Programs.{IsProgramPolicy}
use Rattle.gw_input.specs.Tables.{IsTablePolicy}
use Rattle.gw_replay.specs.declared.fault.Fault.{Fault}
use Rattle.gw_replay.specs.declared.fault.Fault.TheVariants.{Listing, Program, NoHex, NoUtf8, Table}

-- the policy of a listing, or its refusal: that of the listing, else that of the code
abbrev pub IsProgramText : List ℕ → Result Filter Fault → Type 0
IsProgramText listing (Ok policy) = IsProgramPolicy listing policy
IsProgramText listing (Err (Listing why)) = IsListRefusal listing why × (why ≢ list.OutOfMemory)
IsProgramText listing (Err (Program refused)) =
    IsListing listing refused.code.items × IsRefusal (forms_of refused.code.items) refused.why refused.place
    × (refused.why ≢ cause.OutOfMemory)
IsProgramText listing _ = ⊥

-- the policy of a table's octets, or their refusal: 50 where they are no UTF-8, else that of the text
abbrev pub IsTableRead : List ℕ → Result Filter Fault → Type 0
IsTableRead octets (Ok policy) = IsTablePolicy octets policy
IsTableRead octets (Err NoUtf8) = IsUtf8 octets → ⊥
IsTableRead octets (Err (Table why)) = IsUtf8 octets × IsTableRefusal octets why × (why ≢ table.OutOfMemory)
IsTableRead octets _ = ⊥

-- the same of the digits that spell them: 97 where they are none
abbrev pub IsTableHex : List ℕ → Result Filter Fault → Type 0
IsTableHex hex (Err NoHex) = is_err (decode_of hex) ≡ true
IsTableHex hex read = (octets : List ℕ) × (decode_of hex ≡ Ok octets) × IsTableRead octets read
