-- What refuses the text of a listing, and that of a table.
use Rattle.std.specs.Prelude.{◌≡◌, ℕ, List, Option, None, MatchOption}
use Rattle.std.specs.Str.{IsUtf8}
use Rattle.gw_insn.specs.Listing.{IsListing, IsListRefusal}
use Rattle.gw_verify.specs.declared.cause.Cause.{Cause}
use Rattle.gw_verify.specs.declared.cause.Cause.TheVariants.{UnsetWord}
use Rattle.gw_verify.specs.declared.path.Path.{Path}
use Rattle.gw_verify.specs.Flow.{Forms, forms_of, IsBarePathTo}
use Rattle.gw_verify.specs.Accepted.{IsRefusal}
use Rattle.gw_table.specs.Table.{Meaning}
use Rattle.gw_table.specs.TableText.{IsTableRefusal}
use Rattle.gw_input.specs.Places.{IsToldPlace}
use Rattle.gw_input.specs.Tables.{IsTable}
use Rattle.gw_answers.specs.declared.refusal.Refusal.{Refusal}
use Rattle.gw_answers.specs.declared.refusal.Refusal.TheVariants.{Listing, Program, NotUtf8, Table, OutOfMemory}

-- a path that leaves the word unset: for an unset word alone, and none where memory was wanting for it
abbrev pub IsPathFor : Cause → Forms → ℕ → Option Path → Type 0
IsPathFor (UnsetWord word) forms place path =
    MatchOption path (Unit {0}) (λ found. IsBarePathTo forms found.places.items place word)
IsPathFor _ forms place path = path ≡ None

-- what refuses a listing: its own refusal, or that of the code that it lists
abbrev pub IsProgramRefusal : List ℕ → Refusal → Type 0
IsProgramRefusal listing (Listing why) = IsListRefusal listing why
IsProgramRefusal listing (Program refused path) =
    IsListing listing refused.code.items × IsRefusal (forms_of refused.code.items) refused.why refused.place
    × IsPathFor refused.why (forms_of refused.code.items) refused.place path
IsProgramRefusal listing _ = ⊥

-- what refuses a table's text; memory may be wanting for the listing of a table
abbrev pub RefusesText : List ℕ → Refusal → Type 0
RefusesText input NotUtf8 = IsUtf8 input → ⊥
RefusesText input (Table why place) = IsUtf8 input × IsTableRefusal input why × IsToldPlace input why place
RefusesText input OutOfMemory = (table : Meaning) × IsTable input table
RefusesText input _ = ⊥
