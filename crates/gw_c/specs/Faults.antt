-- Why a text or code gives no policy, and what C is told: the number of the refusal, what it names, and a message.
use Rattle.std.specs.Prelude.{ℕ, ◌≡◌, ◌++◌, ◌-◌, ◌≤◌, min, List, [], length, take, replicate, Option, Some}
use Rattle.std.specs.Option.{option_map_or}
use Rattle.std.specs.Str.{IsUtf8}
use Rattle.gw_insn.specs.declared.reading.ListRefusal.{ListRefusal}
use Rattle.gw_insn.specs.declared.reading.ListRefusal.TheVariants.{BadField}
use Rattle.gw_insn.specs.Listing.{refusal_number as listing_number}
use Rattle.gw_verify.specs.declared.cause.Cause.{Cause}
use Rattle.gw_verify.specs.declared.cause.Cause.TheVariants as cause
use Rattle.gw_verify.specs.Cause.{cause_number}
use Rattle.gw_text.specs.declared.refusal.AsmRefusal.{AsmRefusal}
use Rattle.gw_text.specs.Assembly.{refusal_line, refusal_number as assembler_number}
use Rattle.gw_table.specs.declared.refusal.TableRefusal.{TableRefusal}
use Rattle.gw_table.specs.TableText.{refusal_number as table_number}
use Rattle.gw_input.specs.declared.places.Place.{Place}
use Rattle.gw_input.specs.Refused.{refused_rule}
use Rattle.gw_c.specs.declared.fault.Fault.{Fault}
use Rattle.gw_c.specs.declared.fault.Fault.TheVariants.{NotUtf8, Listing, Code, Assembler, Table, OutOfMemory}
use Rattle.gw_c.specs.declared.fault.Names.{Names}
use Rattle.gw_c.specs.declared.fault.Told.{Told}

-- stands for a line, column, place, word or rule that a refusal does not name
abbrev pub nowhere : ℕ
nowhere = 4294967295

-- a refusal that names none
abbrev pub bare : ℕ → Names
bare number =
    record { number = number; line = nowhere; column = nowhere; place = nowhere; word = nowhere; rule = nowhere }

-- a count in 32 bits
abbrev pub counted : ℕ → ℕ
counted n = min n nowhere

-- of a listing, the instruction that is not there
abbrev pub listing_names : ListRefusal → Names
listing_names (BadField index) = record (bare 11) { place = counted index }
listing_names why = bare (listing_number why)

-- of code, the instruction, and a scratch word that may be unset
abbrev pub code_names : Cause → ℕ → Names
code_names (cause.UnsetWord word) place = record (bare 29) { place = counted place; word = word }
code_names cause.OutOfMemory place = bare 30
code_names why place = record (bare (cause_number why)) { place = counted place }

-- of assembler text, the line
abbrev pub assembler_names : AsmRefusal → Names
assembler_names why = record (bare (assembler_number why)) { line = option_map_or counted (refusal_line why) nowhere }

-- of a table, the line, the column and the rule
abbrev pub table_names : TableRefusal → Option Place → Names
table_names why place = record (bare (table_number why)) {
  line = option_map_or (λ at. counted at.line) place nowhere;
  column = option_map_or (λ at. counted at.column) place nowhere;
  rule = option_map_or counted (refused_rule why) nowhere;
}

abbrev pub names_of : Fault → Names
names_of NotUtf8 = bare 120
names_of (Listing why) = listing_names why
names_of (Code refused path) = code_names refused.why refused.place
names_of (Assembler why) = assembler_names why
names_of (Table why place) = table_names why place
names_of OutOfMemory = bare 100

-- the places of the path that shows why code is refused; there is none for the other refusals
abbrev pub path_of : Fault → List ℕ
path_of (Code refused (Some path)) = path.places.items
path_of _ = []

-- the first places of a path, of as many as C is told, with 0 behind the last
abbrev pub first_places : List ℕ → List ℕ
first_places places = take 32 places ++ replicate (32 - length places) 0

-- a text in UTF-8 with octets of 0 behind it, the last of the array among them
pub record IsMessage (octets : List ℕ) : Type 0 where
  pub text : List ℕ
  pub utf8 : IsUtf8 text
  pub ended : length text ≤ 255
  pub padded : octets ≡ text ++ replicate (256 - length text) 0

-- C was told of a fault
pub record Tells (why : Fault) (told : Told) : Type 0 where
  pub names : told.names ≡ names_of why
  pub steps : told.steps ≡ counted (length (path_of why))
  pub path : told.path ≡ first_places (path_of why)
  pub message : IsMessage told.message

-- of one that there is
pub record IsTold (Is : Fault → Type 0) (told : Told) : Type 0 where
  pub why : Fault
  pub holds : Is why
  pub tells : Tells why told
