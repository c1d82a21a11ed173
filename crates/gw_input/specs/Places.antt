-- Where a table's text is refused: the line of a key, its column, and what stands behind octets.
use Rattle.std.specs.Prelude.{◌≡◌, ℕ, ◌+◌, ◌-◌, ◌<◌, ◌⊎◌, Bool, not, ◌==◌, ◌||◌, ◌&&◌, List, [], codes, length, drop, take}
use Rattle.std.specs.Prelude.{Option, Some, None, MatchOption, option_map, slice_index, string_bytes}
use Rattle.std.specs.Option.{option_map_or, option_or}
use Rattle.std.specs.List.{count_by, find, flat_map, position_or_len, range_with_len, slice_index_or, starts_with}
use Rattle.memchr.specs.Find.{is_byte, IsLastByte}
use Rattle.toml.specs.Errors.{IsMemory, span_start}
use Rattle.gw_table.specs.TableText.{key_of}
use Rattle.gw_table.specs.declared.table.Part.{Part}
use Rattle.gw_table.specs.declared.table.Part.TheVariants as part
use Rattle.gw_table.specs.declared.refusal.ActionFault.{ActionFault}
use Rattle.gw_table.specs.declared.refusal.ActionFault.TheVariants.{Absent, NoAction}
use Rattle.gw_table.specs.declared.refusal.KeyLocation.{KeyLocation}
use Rattle.gw_table.specs.declared.refusal.KeyLocation.TheVariants.{Top, Rule}
use Rattle.gw_table.specs.declared.refusal.TableRefusal.{TableRefusal}
use Rattle.gw_table.specs.declared.refusal.TableRefusal.TheVariants.{BadToml, NoRuleTables, UnknownKey, BadAction, BadRange}
use Rattle.gw_table.specs.declared.refusal.TableRefusal.TheVariants.{TooManyRules, OutOfMemory}
use Rattle.gw_input.specs.declared.places.Place.{Place}
use Rattle.gw_input.specs.Lines.{lines_of}
use Rattle.gw_input.specs.RuleLines.{is_blank, behind_blanks, begins_rule, rule_at}

-- the place behind octets: one line more than line feeds, and one column more than octets behind the last of them
pub record IsPlaceBehind (before : List ℕ) (place : Place) : Type 0 where
  pub line : place.line ≡ count_by (is_byte 10) before + 1
  pub feed : Option ℕ
  pub last : IsLastByte (is_byte 10) before feed
  pub column : place.column ≡ option_map_or (λ at. length before - at) feed (length before + 1)

-- ---- a key of a table: TOML 1.0.0, Keys, Tables and Array of Tables

-- it stands behind blanks and, in a header, brackets
abbrev pub is_opening : ℕ → Bool
is_opening c = is_blank c || (c == 91)

abbrev pub opened : List ℕ → List ℕ
opened line = drop (position_or_len (λ c. not (is_opening c)) line) line

-- `=` or, in a header, `]` stands behind it
abbrev pub closes : List ℕ → Bool
closes rest = (slice_index rest 0 == 61) || (slice_index rest 0 == 93)

abbrev pub names_key : List ℕ → List ℕ → Bool
names_key key line =
    starts_with (λ a b. a == b) (opened line) key && closes (behind_blanks (drop (length key) (opened line)))

-- what a line begins: a rule, or a key
abbrev pub is_wanted : Option (List ℕ) → List ℕ → Bool
is_wanted None line = begins_rule line
is_wanted (Some key) line = names_key key line

-- ---- in a text

-- how many rules begin on the lines up to this one, and how many do where a location is
abbrev pub rules_to : List (List ℕ) → ℕ → ℕ
rules_to lines i = length (flat_map (rule_at lines) (range_with_len 0 (i + 1)))

abbrev pub rules_begun : KeyLocation → ℕ
rules_begun Top = 0
rules_begun (Rule number) = number + 1

abbrev pub stands_on : List (List ℕ) → KeyLocation → Option (List ℕ) → ℕ → Bool
stands_on lines location key i = (rules_to lines i == rules_begun location) && is_wanted key (slice_index_or lines i [])

-- a place counts from 1, and its column is that of the first octet that is no blank
abbrev pub place_on : List (List ℕ) → ℕ → Place
place_on lines i =
    record { line = i + 1; column = position_or_len (λ c. not (is_blank c)) (slice_index_or lines i []) + 1 }

-- the first line there that begins with the key; without a key, the line that begins the rule
abbrev pub line_place : List ℕ → KeyLocation → Option (List ℕ) → Option Place
line_place text location key =
    option_map (place_on (lines_of text))
    (find (stands_on (lines_of text) location key) (range_with_len 0 (length (lines_of text))))

-- that of a key, else of its rule
abbrev pub key_place : List ℕ → KeyLocation → List ℕ → Option Place
key_place text location key = option_or (line_place text location (Some key)) (line_place text location None)

abbrev pub action_place : List ℕ → Part → ActionFault → Option Place
action_place text part.Default why = key_place text Top (codes "default")
action_place text part.Other why = key_place text Top (codes "other")
action_place text (part.Rule number) Absent = line_place text (Rule number) None
action_place text (part.Rule number) NoAction = key_place text (Rule number) (codes "action")

-- where a refusal of a table's text is told to be; toml says where a text is no document
abbrev pub IsToldPlace : List ℕ → TableRefusal → Option Place → Type 0
IsToldPlace text (BadToml error) place =
    MatchOption place (IsMemory error ⊎ (length text < span_start error)) (IsPlaceBehind (take (span_start error) text))
IsToldPlace text NoRuleTables place = place ≡ key_place text Top (codes "rule")
IsToldPlace text (UnknownKey location key) place = place ≡ key_place text location (string_bytes key)
IsToldPlace text (BadAction of why) place = place ≡ action_place text of why
IsToldPlace text (BadRange rule field why) place = place ≡ key_place text (Rule rule) (key_of field)
IsToldPlace text (TooManyRules rules) place = place ≡ None
IsToldPlace text OutOfMemory place = place ≡ None
