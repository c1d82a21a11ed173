-- What a TOML document says as a table, and what is wrong with a document that says none.
use Rattle.std.specs.Prelude.{◌≡◌, ℕ, ◌≤◌, ◌<◌, pos, codes, Bool, not, nat_le, if◌then◌else◌, List, [], ◌∷◌, length, slice_get}
use Rattle.std.specs.Prelude.{Option, Some, None, is_some, option_map, option_and_then, unwrap_or, Result, Ok, Err, bytes_eq}
use Rattle.std.specs.Prelude.{position, string_bytes}
use Rattle.std.specs.List.{list_all, list_any, filter_map, find, AllWithin, HoldsAt}
use Rattle.std.specs.Option.{option_map_or, option_or}
use Rattle.std.specs.Result.{result_map_both, result_ok, result_err}
use Rattle.toml.specs.Data.{Data, string, integer, array, table, Items, no_items, item, Members, no_members, member, get}
use Rattle.toml.specs.Data.{get_member, as_table}
use Rattle.toml.specs.Parse.{parse_document}
use Rattle.gw_table.specs.Table.{Meaning, greatest_group, greatest_octet}
use Rattle.gw_table.specs.declared.table.Action.{Action}
use Rattle.gw_table.specs.declared.table.Action.TheVariants.{Pass, Block}
use Rattle.gw_table.specs.declared.table.Span.{Span}
use Rattle.gw_table.specs.declared.table.Rule.{Rule}
use Rattle.gw_table.specs.declared.table.Part.{Part}
use Rattle.gw_table.specs.declared.table.Part.TheVariants as part
use Rattle.gw_table.specs.declared.values.Ranges.{Ranges}
use Rattle.gw_table.specs.declared.refusal.KeyLocation.{KeyLocation}
use Rattle.gw_table.specs.declared.refusal.KeyLocation.TheVariants as location
use Rattle.gw_table.specs.declared.refusal.ActionFault.{ActionFault}
use Rattle.gw_table.specs.declared.refusal.ActionFault.TheVariants.{Absent, NoAction}
use Rattle.gw_table.specs.declared.refusal.Field.{Field}
use Rattle.gw_table.specs.declared.refusal.Field.TheVariants.{Pgn, Source, Destination, From}
use Rattle.gw_table.specs.declared.refusal.RangeFault.{RangeFault}
use Rattle.gw_table.specs.declared.refusal.RangeFault.TheVariants.{NoRange, OutOfField, Descending}
use Rattle.gw_table.specs.declared.refusal.TableRefusal.{TableRefusal}
use Rattle.gw_table.specs.declared.refusal.TableRefusal.TheVariants.{BadToml, NoRuleTables, UnknownKey, BadAction, BadRange}
use Rattle.gw_table.specs.declared.refusal.TableRefusal.TheVariants.{TooManyRules, OutOfMemory}

-- the number by which a refusal is told
abbrev pub refusal_number : TableRefusal → ℕ
refusal_number (BadToml error) = 50
refusal_number NoRuleTables = 51
refusal_number (UnknownKey location key) = 51
refusal_number (BadAction of why) = 52
refusal_number (BadRange rule field why) = 53
refusal_number (TooManyRules rules) = 54
refusal_number OutOfMemory = 55

-- the least rule, by its number from 0, of which something is wrong, and what it is
abbrev pub first_of : {A : Type 0} → (Data → Option A) → List Data → Option (ℕ × A)
first_of wrong rules =
    option_and_then (λ number. option_map (λ why. (number, why)) (option_and_then wrong (slice_get rules number)))
    (position (λ rule. is_some (wrong rule)) rules)

-- what a search for it finds, where `gives rule why` says that the search was told this of the rule
abbrev pub FirstWrong : {V A : Type 0} → (V → Option A → Type 0) → List V → Option (ℕ × A) → Type 0
FirstWrong gives rules None = AllWithin (λ rule. gives rule None) rules 0 (length rules)
FirstWrong gives rules (Some found) =
    (found.0 < length rules) × HoldsAt (λ rule. gives rule (Some found.1)) rules found.0
    × AllWithin (λ rule. gives rule None) rules 0 found.0

pub record IsFirstWrong {V A : Type 0} (gives : V → Option A → Type 0) (rules : List V) (found : Option (ℕ × A)) : Type 0 where
  pub first : FirstWrong gives rules found

-- keys: the first that is none of the known ones, where a table has its keys in the order of their octets

abbrev pub keys_of : Members → List (List ℕ)
keys_of no_members = []
keys_of (member key value rest) = key ∷ keys_of rest

abbrev pub first_but : List (List ℕ) → Members → Option (List ℕ)
first_but known members = find (λ key. not (list_any (bytes_eq key) known)) (keys_of members)

abbrev pub document_keys : List (List ℕ)
document_keys = codes "default" ∷ codes "other" ∷ codes "rule" ∷ []

abbrev pub rule_keys : List (List ℕ)
rule_keys = codes "action" ∷ codes "pgn" ∷ codes "source" ∷ codes "destination" ∷ codes "from" ∷ []

abbrev pub unknown_in_rule : Data → Option (List ℕ)
unknown_in_rule (table members) = first_but rule_keys members
unknown_in_rule _ = None

-- the rules as they are written

-- the elements of an array
abbrev pub values_of : Items → List Data
values_of no_items = []
values_of (item value rest) = value ∷ values_of rest

abbrev pub is_table : Data → Bool
is_table value = is_some (as_table value)

-- the values of an array of tables
abbrev pub tables_in : Data → Option (List Data)
tables_in (array values) = if list_all is_table (values_of values) then Some (values_of values) else None
tables_in _ = None

-- no rules where there is no `rule`, and nothing where it is no array of tables
abbrev pub written_rules : Members → Option (List Data)
written_rules document = option_map_or tables_in (get_member (codes "rule") document) (Some [])

-- actions: "pass" or "block"

abbrev pub action_in : Data → Option Action
action_in (string text) =
    if bytes_eq text (codes "pass") then Some Pass else if bytes_eq text (codes "block") then Some Block else None
action_in _ = None

-- `default` and `other`: an absent one is "block"
abbrev pub action_or_block : List ℕ → Members → Option Action
action_or_block key document = option_map_or action_in (get_member key document) (Some Block)

-- a rule's action, which may not be absent
abbrev pub rule_action : Data → Option Action
rule_action rule = option_and_then action_in (get (codes "action") rule)

abbrev pub value_fault : Data → Option ActionFault
value_fault value = option_map_or (λ action. None) (action_in value) (Some NoAction)

abbrev pub action_fault : Data → Option ActionFault
action_fault rule = option_map_or value_fault (get (codes "action") rule) (Some Absent)

-- ranges

abbrev pub key_of : Field → List ℕ
key_of Pgn = codes "pgn"
key_of Source = codes "source"
key_of Destination = codes "destination"
key_of From = codes "from"

abbrev pub greatest : Field → ℕ
greatest Pgn = greatest_group
greatest Source = greatest_octet
greatest Destination = greatest_octet
greatest From = greatest_octet

-- a number that is at most the greatest of its field
abbrev pub number_in : ℕ → Data → Result ℕ RangeFault
number_in most (integer (pos n)) = if nat_le n most then Ok n else Err OutOfField
number_in most (integer n) = Err OutOfField
number_in most _ = Err NoRange

-- from low to high, where low is at most high
abbrev pub span_between : ℕ → ℕ → Result Span RangeFault
span_between low high = if nat_le low high then Ok (record { low = low; high = high }) else Err Descending

infixl 10 ◌>>=◌
abbrev pub ◌>>=◌ : {A B E : Type 0} → Result A E → (A → Result B E) → Result B E
Ok found >>= next = next found
Err why >>= next = Err why

-- a number n is the range from n to n, and `[lo, hi]` the range from lo to hi
abbrev pub span_in : ℕ → Data → Result Span RangeFault
span_in most (array (item low (item high no_items))) = do
  lo ← number_in most low
  hi ← number_in most high
  span_between lo hi
span_in most value = do
  n ← number_in most value
  Ok (record { low = n; high = n })

-- an absent range is the whole field
abbrev pub span_at : Field → Data → Result Span RangeFault
span_at field rule =
    option_map_or (span_in (greatest field)) (get (key_of field) rule) (Ok (record { low = 0; high = greatest field }))

abbrev pub named_span : Field → Data → Result Span (Field × RangeFault)
named_span field rule = result_map_both (λ span. span) (λ why. (field, why)) (span_at field rule)

-- a rule's four ranges, or the first that is none, and why
abbrev pub ranges_in : Data → Result Ranges (Field × RangeFault)
ranges_in rule = do
  pgn ← named_span Pgn rule
  source ← named_span Source rule
  destination ← named_span Destination rule
  from ← named_span From rule
  Ok (record { pgn = pgn; source = source; destination = destination; from = from })

abbrev pub range_fault : Data → Option (Field × RangeFault)
range_fault rule = result_err (ranges_in rule)

abbrev pub rule_of : Action → Ranges → Rule
rule_of action ranges =
    record { action = action; pgn = ranges.pgn; source = ranges.source; destination = ranges.destination; from = ranges.from }

-- a rule with its action and its four ranges, where all five are there
abbrev pub rule_in : Data → Option Rule
rule_in rule = option_and_then (λ action. option_map (rule_of action) (result_ok (ranges_in rule))) (rule_action rule)

-- what is wrong with a document and its rules: all keys come before all actions, these before all ranges, and these before
-- the number of rules

abbrev pub unknown_key : Members → List Data → Option (KeyLocation × List ℕ)
unknown_key document rules =
    option_or (option_map (λ key. (location.Top, key)) (first_but document_keys document))
    (option_map (λ found. (location.Rule found.0, found.1)) (first_of unknown_in_rule rules))

-- `default` and `other` may be absent
abbrev pub written_fault : List ℕ → Members → Option ActionFault
written_fault key document = option_and_then value_fault (get_member key document)

abbrev pub bad_action : Members → List Data → Option (Part × ActionFault)
bad_action document rules =
    option_or (option_map (λ why. (part.Default, why)) (written_fault (codes "default") document))
    (option_or (option_map (λ why. (part.Other, why)) (written_fault (codes "other") document))
    (option_map (λ found. (part.Rule found.0, found.1)) (first_of action_fault rules)))

abbrev pub bad_range : List Data → Option (ℕ × (Field × RangeFault))
bad_range rules = first_of range_fault rules

pub record IsFaultless (document : Members) (rules : List Data) : Type 0 where
  pub keys : unknown_key document rules ≡ None
  pub actions : bad_action document rules ≡ None
  pub ranges : bad_range rules ≡ None
  pub few : length rules ≤ 256

-- the refusal of a key, for which memory may be wanting
abbrev pub IsKeyRefusal : KeyLocation → List ℕ → TableRefusal → Type 0
IsKeyRefusal location key (UnknownKey at found) = (at ≡ location) × (string_bytes found ≡ key)
IsKeyRefusal location key OutOfMemory = Unit {0}
IsKeyRefusal location key _ = ⊥

-- a refusal tells the first of these that is wrong; memory is wanted only to tell a key and for rules without a fault
abbrev pub IsFirstFault : Members → List Data → TableRefusal → Type 0
IsFirstFault document rules (UnknownKey location key) = unknown_key document rules ≡ Some (location, string_bytes key)
IsFirstFault document rules (BadAction of why) =
    (unknown_key document rules ≡ None) × (bad_action document rules ≡ Some (of, why))
IsFirstFault document rules (BadRange rule field why) =
    (unknown_key document rules ≡ None) × (bad_action document rules ≡ None) × (bad_range rules ≡ Some (rule, (field, why)))
IsFirstFault document rules (TooManyRules number) =
    (unknown_key document rules ≡ None) × (bad_action document rules ≡ None) × (bad_range rules ≡ None)
    × (256 < length rules) × (number ≡ length rules)
IsFirstFault document rules OutOfMemory = unknown_key document rules ≡ None → IsFaultless document rules
IsFirstFault document rules _ = ⊥

abbrev pub IsDocumentRefusal : Members → TableRefusal → Type 0
IsDocumentRefusal document NoRuleTables = written_rules document ≡ None
IsDocumentRefusal document refusal =
    (rules : List Data) × (written_rules document ≡ Some rules) × IsFirstFault document rules refusal

-- what a document with these rules says, where it has no fault and so each part is there
abbrev pub meaning_in : Members → List Data → Meaning
meaning_in document rules =
    record {
      otherwise = unwrap_or (action_or_block (codes "default") document) Block;
      other = unwrap_or (action_or_block (codes "other") document) Block;
      rules = filter_map rule_in rules;
    }

-- the document says this table
abbrev pub IsDocument : Members → Meaning → Type 0
IsDocument document meaning =
    (rules : List Data) × (written_rules document ≡ Some rules) × IsFaultless document rules
    × (meaning ≡ meaning_in document rules)

abbrev pub IsTableText : List ℕ → Meaning → Type 0
IsTableText text meaning = (document : Members) × (parse_document text ≡ Some document) × IsDocument document meaning

-- the text is no document, or one of which this is the first fault; of no memory nothing is said
abbrev pub IsTableRefusal : List ℕ → TableRefusal → Type 0
IsTableRefusal text OutOfMemory = Unit {0}
IsTableRefusal text (BadToml error) = parse_document text ≡ None
IsTableRefusal text refusal = (document : Members) × (parse_document text ≡ Some document) × IsDocumentRefusal document refusal
