-- Worked examples of tables, as texts, as trees and as what they pass.
use Rattle.std.proofs.Common.{◌≡◌, ℕ, ◌≤◌, List, [], ◌∷◌, ◌++◌, length, codes, String, Global, string_bytes, Some, None, Ok, Err}
use Rattle.std.proofs.Common.{true, false, refl, sym, ap, arith, replicate, pos, negsuc}
use Rattle.toml.specs.declared.de.error.Error.{Error}
use Rattle.toml.proofs.OnLiterals.{toml_on_literals}
use Rattle.toml.specs.Data.{Data, string, integer, boolean, array, table, Items, item, no_items, member, no_members, Members}
use Rattle.gw_table.specs.declared.table.Action.{Action}
use Rattle.gw_table.specs.declared.table.Action.TheVariants.{Pass, Block}
use Rattle.gw_table.specs.declared.table.Span.{Span}
use Rattle.gw_table.specs.declared.table.Rule.{Rule}
use Rattle.gw_table.specs.declared.table.Part.TheVariants as part
use Rattle.gw_table.specs.declared.refusal.KeyLocation.TheVariants as location
use Rattle.gw_table.specs.declared.refusal.ActionFault.TheVariants.{Absent, NoAction}
use Rattle.gw_table.specs.declared.refusal.Field.TheVariants.{Pgn, Source}
use Rattle.gw_table.specs.declared.refusal.RangeFault.TheVariants.{NoRange, OutOfField, Descending}
use Rattle.gw_table.specs.declared.refusal.TableRefusal.TheVariants.{BadToml, NoRuleTables, UnknownKey, BadAction, BadRange}
use Rattle.gw_table.specs.Table.{Meaning, table_passes}
use Rattle.gw_table.specs.TableText.{written_rules, unknown_key, bad_action, bad_range, meaning_in, span_in}
use Rattle.gw_table.specs.TableText.{IsFaultless, IsDocument, IsTableText, IsTableRefusal}

abbrev whole : ℕ → Span
whole most = record { low = 0; high = most }

abbrev only : ℕ → Span
only n = record { low = n; high = n }

abbrev any_frame : Action → Rule
any_frame action =
    record { action = action; pgn = whole 262143; source = whole 255; destination = whole 255; from = whole 255 }

-- texts

abbrev no_fault : {document : Members} {rules : List Data} → unknown_key document rules ≡ None → bad_action document rules ≡ None
    → bad_range rules ≡ None → length rules ≤ 256 → IsFaultless document rules
no_fault keys actions ranges few = record { keys = keys; actions = actions; ranges = ranges; few = few }

empty_text : IsTableText [] (record { otherwise = Block; other = Block; rules = [] })
unfolding toml_on_literals
empty_text = (no_members, refl, ([], refl, no_fault refl refl refl (omega arith), refl))

passing_text : IsTableText (codes "default = \"pass\"") (record { otherwise = Pass; other = Block; rules = [] })
unfolding toml_on_literals
passing_text = (
  member (codes "default") (string (codes "pass")) no_members,
  refl,
  ([], refl, no_fault refl refl refl (omega arith), refl),
)

abbrev one_rule : Members → Members
one_rule rule = member (codes "rule") (array (item (table rule) no_items)) no_members

from_text : IsTableText (codes "[[rule]]\naction = \"pass\"\nfrom = 1\n")
    (record { otherwise = Block; other = Block; rules = record (any_frame Pass) { from = only 1 } ∷ [] })
unfolding toml_on_literals
from_text =
    let rule = member (codes "action") (string (codes "pass")) (member (codes "from") (integer (pos 1)) no_members) in
    (one_rule rule, refl, (table rule ∷ [], refl, no_fault refl refl refl (omega arith), refl))

bad_toml : (error : Error) → IsTableRefusal (codes "default =") (BadToml error)
unfolding toml_on_literals
bad_toml error = refl

unknown_text : (key : String Global) → string_bytes key ≡ codes "x" → IsTableRefusal (codes "x = 1") (UnknownKey location.Top key)
unfolding toml_on_literals
unknown_text key is =
    (member (codes "x") (integer (pos 1)) no_members, refl, ([], refl, ap (λ k. Some (location.Top, k)) (sym is)))

rule_number : IsTableRefusal (codes "rule = 3") NoRuleTables
unfolding toml_on_literals
rule_number = (member (codes "rule") (integer (pos 3)) no_members, refl, refl)

dropped : IsTableRefusal (codes "default = \"drop\"") (BadAction part.Default NoAction)
unfolding toml_on_literals
dropped = (member (codes "default") (string (codes "drop")) no_members, refl, ([], refl, (refl, refl)))

absent_action : IsTableRefusal (codes "[[rule]]") (BadAction (part.Rule 0) Absent)
unfolding toml_on_literals
absent_action = (one_rule no_members, refl, (table no_members ∷ [], refl, (refl, refl)))

descending : IsTableRefusal (codes "[[rule]]\naction = \"pass\"\npgn = [5, 4]\n") (BadRange 0 Pgn Descending)
unfolding toml_on_literals
descending =
    let ends = array (item (integer (pos 5)) (item (integer (pos 4)) no_items)) in
    let rule = member (codes "action") (string (codes "pass")) (member (codes "pgn") ends no_members) in
    (one_rule rule, refl, (table rule ∷ [], refl, (refl, refl, refl)))

-- ranges

span_rows : (span_in 255 (integer (pos 255)) ≡ Ok (only 255))
    × (span_in 255 (integer (pos 256)) ≡ Err OutOfField)
    × (span_in 255 (integer (negsuc 0)) ≡ Err OutOfField)
    × (span_in 255 (string (codes "1")) ≡ Err NoRange)
    × (span_in 262143 (array (item (integer (pos 0)) (item (integer (pos 262143)) no_items))) ≡ Ok (whole 262143))
    × (span_in 262143 (array (item (integer (pos 0)) (item (integer (pos 262144)) no_items))) ≡ Err OutOfField)
    × (span_in 255 (array (item (integer (pos 4)) (item (integer (pos 4)) no_items))) ≡ Ok (only 4))
    × (span_in 255 (array (item (integer (pos 5)) (item (integer (pos 4)) no_items))) ≡ Err Descending)
    × (span_in 255 (array (item (integer (pos 4)) no_items)) ≡ Err NoRange)
    × (span_in 255 (array (item (integer (pos 1)) (item (integer (pos 2)) (item (integer (pos 3)) no_items)))) ≡ Err NoRange)
span_rows = (refl, refl, refl, refl, refl, refl, refl, refl, refl, refl)

-- the order of the refusals, over the whole document

abbrev with_rules : Items → Members
with_rules rules = member (codes "rule") (array rules) no_members

abbrev rule_by : Data → Members → Data
rule_by action ranges = table (member (codes "action") action ranges)

abbrev passing : Data
passing = rule_by (string (codes "pass")) no_members

abbrev unranged : Data
unranged = rule_by (string (codes "pass")) (member (codes "source") (integer (pos 256)) no_members)

abbrev unnamed : Data
unnamed = rule_by (string (codes "pass")) (member (codes "x") (integer (pos 1)) no_members)

abbrev unactioned : Data
unactioned = table no_members

abbrev dropping : Data
dropping = rule_by (string (codes "drop")) no_members

no_rules : IsDocument (with_rules no_items) (record { otherwise = Block; other = Block; rules = [] })
no_rules = ([], refl, no_fault refl refl refl (omega arith), refl)

order_rows : (written_rules (with_rules (item (integer (pos 1)) no_items)) ≡ None)
    × (unknown_key no_members (unranged ∷ dropping ∷ unnamed ∷ unnamed ∷ []) ≡ Some (location.Rule 2, codes "x"))
    × (unknown_key (member (codes "default") (boolean true) no_members) (unranged ∷ dropping ∷ []) ≡ None)
    × (bad_action (member (codes "other") (boolean true) (member (codes "default") (boolean true) no_members)) (dropping ∷ [])
    ≡ Some (part.Default, NoAction))
    × (bad_action no_members (unranged ∷ dropping ∷ unactioned ∷ []) ≡ Some (part.Rule 1, NoAction))
    × (bad_action no_members (unranged ∷ []) ≡ None)
    × (bad_range (passing ∷ unranged ∷ unranged ∷ []) ≡ Some (1, (Source, OutOfField)))
    × (bad_range (replicate 256 passing ++ unranged ∷ []) ≡ Some (256, (Source, OutOfField)))
order_rows = (refl, refl, refl, refl, refl, refl, refl, refl)

-- a table of 256 rules

abbrev by_source : Rule
by_source = record (any_frame Block) { source = only 1 }

abbrev by_group : Rule
by_group = record (any_frame Pass) { pgn = record { low = 61184; high = 61458 } }

abbrev long_table : Meaning
long_table = record { otherwise = Block; other = Pass; rules = replicate 255 by_source ++ by_group ∷ [] }

abbrev long_rules : List Data
long_rules =
    let ends = array (item (integer (pos 61184)) (item (integer (pos 61458)) no_items)) in
    replicate 255 (rule_by (string (codes "block")) (member (codes "source") (integer (pos 1)) no_members))
    ++ rule_by (string (codes "pass")) (member (codes "pgn") ends no_members) ∷ []

abbrev passing_others : Members
passing_others = member (codes "other") (string (codes "pass")) no_members

long_table_in : IsFaultless passing_others long_rules × (long_table ≡ meaning_in passing_others long_rules)
long_table_in = (no_fault refl refl refl (omega arith), refl)

-- a record of 16 octets with these four octets of the identifier
abbrev record_of : ℕ → ℕ → ℕ → ℕ → List ℕ
record_of a b c d = a ∷ b ∷ c ∷ d ∷ 8 ∷ 0 ∷ 0 ∷ 0 ∷ replicate 8 0

long_table_rows : (table_passes long_table (record_of 0x98 0xEF 0x12 0x34) 0 ≡ true)
    × (table_passes long_table (record_of 0x98 0xF0 0x12 0x34) 0 ≡ true)
    × (table_passes long_table (record_of 0x98 0xF0 0x13 0x34) 0 ≡ false)
    × (table_passes long_table (record_of 0x98 0xEF 0x12 0x01) 0 ≡ false)
    × (table_passes long_table (record_of 0x00 0x00 0x01 0x23) 0 ≡ true)
    × (table_passes long_table (record_of 0xD8 0xEF 0x12 0x34) 0 ≡ true)
long_table_rows = (refl, refl, refl, refl, refl, refl)

-- the ingress port, and two rules of one group

abbrev from_one : Meaning
from_one = record { otherwise = Block; other = Block; rules = record (any_frame Pass) { from = only 1 } ∷ [] }

from_rows : (table_passes from_one (record_of 0x8C 0xF0 0x04 0x00) 1 ≡ true)
    × (table_passes from_one (record_of 0x8C 0xF0 0x04 0x00) 0 ≡ false)
from_rows = (refl, refl)

abbrev shared_group : Meaning
shared_group =
    record {
      otherwise = Pass;
      other = Block;
      rules = record (any_frame Pass) { pgn = only 61184; source = only 1 }
          ∷ record (any_frame Block) { pgn = only 61184 } ∷ [];
    }

group_rows : (table_passes shared_group (record_of 0x98 0xEF 0x12 0x01) 0 ≡ true)
    × (table_passes shared_group (record_of 0x98 0xEF 0x12 0x02) 0 ≡ false)
    × (table_passes shared_group (record_of 0x98 0xF0 0x12 0x01) 0 ≡ true)
group_rows = (refl, refl, refl)
