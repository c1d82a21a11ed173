-- The rules that are read have ranges within their fields, and are no more than were written.
use Rattle.std.proofs.Common.{◌≡◌, ℕ, ◌+◌, ◌≤◌, Bool, true, false, List, [], ◌∷◌, length, Option, Some, None, Result, Ok, Err}
use Rattle.std.proofs.Common.{pos, option_map, refl, ap, ◌∙◌, subst, arith}
use Rattle.std.proofs.lemmas.List.Elements.{All-nil, All-cons}
use Rattle.std.proofs.lemmas.Option.{none-some, same_Some, option_and_then_some}
use Rattle.std.proofs.lemmas.Bool.Decides.{nat_tests}
use Rattle.std.specs.Prelude.{All, nat_le, if◌then◌else◌}
use Rattle.std.specs.List.{filter_map, cons_option}
use Rattle.std.specs.Option.{option_map_or}
use Rattle.std.specs.Result.{result_map_both, result_ok}
use Rattle.toml.specs.Data.{Data, integer, array, no_items, item, get}
use Rattle.gw_table.specs.declared.table.Action.{Action}
use Rattle.gw_table.specs.declared.table.Span.{Span}
use Rattle.gw_table.specs.declared.table.Rule.{Rule}
use Rattle.gw_table.specs.Table.{Fits, IsRule}
use Rattle.gw_table.specs.declared.values.Ranges.{Ranges}
use Rattle.gw_table.specs.declared.refusal.Field.{Field}
use Rattle.gw_table.specs.declared.refusal.Field.TheVariants.{Pgn, Source, Destination, From}
use Rattle.gw_table.specs.declared.refusal.RangeFault.{RangeFault}
use Rattle.gw_table.specs.declared.refusal.RangeFault.TheVariants.{OutOfField, Descending}
use Rattle.gw_table.specs.TableText.{◌>>=◌, greatest, key_of, number_in, span_between, span_in, span_at, named_span, ranges_in}
use Rattle.gw_table.specs.TableText.{rule_action, rule_of, rule_in}

-- what a chain of answers that is one came through
then_ok : {A B E P : Type 0} (f : A → Result B E) (found : Result A E) (y : B) → (found >>= f) ≡ Ok y
    → ((x : A) → found ≡ Ok x → f x ≡ Ok y → P) → P
then_ok f (Ok x) y is next = next x refl is
then_ok f (Err e) y is next = absurd (cc)

-- the numbers of a span that was read lie within its field

number_in-le : (most : ℕ) (value : Data) (n : ℕ) → number_in most value ≡ Ok n → n ≤ most
number_in-le most (integer (pos k)) n is = by (nat_le k most) refl is
  where
    by : (fits : Bool) → nat_le k most ≡ fits → (if fits then Ok k else Err OutOfField) ≡ Ok n → n ≤ most
    by true fits same = let e : k ≡ n = cc in grind (arith, nat_tests)
    by false fits same = absurd (cc)
number_in-le most value n is = absurd (cc)

span_between-fits : (most low high : ℕ) (span : Span) → high ≤ most → span_between low high ≡ Ok span → Fits most span
span_between-fits most low high span within is = by (nat_le low high) refl is
  where
    by : (ordered : Bool) → nat_le low high ≡ ordered
        → (if ordered then Ok (record { low = low; high = high }) else Err Descending) ≡ Ok span → Fits most span
    by true ordered same =
        let e : record { low = low; high = high } ≡ span = cc in
        subst (Fits most) e (grind (arith, nat_tests), within)
    by false ordered same = absurd (cc)

number-fits : (most : ℕ) (value : Data) (span : Span)
    → (number_in most value >>= (λ n. Ok (record { low = n; high = n }))) ≡ Ok span → Fits most span
number-fits most value span is =
    then_ok _ (number_in most value) span is (λ n was same.
    let e : record { low = n; high = n } ≡ span = cc in
    subst (Fits most) e (omega arith, number_in-le most value n was))

span_in-fits : (most : ℕ) (value : Data) (span : Span) → span_in most value ≡ Ok span → Fits most span
span_in-fits most (array (item low (item high no_items))) span is =
    then_ok _ (number_in most low) span is (λ lo _ is_high.
    then_ok _ (number_in most high) span is_high (λ hi high_is is_span.
    span_between-fits most lo hi span (number_in-le most high hi high_is) is_span))
span_in-fits most value span is = number-fits most value span is

found-fits : (most : ℕ) (found : Option Data) (span : Span)
    → option_map_or (span_in most) found (Ok (record { low = 0; high = most })) ≡ Ok span → Fits most span
found-fits most None span is =
    let e : record { low = 0; high = most } ≡ span = cc in
    subst (Fits most) e (omega arith, omega arith)
found-fits most (Some value) span is = span_in-fits most value span is

named-fits : (field : Field) (rule : Data) (span : Span) → named_span field rule ≡ Ok span → Fits (greatest field) span
named-fits field rule span is = by (span_at field rule) refl is
  where
    by : (found : Result Span RangeFault) → span_at field rule ≡ found
        → result_map_both {D = Field × RangeFault} (λ s. s) (λ why. (field, why)) found ≡ Ok span → Fits (greatest field) span
    by (Ok s) was same =
        let e : s ≡ span = cc in
        found-fits (greatest field) (get (key_of field) rule) span (was ∙ ap Ok e)
    by (Err e) was same = absurd (cc)

-- a rule that was read has its ranges within their fields

ranges-fit : (value : Data) (ranges : Ranges) (action : Action) → ranges_in value ≡ Ok ranges → IsRule (rule_of action ranges)
ranges-fit value ranges action is =
    then_ok _ (named_span Pgn value) ranges is (λ pgn pgn_is is_1.
    then_ok _ (named_span Source value) ranges is_1 (λ source source_is is_2.
    then_ok _ (named_span Destination value) ranges is_2 (λ destination destination_is is_3.
    then_ok _ (named_span From value) ranges is_3 (λ from from_is is_4.
    let e : record { pgn = pgn; source = source; destination = destination; from = from } ≡ ranges = cc in
    subst (λ r. IsRule (rule_of action r)) e (record {
      pgn = named-fits Pgn value pgn pgn_is;
      source = named-fits Source value source source_is;
      destination = named-fits Destination value destination destination_is;
      from = named-fits From value from from_is;
    })))))

with_ranges : (value : Data) (rule : Rule) (action : Action) (found : Result Ranges (Field × RangeFault))
    → ranges_in value ≡ found → option_map (rule_of action) (result_ok found) ≡ Some rule → IsRule rule
with_ranges value rule action (Ok ranges) was is = subst IsRule (same_Some _ _ is) (ranges-fit value ranges action was)
with_ranges value rule action (Err why) was is = absurd (none-some rule is)

rule_in-IsRule : (value : Data) (rule : Rule) → rule_in value ≡ Some rule → IsRule rule
rule_in-IsRule value rule is =
    option_and_then_some _ (rule_action value) rule is (λ action _ is_rule.
    with_ranges value rule action (ranges_in value) refl is_rule)

cons_option-All : {A : Type 0} (P : A → Type 0) (found : Option A) (rest : List A) → ((x : A) → found ≡ Some x → P x)
    → All P rest → All P (cons_option found rest)
cons_option-All P None rest here more = more
cons_option-All P (Some x) rest here more = All-cons P x rest (here x refl) more

pub rules-IsRule : (values : List Data) → All IsRule (filter_map rule_in values)
rules-IsRule [] = All-nil IsRule
rules-IsRule (value ∷ values) = cons_option-All IsRule (rule_in value) _ (rule_in-IsRule value) (rules-IsRule values)

cons_option-length : {A : Type 0} (found : Option A) (rest : List A) (n : ℕ) → length rest ≤ n
    → length (cons_option found rest) ≤ n + 1
cons_option-length None rest n few = omega arith
cons_option-length (Some x) rest n few = omega arith

pub length-filter_map : {A B : Type 0} (h : A → Option B) (xs : List A) → length (filter_map h xs) ≤ length xs
length-filter_map h [] = omega arith
length-filter_map h (x ∷ xs) = omega (arith, cons_option-length (h x) (filter_map h xs) (length xs) (length-filter_map h xs))
