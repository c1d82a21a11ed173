-- The lines of a table's rules in words, and groups that are counted.
use Rattle.std.proofs.Common.{◌≡◌, ℕ, suc, ◌+◌, ◌-◌, ◌<◌, ◌≤◌, true, false, List, [], ◌∷◌, ◌++◌, length, flat_map}
use Rattle.std.proofs.Common.{refl, ap, sym, ◌∙◌, get_or, slice_get, add-zero, length-append, arith}
use Rattle.std.specs.List.{filter, range_with_len}
use Rattle.std.specs.Option.{option_map_or}
use Rattle.std.proofs.lemmas.List.Elements.{filter-append}
use Rattle.std.proofs.lemmas.Option.{slice_get-get_or}
use Rattle.gw_table.specs.declared.table.Rule.{Rule}
use Rattle.gw_table.specs.declared.table.Span.{Span}
use Rattle.gw_commands.specs.declared.stated.StatedTable.{StatedTable}
use Rattle.gw_commands.specs.Shown.{group_count, is_group, rule_words, words_of_rule, words_of_rules}
use Rattle.gw_input.proofs.Callers.{range_more}

-- the line of a rule that is there
pub rule_there : (stated : StatedTable) (rules : List Rule) (n : ℕ) (d : Rule) → rules ≡ stated.table.rules → n < length rules
    → rule_words stated n (get_or rules n d) ≡ words_of_rule stated n
rule_there stated rules n d same below =
    ap (λ o. option_map_or (rule_words stated n) o [])
    (sym (slice_get-get_or rules n d below) ∙ ap (λ l. slice_get l n) same)

-- all lines behind a text
pub rules_done : (stated : StatedTable) (n : ℕ) (before text : List ℕ) → n ≡ length stated.table.rules
    → text ≡ before ++ flat_map (words_of_rule stated) (range_with_len 0 n) → text ≡ before ++ words_of_rules stated
unfolding words_of_rules
rules_done stated n before text all same =
    same ∙ ap (λ m. before ++ flat_map (words_of_rule stated) (range_with_len 0 m)) all

-- one number more is looked at
one_more : (low n : ℕ) → low ≤ n
    → length (filter is_group (range_with_len low (n + 1 - low)))
    ≡ length (filter is_group (range_with_len low (n - low))) + length (filter is_group (n ∷ []))
one_more low n least =
    let next : n + 1 - low ≡ suc (n - low) = omega arith in
    let last : low + (n - low) ≡ n = omega arith in
    ap (λ m. length (filter is_group (range_with_len low m))) next
    ∙ ap (λ xs. length (filter is_group xs))
    (range_more low (n - low) ∙ ap (λ k. range_with_len low (n - low) ++ k ∷ []) last)
    ∙ ap length (filter-append is_group (range_with_len low (n - low)) (n ∷ []))
    ∙ length-append (filter is_group (range_with_len low (n - low))) (filter is_group (n ∷ []))

pub counted : (low n count : ℕ) → low ≤ n → is_group n ≡ true → count ≡ length (filter is_group (range_with_len low (n - low)))
    → count + 1 ≡ length (filter is_group (range_with_len low (n + 1 - low)))
counted low n count least is before =
    let one : length (filter is_group (n ∷ [])) ≡ 1 = rw is refl in
    ap (λ m. m + 1) before ∙ ap (λ m. length (filter is_group (range_with_len low (n - low))) + m) (sym one)
    ∙ sym (one_more low n least)

pub passed_over : (low n count : ℕ) → low ≤ n → is_group n ≡ false
    → count ≡ length (filter is_group (range_with_len low (n - low)))
    → count ≡ length (filter is_group (range_with_len low (n + 1 - low)))
passed_over low n count least is before =
    let none : length (filter is_group (n ∷ [])) ≡ 0 = rw is refl in
    before ∙ sym (add-zero (length (filter is_group (range_with_len low (n - low)))))
    ∙ ap (λ m. length (filter is_group (range_with_len low (n - low))) + m) (sym none) ∙ sym (one_more low n least)

-- each number of the range was looked at
pub all_counted : (range : Span) (n count : ℕ) → n - range.low ≡ range.high + 1 - range.low
    → count ≡ length (filter is_group (range_with_len range.low (n - range.low))) → count ≡ group_count range
unfolding group_count
all_counted range n count all before = before ∙ ap (λ m. length (filter is_group (range_with_len range.low m))) all
