-- The first line that is looked for, among the lines of a text.
use Rattle.std.proofs.Common.{◌≡◌, ℕ, suc, ◌+◌, ◌-◌, ◌<◌, ◌≤◌, ◌==◌, ◌&&◌, Bool, true, false, List, [], ◌∷◌, ◌++◌, length}
use Rattle.std.proofs.Common.{Option, Some, None, refl, ap, sym, ◌∙◌, zero-add, add-one, add-zero, arith}
use Rattle.std.specs.Prelude.{if◌then◌else◌}
use Rattle.std.specs.List.{find, range_with_len, slice_index_or}
use Rattle.std.proofs.lemmas.Option.{none-some}
use Rattle.gw_input.specs.RuleLines.{begins_rule, rule_number}
use Rattle.gw_table.specs.declared.refusal.KeyLocation.{KeyLocation}
use Rattle.gw_input.specs.Places.{is_wanted, rules_begun, rules_to, stands_on}
use Rattle.gw_input.proofs.NumberByNumber.{range_more, range_apart}
use Rattle.gw_input.proofs.RulePlaces.{rules_above, rules_more}

-- what is found behind others of which none is
found_behind : (p : ℕ → Bool) (before behind : List ℕ) → find p before ≡ None → find p (before ++ behind) ≡ find p behind
found_behind p [] behind none = refl
found_behind p (x ∷ xs) behind none = go (p x) (found_behind p xs behind) none
  where
    go : (b : Bool) → (find p xs ≡ None → find p (xs ++ behind) ≡ find p behind)
        → (if b then Some x else find p xs) ≡ None → (if b then Some x else find p (xs ++ behind)) ≡ find p behind
    go true more none = absurd (none-some x (sym none))
    go false more none = more none

-- none among so many numbers, and not the next one
pub none_more : (p : ℕ → Bool) (n : ℕ) → find p (range_with_len 0 n) ≡ None → p n ≡ false
    → find p (range_with_len 0 (n + 1)) ≡ None
none_more p n none not =
    ap (find p) (ap (range_with_len 0) (add-one n) ∙ range_more 0 n)
    ∙ found_behind p (range_with_len 0 n) ((0 + n) ∷ []) none
    ∙ ap (λ m. find p (m ∷ [])) (zero-add n) ∙ rw not refl

-- none among so many numbers, but the next one
pub first_found : (p : ℕ → Bool) (n all : ℕ) → n < all → find p (range_with_len 0 n) ≡ None → p n ≡ true
    → find p (range_with_len 0 all) ≡ Some n
first_found p n all within none here =
    let behind = all - (n + 1) in
    let parts : all ≡ n + suc behind = omega arith in
    ap (λ m. find p (range_with_len 0 m)) parts ∙ ap (find p) (range_apart 0 n (suc behind))
    ∙ found_behind p (range_with_len 0 n) (range_with_len (0 + n) (suc behind)) none
    ∙ ap (λ m. find p (range_with_len m (suc behind))) (zero-add n) ∙ rw here refl

-- how many rules begin with one line more
pub begun_with : (lines : List (List ℕ)) (n begun : ℕ) (line : List ℕ) → line ≡ slice_index_or lines n []
    → begun ≡ rules_above lines n → (if begins_rule line then begun + 1 else begun) ≡ rules_to lines n
begun_with lines n begun line here so_far =
    let more = rules_more lines n ∙ ap (λ l. rules_above lines n + length (rule_number l (n + 1))) (sym here) in
    go (begins_rule line) ∙ ap (λ m. m + length (rule_number line (n + 1))) so_far ∙ sym more
  where
    go : (b : Bool) → (if b then begun + 1 else begun) ≡ begun + length (if b then (n + 1) ∷ [] else [])
    go true = refl
    go false = sym (add-zero begun)

-- whether the line that is read is the one that is looked for
pub read_line_stands : (lines : List (List ℕ)) (location : KeyLocation) (key : Option (List ℕ)) (n begun : ℕ) (line : List ℕ)
    → line ≡ slice_index_or lines n [] → begun ≡ rules_to lines n
    → ((begun == rules_begun location) && is_wanted key line) ≡ stands_on lines location key n
read_line_stands lines location key n begun line here with_it =
    ap (λ b. (b == rules_begun location) && is_wanted key line) with_it
    ∙ ap (λ l. (rules_to lines n == rules_begun location) && is_wanted key l) here

-- a rule more at most
pub at_most_one_more : (begins : Bool) (begun n now : ℕ) → now ≡ (if begins then begun + 1 else begun) → begun ≤ n → now ≤ n + 1
at_most_one_more true begun n now is few = omega arith
at_most_one_more false begun n now is few = omega arith
