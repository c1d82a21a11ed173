-- The lines that begin a rule.
use Rattle.std.proofs.Common.{◌≡◌, ℕ, ◌+◌, ◌≤◌, List, [], ◌∷◌, length, drop, flat_map}
use Rattle.std.proofs.Common.{true, false, refl, ap, sym, ◌∙◌, arith, length-drop}
use Rattle.std.specs.Prelude.{slice_index_or}
use Rattle.std.specs.List.{range_with_len}
use Rattle.std.proofs.lemmas.List.{length-append}
use Rattle.gw_input.specs.Lines.{lines_of}
use Rattle.gw_input.specs.RuleLines.{begins_rule, rule_at, rule_lines, rule_number}
use Rattle.gw_input.proofs.NumberByNumber.{lines_more}

-- how many rules begin on so many lines
abbrev pub rules_above : List (List ℕ) → ℕ → ℕ
rules_above lines n = length (flat_map (rule_at lines) (range_with_len 0 n))

-- where no line is left, all were found
pub all_found : (text : List ℕ) (n : ℕ) (found : List ℕ) → n ≤ length (lines_of text) → drop n (lines_of text) ≡ []
    → found ≡ flat_map (rule_at (lines_of text)) (range_with_len 0 n) → found ≡ rule_lines text
unfolding rule_lines
all_found text n found within none so_far =
    let all : n ≡ length (lines_of text) = omega (arith, ap length none, length-drop {A = List ℕ}) in
    so_far ∙ ap (λ m. flat_map (rule_at (lines_of text)) (range_with_len 0 m)) all

-- with one line more
pub rules_more : (lines : List (List ℕ)) (n : ℕ) → rules_above lines (n + 1) ≡ rules_above lines n + length (rule_at lines n)
rules_more lines n =
    ap length (lines_more (rule_at lines) n)
    ∙ length-append (flat_map (rule_at lines) (range_with_len 0 n)) (rule_at lines n)

-- of a line that begins a rule, and of one that does not
pub one_rule : (lines : List (List ℕ)) (n : ℕ) (line : List ℕ) → line ≡ slice_index_or lines n [] → begins_rule line ≡ true
    → rule_at lines n ≡ (n + 1) ∷ []
one_rule lines n line here begins = ap (λ l. rule_number l (n + 1)) (sym here) ∙ rw begins refl

pub no_rule : (lines : List (List ℕ)) (n : ℕ) (line : List ℕ) → line ≡ slice_index_or lines n [] → begins_rule line ≡ false
    → rule_at lines n ≡ []
no_rule lines n line here other = ap (λ l. rule_number l (n + 1)) (sym here) ∙ rw other refl
