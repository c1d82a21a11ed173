-- The objects of a list, with commas between them.
use Rattle.std.proofs.Common.{◌≡◌, ℕ, suc, ◌+◌, ◌==◌, ◌&&◌, Bool, true, false, not, List, [], ◌∷◌, ◌++◌, length, map, cond, ap}
use Rattle.std.proofs.Common.{sym}
use Rattle.std.proofs.Common.{◌∙◌, refl, append_assoc, append-nil, arith}
use Rattle.std.specs.List.{filter, join_with_byte, range_with_len}
use Rattle.std.specs.Prelude.{codes, slice_index, if◌then◌else◌}
use Rattle.std.proofs.lemmas.Bool.Decides.{nat_tests}
use Rattle.std.proofs.lemmas.List.{map-append, map-id, length-map}
use Rattle.std.proofs.lemmas.List.FromFn.{map-range_with_len_more, length-range_with_len}
use Rattle.std.proofs.lemmas.List.Elements.{filter-append}
use Rattle.gw_judge.specs.declared.tally.Tally.{Tally}
use Rattle.gw_judge.specs.Grouped.{Grouped}
use Rattle.gw_commands.specs.JsonCounts.{group_json, groups_json, has_none, rule_json, rules_json, verdicts_in}

-- a list with an element is not empty
some : (n : ℕ) → (suc n == 0) ≡ false
some n = grind (arith, nat_tests)

-- a text more, behind a comma unless it is the first
joined : (texts : List (List ℕ)) (text : List ℕ)
    → join_with_byte 44 (texts ++ text ∷ [])
    ≡ (join_with_byte 44 texts ++ (if length texts == 0 then [] else codes ",")) ++ text
joined [] text = refl
joined (one ∷ []) text = sym (append_assoc one (codes ",") text)
joined (one ∷ two ∷ texts) text =
    let all = join_with_byte 44 (two ∷ texts) in
    ap (λ more. one ++ 44 ∷ more) (joined (two ∷ texts) text)
    ∙ ap (λ (b : Bool). one ++ 44 ∷ ((all ++ (if b then [] else codes ",")) ++ text)) (some (length texts))
    ∙ sym (append_assoc one (44 ∷ (all ++ codes ",")) text)
    ∙ ap (λ more. more ++ text) (sym (append_assoc one (44 ∷ all) (codes ",")))
    ∙ sym (ap (λ (b : Bool). ((one ++ 44 ∷ all) ++ (if b then [] else codes ",")) ++ text) (some (suc (length texts))))

-- the same behind what a string held before
pub joined_more : (texts : List (List ℕ)) (text before held comma now : List ℕ) (is_first : Bool)
    → is_first ≡ (length texts == 0) → held ≡ before ++ join_with_byte 44 texts
    → comma ≡ held ++ (if is_first then [] else codes ",") → now ≡ comma ++ text
    → now ≡ before ++ join_with_byte 44 (texts ++ text ∷ [])
joined_more texts text before held comma now is_first first holds behind more =
    more ∙ ap (λ xs. xs ++ text) (behind ∙ ap (λ b. held ++ (if b then [] else codes ",")) first
    ∙ ap (λ xs. xs ++ (if length texts == 0 then [] else codes ",")) holds
    ∙ append_assoc before (join_with_byte 44 texts) (if length texts == 0 then [] else codes ","))
    ∙ append_assoc before (join_with_byte 44 texts ++ (if length texts == 0 then [] else codes ",")) text
    ∙ ap (λ xs. before ++ xs) (sym (joined texts text))

-- ---- rules

abbrev pub rule_at : List ℕ → Tally → ℕ → List ℕ
rule_at lines tally n = rule_json lines n (slice_index tally.by_rule n)

abbrev pub rule_texts : List ℕ → Tally → ℕ → List (List ℕ)
rule_texts lines tally n = map (rule_at lines tally) (range_with_len 0 n)

pub rules_more : (lines : List ℕ) (tally : Tally) (n : ℕ)
    → rule_texts lines tally (n + 1) ≡ rule_texts lines tally n ++ rule_at lines tally n ∷ []
rules_more lines tally n = map-range_with_len_more (rule_at lines tally) 0 n n (omega arith)

pub rules_first : (lines : List ℕ) (tally : Tally) (n : ℕ) → (n == 0) ≡ (length (rule_texts lines tally n) == 0)
rules_first lines tally n =
    ap (λ m. m == 0) (sym (length-map (range_with_len 0 n) (rule_at lines tally) ∙ length-range_with_len 0 n))

pub rules_done : (lines : List ℕ) (tally : Tally) (n count : ℕ) (before text : List ℕ) → n ≡ count
    → text ≡ before ++ join_with_byte 44 (rule_texts lines tally n) → text ≡ before ++ rules_json lines tally count
unfolding rules_json
rules_done lines tally n count before text all same =
    same ∙ ap (λ m. before ++ join_with_byte 44 (rule_texts lines tally m)) all

-- ---- groups

abbrev pub group_at : List ℕ → Grouped → ℕ → List ℕ
group_at key groups n = group_json key n (verdicts_in groups n)

abbrev pub has_frames : Grouped → ℕ → Bool
has_frames groups n = not (has_none (verdicts_in groups n))

abbrev pub group_texts : List ℕ → Grouped → ℕ → List (List ℕ)
group_texts key groups n = map (group_at key groups) (filter (has_frames groups) (range_with_len 0 n))

range_more : (n : ℕ) → range_with_len 0 (n + 1) ≡ range_with_len 0 n ++ n ∷ []
range_more n =
    sym (map-id (range_with_len 0 (n + 1))) ∙ map-range_with_len_more (λ m. m) 0 n n (omega arith)
    ∙ ap (λ ns. ns ++ n ∷ []) (map-id (range_with_len 0 n))

-- a group more, which has no frame or has some
groups_more : (key : List ℕ) (groups : Grouped) (n : ℕ) (none : Bool) → has_none (verdicts_in groups n) ≡ none
    → group_texts key groups (n + 1) ≡ group_texts key groups n ++ cond none [] (group_at key groups n ∷ [])
groups_more key groups n none is =
    ap (λ ns. map (group_at key groups) (filter (has_frames groups) ns)) (range_more n)
    ∙ ap (map (group_at key groups)) (filter-append (has_frames groups) (range_with_len 0 n) (n ∷ []))
    ∙ map-append (group_at key groups) (filter (has_frames groups) (range_with_len 0 n)) (filter (has_frames groups) (n ∷ []))
    ∙ ap (λ (b : Bool). group_texts key groups n ++ map (group_at key groups) (cond (not b) (n ∷ []) [])) is ∙ by_none none
  where
    by_none : (b : Bool) → group_texts key groups n ++ map (group_at key groups) (cond (not b) (n ∷ []) [])
        ≡ group_texts key groups n ++ cond b [] (group_at key groups n ∷ [])
    by_none true = refl
    by_none false = refl

-- what stands behind those so far
pub record IsNext (key : List ℕ) (groups : Grouped) (n : ℕ) (before now : List ℕ) (first : Bool) : Type 0 where
  pub text : now ≡ before ++ join_with_byte 44 (group_texts key groups n)
  pub is_first : first ≡ (length (group_texts key groups n) == 0)

pub groups_step : (key : List ℕ) (groups : Grouped) (n : ℕ) (before held now : List ℕ) (is_first first none : Bool)
    → has_none (verdicts_in groups n) ≡ none → IsNext key groups n before held is_first
    → now ≡ held ++ (if none then [] else (if is_first then [] else codes ",") ++ group_at key groups n)
    → first ≡ (is_first && none) → IsNext key groups (n + 1) before now first
groups_step key groups n before held now is_first first true is h next then_first = record {
  text = next ∙ append-nil held ∙ h.text
      ∙ ap (λ texts. before ++ join_with_byte 44 texts)
      (sym (groups_more key groups n true is ∙ append-nil (group_texts key groups n)));
  is_first = then_first ∙ and_true is_first ∙ h.is_first
      ∙ ap (λ (texts : List (List ℕ)). length texts == 0)
      (sym (groups_more key groups n true is ∙ append-nil (group_texts key groups n)));
}
  where
    and_true : (b : Bool) → (b && true) ≡ b
    and_true true = refl
    and_true false = refl
groups_step key groups n before held now is_first first false is h next then_first = record {
  text =
      joined_more (group_texts key groups n) (group_at key groups n) before held
      (held ++ (if is_first then [] else codes ",")) now is_first h.is_first h.text refl
      (next ∙ sym (append_assoc held (if is_first then [] else codes ",") (group_at key groups n)))
      ∙ ap (λ texts. before ++ join_with_byte 44 texts) (sym (groups_more key groups n false is));
  is_first = then_first ∙ and_false is_first ∙ sym (some_more (group_texts key groups n) (group_at key groups n))
      ∙ ap (λ (texts : List (List ℕ)). length texts == 0) (sym (groups_more key groups n false is));
}
  where
    and_false : (b : Bool) → (b && false) ≡ false
    and_false true = refl
    and_false false = refl

    some_more : (texts : List (List ℕ)) (text : List ℕ) → (length (texts ++ text ∷ []) == 0) ≡ false
    some_more [] text = some 0
    some_more (one ∷ texts) text = some (length (texts ++ text ∷ []))

pub groups_done : (key : List ℕ) (groups : Grouped) (n count : ℕ) (before text : List ℕ) → n ≡ count
    → text ≡ before ++ join_with_byte 44 (group_texts key groups n) → text ≡ before ++ groups_json key groups count
unfolding groups_json
groups_done key groups n count before text all same =
    same ∙ ap (λ m. before ++ join_with_byte 44 (group_texts key groups m)) all
