-- The set of the rules that have a property, word by word; and the lowest rule of four sets.
use Rattle.std.proofs.Common.{◌≡◌, ◌≢◌, ℕ, zero, suc, ◌+◌, ◌*◌, ◌/◌, ◌%◌, ◌<◌, ◌≤◌, min, nat_lt, Bool, true, false, ◌&&◌}
use Rattle.std.proofs.Common.{if◌then◌else◌, List, [], ◌∷◌, length, get_or, Option, Some, None, refl, sym, ap, ◌∙◌}
use Rattle.std.proofs.Common.{inl, inr, arith}
use Rattle.std.specs.Prelude.{slice_get}
use Rattle.std.specs.List.{position_or_len}
use Rattle.std.specs.Option.{option_map_or}
use Rattle.std.specs.Int.{bit_at}
use Rattle.std.proofs.lemmas.Bool.{lt-ltb, le-ltb, cases_lt}
use Rattle.std.proofs.lemmas.Option.{slice_get_past}
use Rattle.gw_table.specs.declared.refusal.Field.TheVariants.{Pgn, Source, Destination, From}
use Rattle.gw_table.specs.declared.table.Rule.{Rule}
use Rattle.gw_table.specs.declared.rule_set.Property.{Property}
use Rattle.gw_table.specs.declared.rule_set.Property.TheVariants.{Holds}
use Rattle.gw_table.specs.Table.{lies_in}
use Rattle.gw_table.specs.PairFrames.{all_lie}
use Rattle.gw_table.specs.RuleSets.{has_property, marks, has, IsSetOf, IsWordOf, common, IsLowest}
use Rattle.gw_table.proofs.RuleBits.{has_past}

-- 1 for true
abbrev pub one_if : Bool → ℕ
one_if b = if b then 1 else 0

-- 1 where the rule of a number passes a test
abbrev pub mark : (Rule → Bool) → List Rule → ℕ → ℕ
mark test rules number = option_map_or (λ rule. one_if (test rule)) (slice_get rules number) 0

pub mark_past : (test : Rule → Bool) (rules : List Rule) (number : ℕ) → length rules ≤ number → mark test rules number ≡ 0
mark_past test rules number past =
    ap (λ rule. option_map_or (λ r. one_if (test r)) rule 0) (slice_get_past rules number past)

module _ (property : Property) (rules : List Rule) (index : ℕ) where
  -- the bits below n of a word are settled
  abbrev pub SettledBelow : ℕ → ℕ → Type 0
  SettledBelow n word = (i : ℕ) → bit_at word i ≡ (if nat_lt i n then marks property rules (index * 64 + i) else 0)

  pub all_settled : (n word : ℕ) → 64 ≤ n → SettledBelow n word → IsWordOf property rules index word
  all_settled n word all settled i below = let e = lt-ltb i n (omega arith) in settled i ∙ (rw e refl)

  settled_at : (n old new : ℕ) → SettledBelow n old → bit_at new n ≡ marks property rules (index * 64 + n)
      → ((other : ℕ) → other ≢ n → bit_at new other ≡ bit_at old other) → SettledBelow (n + 1) new
  settled_at n old new settled here others i =
      elim (cases_lt i n) [
        | inl below ↦ (let e = lt-ltb i n below in let f = lt-ltb i (n + 1) (omega arith) in
            let same : bit_at old i ≡ marks property rules (index * 64 + i) = settled i ∙ (rw e refl) in
            others i (λ is. absurd (omega arith)) ∙ same ∙ (rw f refl))
        | inr above ↦ elim (cases_lt n i) [
          | inl beyond ↦ (let e = le-ltb i n above in let f = le-ltb i (n + 1) (omega arith) in
              let same : bit_at old i ≡ 0 = settled i ∙ (rw e refl) in
              others i (λ is. absurd (omega arith)) ∙ same ∙ (rw f refl))
          | inr within ↦ (let is : i ≡ n = omega arith in let f = lt-ltb i (n + 1) (omega arith) in
              ap (bit_at new) is ∙ here ∙ ap (λ k. marks property rules (index * 64 + k)) (sym is) ∙ (rw f refl))
        ]
      ]

  -- one bit more
  pub settled_with : (n old new : ℕ) → SettledBelow n old → marks property rules (index * 64 + n) ≡ 1 → bit_at new n ≡ 1
      → ((other : ℕ) → other ≢ n → bit_at new other ≡ bit_at old other) → SettledBelow (n + 1) new
  settled_with n old new settled one here others = settled_at n old new settled (here ∙ sym one) others

  pub settled_without : (n old : ℕ) → SettledBelow n old → marks property rules (index * 64 + n) ≡ 0
      → SettledBelow (n + 1) old
  settled_without n old settled none =
      let e = le-ltb n n (omega arith) in
      let unset : bit_at old n ≡ 0 = settled n ∙ (rw e refl) in
      settled_at n old old settled (unset ∙ sym none) (λ other apart. refl)

-- words that have room for all rules make the set
pub set_of_words : (property : Property) (rules : List Rule) (set : List ℕ) → length rules ≤ 64 * length set
    → ((w : ℕ) → w < length set → IsWordOf property rules w (get_or set w 0)) → IsSetOf property rules set
set_of_words property rules set room words number =
    elim (cases_lt (number / 64) (length set)) [
      | inl within ↦ (let whole : number / 64 * 64 + number % 64 ≡ number = omega arith in
          words (number / 64) within (number % 64) (omega arith) ∙ ap (marks property rules) whole)
      | inr past ↦ has_past set number (omega arith) ∙ sym (mark_past (has_property property) rules number (omega arith))
    ]

-- the rule of which all marks are 1, and no earlier one's, is the first that passes

both : (a b : Bool) → min (one_if a) (one_if b) ≡ one_if (a && b)
both true true = refl
both true false = refl
both false true = refl
both false false = refl

mark_both : (p q : Rule → Bool) (rules : List Rule) (number : ℕ)
    → min (mark p rules number) (mark q rules number) ≡ mark (λ rule. p rule && q rule) rules number
mark_both p q rules number = by (slice_get rules number)
  where
    by : (rule : Option Rule)
        → min (option_map_or (λ r. one_if (p r)) rule 0) (option_map_or (λ r. one_if (q r)) rule 0)
        ≡ option_map_or (λ r. one_if (p r && q r)) rule 0
    by None = refl
    by (Some rule) = both (p rule) (q rule)

true_if_one : (b : Bool) → one_if b ≡ 1 → b ≡ true
true_if_one true one = refl
true_if_one false one = absurd (omega (arith, one))

false_if_zero : (b : Bool) → one_if b ≡ 0 → b ≡ false
false_if_zero true none = absurd (omega (arith, none))
false_if_zero false none = refl

pub one_more : (a b : ℕ) → a ≡ b → 1 + a ≡ suc b
one_more a b same = omega (arith, same)

pub position_past : (p : Rule → Bool) (rules : List Rule) → ((number : ℕ) → mark p rules number ≡ 0)
    → position_or_len p rules ≡ length rules
position_past p [] none = refl
position_past p (rule ∷ rules) none =
    let e = false_if_zero (p rule) (none 0) in
    rw e (one_more _ _ (position_past p rules (λ number. none (suc number))))

pub position_first : (p : Rule → Bool) (rules : List Rule) (number : ℕ) → mark p rules number ≡ 1
    → ((earlier : ℕ) → earlier < number → mark p rules earlier ≡ 0) → position_or_len p rules ≡ number
position_first p [] number here before = absurd (omega (arith, here))
position_first p (rule ∷ rules) zero here before = let e = true_if_one (p rule) here in rw e refl
position_first p (rule ∷ rules) (suc number) here before =
    let e = false_if_zero (p rule) (before 0 (omega arith)) in
    let behind = position_first p rules number here (λ earlier below. before (suc earlier) (omega arith)) in
    rw e (one_more _ _ behind)

pub mark_there : (p : Rule → Bool) (rules : List Rule) (number : ℕ) → mark p rules number ≡ 1 → number < length rules
mark_there p rules number one =
    elim (cases_lt number (length rules)) [
      | inl within ↦ within
      | inr past ↦ absurd (omega (arith, one, mark_past p rules number past))
    ]

-- the rules of all four sets are those whose four ranges hold
pub common_marks : (rules : List Rule) (pgn source destination from : ℕ) (a b c d : List ℕ) → IsSetOf (Holds Pgn pgn) rules a
    → IsSetOf (Holds Source source) rules b → IsSetOf (Holds Destination destination) rules c → IsSetOf (Holds From from) rules d
    → (number : ℕ) → common a b c d number ≡ mark (all_lie pgn source destination from) rules number
common_marks rules pgn source destination from a b c d is_a is_b is_c is_d number =
    let p : Rule → Bool = λ rule. lies_in pgn rule.pgn in
    let q : Rule → Bool = λ rule. lies_in source rule.source in
    let r : Rule → Bool = λ rule. lies_in destination rule.destination in
    let s : Rule → Bool = λ rule. lies_in from rule.from in
    let two = ap (λ n. min n (has b number)) (is_a number) ∙ ap (λ n. min (mark p rules number) n) (is_b number)
    ∙ mark_both p q rules number in
    let three = ap (λ n. min n (has c number)) two ∙ ap (λ n. min (mark (λ t. p t && q t) rules number) n) (is_c number)
    ∙ mark_both (λ t. p t && q t) r rules number in
    ap (λ n. min n (has d number)) three ∙ ap (λ n. min (mark (λ t. p t && q t && r t) rules number) n) (is_d number)
    ∙ mark_both (λ t. p t && q t && r t) s rules number

module _ (p : Rule → Bool) (rules : List Rule) (marked : ℕ → ℕ) (same : (number : ℕ) → marked number ≡ mark p rules number) where
  pub first_position : (number : ℕ) → IsLowest marked number → position_or_len p rules ≡ number
  first_position number lowest =
      position_first p rules number (sym (same number) ∙ lowest.here)
      (λ earlier below. sym (same earlier) ∙ lowest.not_before earlier below)

  pub no_position : ((number : ℕ) → marked number ≡ 0) → position_or_len p rules ≡ length rules
  no_position none = position_past p rules (λ number. sym (same number) ∙ none number)

  pub lowest_there : (number : ℕ) → IsLowest marked number → number < length rules
  lowest_there number lowest = mark_there p rules number (sym (same number) ∙ lowest.here)
