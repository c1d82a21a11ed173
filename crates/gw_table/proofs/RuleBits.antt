-- The bits of sets of rules.
use Rattle.std.proofs.Common.{◌≡◌, ℕ, ◌+◌, ◌-◌, ◌*◌, ◌/◌, ◌%◌, ◌^◌, ◌<◌, ◌≤◌, min, List, length}
use Rattle.std.proofs.Common.{get_or, sym, ap, ◌∙◌, inl, inr, arith}
use Rattle.std.specs.Prelude.{bit_and}
use Rattle.std.specs.Int.{bit_at, w64, trailing_zeros}
use Rattle.std.proofs.lemmas.Bool.{cases_lt}
use Rattle.std.proofs.lemmas.Nat.{and_le_r}
use Rattle.std.proofs.lemmas.Nat.Bits.{bit_at-zero, bit_at_and, bit_at-trailing_zeros}
use Rattle.std.proofs.lemmas.List.{get_or_past}
use Rattle.gw_table.specs.RuleSets.{has, common, IsLowest}

-- bit i of word w
pub has_in : (set : List ℕ) (w i : ℕ) → i < 64 → has set (w * 64 + i) ≡ bit_at (get_or set w 0) i
has_in set w i below =
    let word : (w * 64 + i) / 64 ≡ w = omega arith in
    let bit : (w * 64 + i) % 64 ≡ i = omega arith in
    ap (λ n. bit_at (get_or set n 0) ((w * 64 + i) % 64)) word ∙ ap (bit_at (get_or set w 0)) bit

-- the words of a set end
pub has_past : (set : List ℕ) (rule : ℕ) → length set * 64 ≤ rule → has set rule ≡ 0
has_past set rule past =
    ap (λ word. bit_at word (rule % 64)) (get_or_past set (rule / 64) 0 (omega (arith, past))) ∙ bit_at-zero (rule % 64)

-- the intersection of four words
abbrev pub all_four : ℕ → ℕ → ℕ → ℕ → ℕ
all_four a b c d = bit_and (bit_and (bit_and a b) c) d

bit_at_all_four : (a b c d i : ℕ)
    → bit_at (all_four a b c d) i ≡ min (min (min (bit_at a i) (bit_at b i)) (bit_at c i)) (bit_at d i)
bit_at_all_four a b c d i =
    bit_at_and (bit_and (bit_and a b) c) d i
    ∙ ap (λ n. min n (bit_at d i)) (bit_at_and (bit_and a b) c i ∙ ap (λ n. min n (bit_at c i)) (bit_at_and a b i))

module _ (a b c d : List ℕ) where
  -- what the sets share in word w
  abbrev pub shared : ℕ → ℕ
  shared w = all_four (get_or a w 0) (get_or b w 0) (get_or c w 0) (get_or d w 0)

  common_in : (w i : ℕ) → i < 64 → common a b c d (w * 64 + i) ≡ bit_at (shared w) i
  common_in w i below =
      let e = has_in a w i below in
      let f = has_in b w i below in
      let g = has_in c w i below in
      let h = has_in d w i below in
      rw (e, f, g, h) (sym (bit_at_all_four (get_or a w 0) (get_or b w 0) (get_or c w 0) (get_or d w 0) i))

  -- the sets share no rule of the words below w
  abbrev pub NoneBelow : ℕ → Type 0
  NoneBelow w = (rule : ℕ) → rule < w * 64 → common a b c d rule ≡ 0

  pub lowest_in : (w : ℕ) → NoneBelow w → 0 < shared w → get_or d w 0 < 2 ^ 64
      → IsLowest (common a b c d) (w * 64 + trailing_zeros w64 (shared w))
  lowest_in w none some fits =
      let zeros = trailing_zeros w64 (shared w) in
      let tz = bit_at-trailing_zeros w64 (shared w) some
      (omega (arith, and_le_r (bit_and (bit_and (get_or a w 0) (get_or b w 0)) (get_or c w 0)) (get_or d w 0))) in
      record {
        here = common_in w zeros tz.0 ∙ tz.1;
        not_before = λ earlier before. elim (cases_lt earlier (w * 64)) [
          | inl below ↦ none earlier below
          | inr above ↦ (let whole : earlier ≡ w * 64 + (earlier - w * 64) = omega arith in
              ap (common a b c d) whole ∙ common_in w (earlier - w * 64) (omega (arith, tz.0))
              ∙ tz.2 (earlier - w * 64) (omega arith))
        ];
      }

  pub none_more : (w : ℕ) → NoneBelow w → shared w ≡ 0 → NoneBelow (w + 1)
  none_more w none empty rule below =
      elim (cases_lt rule (w * 64)) [
        | inl before ↦ none rule before
        | inr above ↦ (let whole : rule ≡ w * 64 + (rule - w * 64) = omega arith in
            ap (common a b c d) whole ∙ common_in w (rule - w * 64) (omega arith)
            ∙ ap (λ n. bit_at n (rule - w * 64)) empty ∙ bit_at-zero (rule - w * 64))
      ]

  pub none_common : (w : ℕ) → length a ≤ w → NoneBelow w → (rule : ℕ) → common a b c d rule ≡ 0
  none_common w end none rule =
      elim (cases_lt rule (w * 64)) [
        | inl below ↦ none rule below
        | inr above ↦ omega (arith, has_past a rule (omega arith))
      ]
