-- The words of a text, one after another.
use Rattle.std.specs.Prelude.{if◌then◌else◌}
use Rattle.std.proofs.Common.{◌≡◌, ℕ, zero, suc, ◌+◌, ◌<◌, ◌≤◌, ◌==◌, true, false, List, [], ◌∷◌, length, take, drop}
use Rattle.std.proofs.Common.{refl, sym, ap, ◌∙◌, subst, inl, inr, add-zero, add-one, arith}
use Rattle.std.specs.List.{filter, slice_split, position_or_len, prefix_len}
use Rattle.std.proofs.lemmas.Bool.{cases_Bool}
use Rattle.gw_log.specs.LogLines.{is_blank, has_octets, is_marked, words_of, word_at, behind_blanks}
use Rattle.gw_log.specs.MarkedWords.{word_before}

-- how many octets stand before the first blank, and how many blanks in front
abbrev pub word_length : List ℕ → ℕ
word_length text = position_or_len is_blank text

abbrev blanks : List ℕ → ℕ
blanks text = prefix_len is_blank text

one_more : (n : ℕ) → 1 + n ≡ suc n
one_more n = omega arith

-- a blank in front parts no words
blank_in_front : (c : ℕ) (cs : List ℕ) → is_blank c ≡ true → words_of (c ∷ cs) ≡ words_of cs
unfolding words_of
blank_in_front c cs blank = rw blank refl

-- the octets before the first blank are the first part, and the words of what stands behind them those of the others
record Parts (text : List ℕ) : Type 0 where
  rest : List (List ℕ)
  parts : slice_split is_blank text ≡ take (word_length text) text ∷ rest
  words : filter has_octets rest ≡ words_of (drop (word_length text) text)

first_part : (text : List ℕ) → Parts text
unfolding words_of
first_part [] = record { rest = []; parts = refl; words = refl }
first_part (c ∷ cs) =
    let next = first_part cs in
    elim (cases_Bool (is_blank c)) [
      | inl blank ↦ record {
        rest = slice_split is_blank cs;
        parts = rw blank refl;
        words = rw blank (sym (blank_in_front c cs blank));
      }
      | inr other ↦ record {
        rest = next.rest;
        parts = rw (other, one_more (word_length cs), next.parts) refl;
        words = rw (other, one_more (word_length cs)) next.words;
      }
    ]

-- the words of a text that no blank begins
begun : (c : ℕ) (cs : List ℕ) → is_blank c ≡ false
    → words_of (c ∷ cs) ≡ (c ∷ take (word_length cs) cs) ∷ words_of (drop (word_length cs) cs)
unfolding words_of
begun c cs other =
    let next = first_part cs in
    rw (other, next.parts) (ap (λ (ws : List (List ℕ)). (c ∷ take (word_length cs) cs) ∷ ws) next.words)

-- blanks alone have no words
pub no_word : (text : List ℕ) → length (behind_blanks text) ≡ 0 → words_of text ≡ []
unfolding words_of
no_word [] none = refl
no_word (c ∷ cs) none =
    elim (cases_Bool (is_blank c)) [
      | inl blank ↦ rw blank (no_word cs (rw (blank, one_more (blanks cs)) at none))
      | inr other ↦ absurd (let all : suc (length cs) ≡ 0 = rw other at none in omega arith)
    ]

-- the first word stands behind the blanks in front, and ends at the next one
pub word_in_front : (text : List ℕ) → 0 < length (behind_blanks text)
    → (words_of text ≡ take (word_length (behind_blanks text)) (behind_blanks text)
    ∷ words_of (drop (word_length (behind_blanks text)) (behind_blanks text)))
    × (0 < word_length (behind_blanks text))
word_in_front [] some = absurd (omega arith)
word_in_front (c ∷ cs) some =
    elim (cases_Bool (is_blank c)) [
      | inl blank ↦
          let next = word_in_front cs (rw (blank, one_more (blanks cs)) at some) in
          (rw (blank, one_more (blanks cs)) (blank_in_front c cs blank ∙ next.0), rw (blank, one_more (blanks cs)) next.1)
      | inr other ↦
          let there : behind_blanks (c ∷ cs) ≡ c ∷ cs = rw other refl in
          let len : word_length (c ∷ cs) ≡ suc (word_length cs) = rw (other, one_more (word_length cs)) refl in
          let Front : List ℕ → Type 0 = λ rest. (words_of (c ∷ cs) ≡ take (word_length rest) rest
          ∷ words_of (drop (word_length rest) rest)) × (0 < word_length rest) in
          subst Front (sym there) (rw len (begun c cs other), rw len (omega arith))
    ]

-- ---- a walk over the words of a text, of which so many were passed: the next one, and those behind it

pub word_here : (all here behind : List (List ℕ)) (word : List ℕ) (index : ℕ) → here ≡ word ∷ behind
    → ((k : ℕ) → word_at here k ≡ word_at all (index + k)) → word ≡ word_at all index
word_here all here behind word index parts same =
    ap (λ ws. word_at ws 0) (sym parts) ∙ same 0 ∙ ap (word_at all) (add-zero index)

pub word_passed : (all here behind : List (List ℕ)) (word : List ℕ) (index : ℕ) → here ≡ word ∷ behind
    → ((k : ℕ) → word_at here k ≡ word_at all (index + k)) → word ≡ word_before all (index + 1)
word_passed all here behind word index parts same =
    word_here all here behind word index parts same ∙ ap (word_before all) (sym (add-one index))

-- the word before a frame that stands first or second is its interface
pub interface_before : (words : List (List ℕ)) (index : ℕ) → index ≤ 1
    → word_before words index ≡ (if index == 1 then word_at words 0 else [])
interface_before words zero few = refl
interface_before words (suc zero) few = refl
interface_before words (suc (suc n)) few = absurd (omega arith)

pub word_behind : (all here behind : List (List ℕ)) (word : List ℕ) (index : ℕ) → here ≡ word ∷ behind
    → ((k : ℕ) → word_at here k ≡ word_at all (index + k)) → (k : ℕ) → word_at behind k ≡ word_at all (index + 1 + k)
word_behind all here behind word index parts same k =
    let next : index + suc k ≡ index + 1 + k = omega arith in
    ap (λ ws. word_at ws (suc k)) (sym parts) ∙ same (suc k) ∙ ap (word_at all) next

pub one_unmarked : (all here behind : List (List ℕ)) (word : List ℕ) (index : ℕ) → here ≡ word ∷ behind
    → is_marked word ≡ false → position_or_len is_marked all ≡ index + position_or_len is_marked here
    → position_or_len is_marked all ≡ index + 1 + position_or_len is_marked behind
one_unmarked all here behind word index parts other before =
    let first : position_or_len is_marked here ≡ 1 + position_or_len is_marked behind = rw (parts, other) refl in
    before ∙ ap (λ n. index + n) first ∙ further index (position_or_len is_marked behind)
  where
    further : (index n : ℕ) → index + (1 + n) ≡ index + 1 + n
    further index n = omega arith

pub one_word : (all here behind : List (List ℕ)) (word : List ℕ) (index : ℕ) → here ≡ word ∷ behind
    → length all ≡ index + length here → length all ≡ index + 1 + length behind
one_word all here behind word index parts before = let more = ap length parts in omega arith
