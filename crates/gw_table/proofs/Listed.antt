-- Sets of rules that stand one behind another.
use Rattle.std.proofs.Common.{◌≡◌, ℕ, suc, ◌+◌, ◌-◌, ◌*◌, ◌<◌, ◌≤◌, List, [], ◌∷◌, ◌++◌, length, get_or, take, drop, sym, ap}
use Rattle.std.proofs.Common.{subst, ◌∙◌, inl, inr, add-one, arith, suc-mul}
use Rattle.std.proofs.lemmas.Bool.{cases_lt}
use Rattle.std.proofs.lemmas.List.{get_or-drop, take-take, drop-take, take_all, length-drop, length-append, take-append-le}
use Rattle.std.proofs.Math.ListN.{get_or-append}
use Rattle.std.proofs.Math.Seq.{get_or-append_seam}
use Rattle.std.proofs.lemmas.Nat.{mul-le}
use Rattle.gw_table.specs.declared.table.Rule.{Rule}
use Rattle.gw_table.specs.declared.rule_set.Property.{Property}
use Rattle.gw_table.specs.RuleSets.{IsSetOf, IsWordOf, Follows}
use Rattle.gw_table.proofs.Holding.{set_of_words}

-- what stood in the list stands in a longer one
pub kept : (old new : List ℕ) (at words : ℕ) → take (length old) new ≡ old → at + words ≤ length old
    → take words (drop at new) ≡ take words (drop at old)
kept old new at words before within =
    let rest = length old - at in
    let whole : at + rest ≡ length old = omega arith in
    let cut : drop at old ≡ take rest (drop at new) =
    ap (drop at) (sym before ∙ ap (λ n. take n new) (sym whole)) ∙ drop-take at rest new in
    sym (ap (take words) cut ∙ take-take words rest (drop at new) (omega arith))

-- a set, as far as its words are pushed
pub record IsBegun (property : Property) (rules : List Rule) (old new : List ℕ) (count : ℕ) : Type 0 where
  pub grown : length new ≡ length old + count
  pub before : take (length old) new ≡ old
  pub words : (w : ℕ) → w < count → IsWordOf property rules w (get_or new (length old + w) 0)

-- no word of it is pushed yet
pub begun_none : (property : Property) (rules : List Rule) (old : List ℕ) → IsBegun property rules old old 0
begun_none property rules old = record {
  grown = omega arith;
  before = take_all (length old) old (omega arith);
  words = λ w within. absurd (omega arith);
}

-- one word more
pub begun_more : (property : Property) (rules : List Rule) (old now new : List ℕ) (count word : ℕ)
    → IsBegun property rules old now count → IsWordOf property rules count word → new ≡ now ++ word ∷ []
    → IsBegun property rules old new (count + 1)
begun_more property rules old now new count word begun is pushed =
    let read : (w : ℕ) → get_or new (length old + w) 0 ≡ get_or (now ++ word ∷ []) (length old + w) 0 =
    λ w. ap (λ list. get_or list (length old + w) 0) pushed in
    record {
      grown = omega (arith, ap length pushed, length-append now (word ∷ []), begun.grown);
      before = ap (take (length old)) pushed
          ∙ take-append-le (length old) now (word ∷ []) (omega (arith, begun.grown)) ∙ begun.before;
      words = λ w within. elim (cases_lt w count) [
        | inl earlier ↦ subst (IsWordOf property rules w) (sym (read w
            ∙ get_or-append now (word ∷ []) 0 (length old + w) (omega (arith, begun.grown)))) (begun.words w earlier)
        | inr last ↦ (let same : w ≡ count = omega arith in
            let at : length old + count ≡ length now = sym begun.grown in
            subst (λ k. IsWordOf property rules k (get_or new (length old + k) 0)) (sym same)
            (subst (IsWordOf property rules count) (sym (read count ∙ ap (λ i. get_or (now ++ word ∷ []) i 0) at
            ∙ get_or-append_seam now word [] 0)) is))
      ];
    }

module _ (property : Property) (rules : List Rule) (old new : List ℕ) (words : ℕ) where
  -- all its words make the set
  pub set_made : length rules ≤ 64 * words → IsBegun property rules old new words
      → IsSetOf property rules (drop (length old) new)
  set_made room begun =
      let size : length (drop (length old) new) ≡ words = omega (arith, length-drop (length old) new, begun.grown) in
      set_of_words property rules (drop (length old) new) (omega (arith, ap (λ n. 64 * n) size, room)) (λ w within.
      subst (IsWordOf property rules w) (sym (get_or-drop (length old) new w 0)) (begun.words w (omega (arith, size, within))))

module _ (property : ℕ → Property) (rules : List Rule) (words : ℕ) (old now next : List ℕ) (count : ℕ) where
  -- one set more
  pub followed_more : Follows property count rules words old now → length next ≡ length now + words
      → take (length now) next ≡ now → IsSetOf (property count) rules (drop (length now) next)
      → Follows property (count + 1) rules words old next
  followed_more so_far grown before set =
      let more : (count + 1) * words ≡ count * words + words = ap (λ n. n * words) (add-one count) ∙ suc-mul count words in
      record {
        grown = omega (arith, grown, so_far.grown, more);
        before = sym (take-take (length old) (length now) next (omega (arith, so_far.grown)))
            ∙ ap (take (length old)) before ∙ so_far.before;
        sets = λ k within. elim (cases_lt k count) [
          | inl earlier ↦ (let fits : suc k * words ≤ count * words =
              mul-le (suc k) words count words (omega arith) (omega arith) in
              let one : suc k * words ≡ k * words + words = suc-mul k words in
              subst (IsSetOf (property k) rules)
              (sym (kept now next (length old + k * words) words before (omega (arith, so_far.grown, fits, one))))
              (so_far.sets k earlier))
          | inr last ↦ (let is : k ≡ count = omega arith in
              let at : length old + count * words ≡ length now = sym so_far.grown in
              let whole = ap (λ n. take words (drop n next)) at
              ∙ take_all words (drop (length now) next) (omega (arith, length-drop (length now) next, grown)) in
              subst (λ n. IsSetOf (property n) rules (take words (drop (length old + n * words) next))) (sym is)
              (subst (IsSetOf (property count) rules) (sym whole) set))
        ];
      }
