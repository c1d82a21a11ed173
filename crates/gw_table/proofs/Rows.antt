-- The sets of an index, row by row.
use Rattle.std.proofs.Common.{◌≡◌, ◌≢◌, ℕ, zero, suc, ◌+◌, ◌-◌, ◌*◌, ◌<◌, ◌≤◌, ◌==◌, Bool, true, false, ◌||◌, List, []}
use Rattle.std.proofs.Common.{◌∷◌, length, get_or, take, drop, refl, sym, ap, subst, ◌∙◌, inl, inr, arith, suc-mul, add-mul}
use Rattle.std.proofs.Common.{zero-mul, zero-add}
use Rattle.std.specs.Prelude.{replicate}
use Rattle.std.specs.List.{list_any}
use Rattle.std.proofs.lemmas.Bool.{le-ltb, cases_lt}
use Rattle.std.proofs.lemmas.Bool.Decides.{nat_tests}
use Rattle.std.proofs.lemmas.Nat.{mul-le}
use Rattle.gw_table.specs.declared.refusal.Field.{Field}
use Rattle.gw_table.specs.declared.refusal.Field.TheVariants.{Pgn}
use Rattle.gw_table.specs.declared.table.Span.{Span}
use Rattle.gw_table.specs.declared.table.Rule.{Rule}
use Rattle.gw_table.specs.declared.rule_set.Property.{Property}
use Rattle.gw_table.specs.declared.rule_set.Property.TheVariants.{Holds}
use Rattle.gw_table.specs.declared.section.Section.TheVariants as section
use Rattle.gw_table.specs.Table.{lies_in}
use Rattle.gw_table.specs.RuleSets.{span_of, marks, IsSetOf, Follows}
use Rattle.gw_table.specs.Sections.{start_property, property_of, pdu2_page, row_at}
use Rattle.gw_table.specs.Index.{splits, position_in, HasSetOf, HasRow}
use Rattle.gw_table.proofs.Holding.{one_if}
use Rattle.gw_table.proofs.Listed.{kept}

-- numbers that no range splits have one set

span_alike : (first number : ℕ) (span : Span) → number < 256 → splits first span ≡ false
    → lies_in (first + number) span ≡ lies_in first span
span_alike first number span within whole = grind (arith, nat_tests)

neither : (a b : Bool) → (a || b) ≡ false → (a ≡ false) × (b ≡ false)
neither false b none = (refl, none)
neither true b none = absurd (cc)

alike : (field : Field) (first number : ℕ) (rules : List Rule) (rule : ℕ) → number < 256
    → list_any (λ r. splits first (span_of field r)) rules ≡ false
    → marks (Holds field (first + number)) rules rule ≡ marks (Holds field first) rules rule
alike field first number [] rule within whole = refl
alike field first number (r ∷ rules) zero within whole =
    ap one_if (span_alike first number (span_of field r) within
    (neither (splits first (span_of field r)) (list_any (λ s. splits first (span_of field s)) rules) whole).0)
alike field first number (r ∷ rules) (suc rule) within whole =
    alike field first number rules rule within
    (neither (splits first (span_of field r)) (list_any (λ s. splits first (span_of field s)) rules) whole).1

-- the set of a page's first group
pub page_property : (page : ℕ) → start_property (514 + page) ≡ Holds Pgn (page * 256)
page_property page =
    let e = le-ltb (514 + page) 1 (omega arith) in
    let f = le-ltb (514 + page) 2 (omega arith) in
    let g = le-ltb (514 + page) 258 (omega arith) in
    let h = le-ltb (514 + page) 514 (omega arith) in
    let same : 514 + page - 514 ≡ page = omega arith in
    rw (e, f, g, h) (ap (λ n. Holds Pgn (n * 256)) same)

-- each row but the first is that of a page
pub row_of_groups : (row : ℕ) → 0 < row
    → row_at row ≡ record { field = Pgn; least = pdu2_page (row - 1) * 256; whole = 514 + pdu2_page (row - 1) }
row_of_groups row above = let e : (row == 0) ≡ false = grind (arith, nat_tests) in rw e refl

-- what all numbers of a row have where it is not there
pub whole_property : (row : ℕ) → start_property (row_at row).whole ≡ Holds (row_at row).field (row_at row).least
whole_property zero = refl
whole_property (suc row) =
    let is = row_of_groups (suc row) (omega arith) in
    ap (λ r. start_property r.whole) is ∙ page_property (pdu2_page (suc row - 1)) ∙ sym (ap (λ r. Holds r.field r.least) is)

pub whole_below : (row : ℕ) → row < 65 → (row_at row).whole < 1538
whole_below zero below = omega arith
whole_below (suc row) below = omega (arith, ap (λ r. r.whole) (row_of_groups (suc row) (omega arith)))

module _ (rules : List Rule) (words : ℕ) where
  set_kept : (old new : List ℕ) (property : Property) (position : ℕ) → take (length old) new ≡ old → length old ≤ length new
      → HasSetOf property rules words old position → HasSetOf property rules words new position
  set_kept old new property position before longer held = record {
    within = omega (arith, held.within, longer);
    set = subst (IsSetOf property rules) (sym (kept old new (position * words) words before held.within)) held.set;
  }

  -- a set that was appended stands behind those that were there
  pub set_behind : (property : ℕ → Property) (count before : ℕ) (old new : List ℕ) → length old ≡ before * words
      → Follows property count rules words old new → (k : ℕ) → k < count → HasSetOf (property k) rules words new (before + k)
  set_behind property count before old new size follows k within =
      let at : (before + k) * words ≡ before * words + k * words = add-mul before k words in
      let one : suc k * words ≡ k * words + words = suc-mul k words in
      let fits : suc k * words ≤ count * words = mul-le (suc k) words count words (omega arith) (omega arith) in
      let starts : length old + k * words ≡ (before + k) * words = omega (arith, at, size) in
      record {
        within = omega (arith, at, one, fits, size, follows.grown);
        set = subst (λ n. IsSetOf (property k) rules (take words (drop n new))) starts (follows.sets k within);
      }

  -- the rows below a number are there or have one set for all, and so many are there
  pub record IsMade (bits ranks : List ℕ) (count rank : ℕ) : Type 0 where
    pub grown : length bits ≡ (1538 + rank * 256) * words
    pub few : rank ≤ count
    pub start : (position : ℕ) → position < 1538 → HasSetOf (start_property position) rules words bits position
    pub rows : (row : ℕ) → row < count → HasRow rules words bits ranks row
    pub rest : (row : ℕ) → count ≤ row → get_or ranks row 0 ≡ 0

  pub none_made : (bits ranks : List ℕ) → Follows start_property 1538 rules words [] bits
      → ((row : ℕ) → get_or ranks row 0 ≡ 0) → IsMade bits ranks 0 0
  none_made bits ranks follows none = record {
    grown = omega (arith, follows.grown);
    few = omega arith;
    start = λ position below. subst (HasSetOf (start_property position) rules words bits) (zero-add position)
        (set_behind start_property 1538 0 [] bits (sym (zero-mul words)) follows position below);
    rows = λ row below. absurd (omega arith);
    rest = λ row above. none row;
  }

  pub row_absent : (bits ranks : List ℕ) (count rank : ℕ) → IsMade bits ranks count rank → count < 65
      → list_any (λ rule. splits (row_at count).least (span_of (row_at count).field rule)) rules ≡ false
      → IsMade bits ranks (count + 1) rank
  row_absent bits ranks count rank made below whole = record {
    grown = made.grown;
    few = omega (arith, made.few);
    start = made.start;
    rows = λ row earlier. elim (cases_lt row count) [
      | inl before ↦ made.rows row before
      | inr last ↦ subst (HasRow rules words bits ranks) (sym (is row earlier last)) here
    ];
    rest = λ row above. made.rest row (omega arith);
  }
    where
      is : (row : ℕ) → row < count + 1 → count ≤ row → row ≡ count
      is row earlier last = omega arith

      field : Field
      field = (row_at count).field

      least : ℕ
      least = (row_at count).least

      common : HasSetOf (Holds field least) rules words bits (row_at count).whole
      common = subst (λ p. HasSetOf p rules words bits (row_at count).whole) (whole_property count)
          (made.start (row_at count).whole (whole_below count below))

      here : HasRow rules words bits ranks count
      here number within =
          let unset = made.rest count (omega arith) in
          subst (λ n. HasSetOf (Holds field (least + number)) rules words bits (position_in n (row_at count).whole number))
          (sym unset) (record {
            within = common.within;
            set = λ rule. common.set rule ∙ sym (alike field least number rules rule within whole);
          })

  pub row_added : (old new ranks ranked : List ℕ) (count rank : ℕ) → IsMade old ranks count rank
      → Follows (property_of (section.Row (row_at count).field (row_at count).least)) 256 rules words old new
      → get_or ranked count 0 ≡ rank + 1 → ((other : ℕ) → other ≢ count → get_or ranked other 0 ≡ get_or ranks other 0)
      → IsMade new ranked (count + 1) (rank + 1)
  row_added old new ranks ranked count rank made follows here others = record {
    grown = omega (arith, made.grown, follows.grown, more);
    few = omega (arith, made.few);
    start = λ position below. stays (start_property position) position (made.start position below);
    rows = λ row earlier. elim (cases_lt row count) [
      | inl before ↦ (λ number within. subst
          (λ n. HasSetOf (Holds (row_at row).field ((row_at row).least + number)) rules words new
          (position_in n (row_at row).whole number))
          (sym (others row (λ same. absurd (omega arith)))) (stays _ _ (made.rows row before number within)))
      | inr last ↦ subst (HasRow rules words new ranked) (sym (is row earlier last)) added
    ];
    rest = λ row above. others row (λ same. absurd (omega arith)) ∙ made.rest row (omega arith);
  }
    where
      is : (row : ℕ) → row < count + 1 → count ≤ row → row ≡ count
      is row earlier last = omega arith

      more : (1538 + (rank + 1) * 256) * words ≡ (1538 + rank * 256) * words + 256 * words
      more =
          let sum : 1538 + (rank + 1) * 256 ≡ 1538 + rank * 256 + 256 = omega arith in
          ap (λ n. n * words) sum ∙ add-mul (1538 + rank * 256) 256 words

      stays : (property : Property) (position : ℕ) → HasSetOf property rules words old position
          → HasSetOf property rules words new position
      stays property position held =
          set_kept old new property position follows.before (omega (arith, follows.grown)) held

      at : (number : ℕ) → 1538 + rank * 256 + number ≡ position_in (rank + 1) (row_at count).whole number
      at number = grind (arith, nat_tests)

      added : HasRow rules words new ranked count
      added number within =
          subst (λ n. HasSetOf (Holds (row_at count).field ((row_at count).least + number)) rules words new
          (position_in n (row_at count).whole number)) (sym here)
          (subst (HasSetOf (Holds (row_at count).field ((row_at count).least + number)) rules words new) (at number)
          (set_behind (property_of (section.Row (row_at count).field (row_at count).least)) 256 (1538 + rank * 256) old new
          made.grown follows number within))

pub no_ranks : (rows row : ℕ) → ◌≡◌ {A = ℕ} (get_or (replicate rows 0) row 0) 0
no_ranks zero row = refl
no_ranks (suc rows) zero = refl
no_ranks (suc rows) (suc row) = no_ranks rows row
