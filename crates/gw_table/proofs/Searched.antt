-- What the search for a point that the rules at two indices decide rests on.
use Rattle.std.proofs.Common.{◌≡◌, ℕ, zero, suc, ◌+◌, ◌<◌, ◌≤◌, Bool, true, false, ◌&&◌, ◌||◌, List, [], ◌∷◌, ◌++◌, length}
use Rattle.std.proofs.Common.{Some, None, Option, Result, Ok, Err, refl, sym, ap, subst, ◌∙◌, arith, get_or}
use Rattle.std.proofs.lemmas.Bool.{false≢true, and_parts}
use Rattle.std.proofs.lemmas.List.Folds.{list_any_at, list_any-append, list_any_more}
use Rattle.std.specs.Prelude.{take, IfOk, MatchOption}
use Rattle.std.specs.List.{slice_get, list_any, position_or_len}
use Rattle.std.specs.Option.{option_map_or}
use Rattle.gw_boxes.specs.declared.boxes.Block.{Block}
use Rattle.gw_boxes.specs.declared.boxes.Point.{Point}
use Rattle.gw_boxes.specs.Boxes.{holds, IsFree, HasNoFree}
use Rattle.gw_boxes.proofs.Callers.{or_assoc, or_false}
use Rattle.gw_table.specs.declared.table.Rule.{Rule}
use Rattle.gw_table.specs.declared.universe.Universe.{Universe}
use Rattle.gw_table.specs.Universes.{whole, block_of, lies_in_rule, holds_if_there, IsDecidedAt}

and_true : (x : Bool) → x ≡ (x && true)
and_true true = refl
and_true false = refl

-- the part of a universe where the rule at an index holds

pub there : (u : Universe) (rules : List Rule) (index : ℕ) (rule : Rule) → slice_get rules index ≡ Some rule
    → (all one both : Block) → all ≡ whole u → one ≡ block_of u.pdu1 rule
    → ((p : Point) → holds p both ≡ (holds p all && holds p one))
    → (p : Point) → holds p both ≡ (holds p (whole u) && holds_if_there u rules index p)
there u rules index rule here all one both is_all is_one is_both p = rw here (is_both p ∙ (rw (is_all, is_one) refl))

pub not_there : (u : Universe) (rules : List Rule) (index : ℕ) → slice_get rules index ≡ None → (all : Block) → all ≡ whole u
    → (p : Point) → holds p all ≡ (holds p (whole u) && holds_if_there u rules index p)
not_there u rules index none all is p = rw none (ap (holds p) is ∙ and_true (holds p (whole u)))

-- one rule more: a box without a point of the part changes nothing for a point of the part

module _ (u : Universe) (p : Point) (rules : List Rule) (i : ℕ) (d : Rule) (below : i < length rules)
    (start now : List Block) where
  one_more : (block : Block) → block ≡ block_of u.pdu1 (get_or rules i d)
      → list_any (holds p) now ≡ (list_any (holds p) start || list_any (lies_in_rule u p) (take i rules))
      → (list_any (holds p) now || holds p block) ≡ (list_any (holds p) start || list_any (lies_in_rule u p) (take (i + 1) rules))
  one_more block is so_far =
      let more = list_any_more (lies_in_rule u p) rules i d below in
      rw (so_far, is, more) (or_assoc (list_any (holds p) start) (list_any (lies_in_rule u p) (take i rules))
      (lies_in_rule u p (get_or rules i d)))

  pub with_box : (block : Block) → block ≡ block_of u.pdu1 (get_or rules i d)
      → list_any (holds p) now ≡ (list_any (holds p) start || list_any (lies_in_rule u p) (take i rules))
      → list_any (holds p) (now ++ block ∷ []) ≡ (list_any (holds p) start || list_any (lies_in_rule u p) (take (i + 1) rules))
  with_box block is so_far =
      list_any-append (holds p) now (block ∷ []) ∙ ap (λ x. list_any (holds p) now || x) (sym (or_false (holds p block)))
      ∙ one_more block is so_far

  pub without_box : (block : Block) → block ≡ block_of u.pdu1 (get_or rules i d) → holds p block ≡ false
      → list_any (holds p) now ≡ (list_any (holds p) start || list_any (lies_in_rule u p) (take i rules))
      → list_any (holds p) now ≡ (list_any (holds p) start || list_any (lies_in_rule u p) (take (i + 1) rules))
  without_box block is apart so_far =
      or_false (list_any (holds p) now) ∙ ap (λ x. list_any (holds p) now || x) (sym apart) ∙ one_more block is so_far

-- a point of the part that lies in no point of a box and the part lies outside the box
pub outside_both : (p : Point) (block part both : Block) → holds p both ≡ (holds p block && holds p part) → holds p part ≡ true
    → holds p both ≡ false → holds p block ≡ false
outside_both p block part both is inside outside =
    and_true (holds p block) ∙ ap (λ x. holds p block && x) (sym inside) ∙ sym is ∙ outside

-- a box whose points of the part are all of the part's has them all
pub hidden : (u : Universe) (rules : List Rule) (i : ℕ) (d : Rule) → i < length rules → (block part both : Block)
    → block ≡ block_of u.pdu1 (get_or rules i d) → ((p : Point) → holds p both ≡ (holds p block && holds p part)) → both ≡ part
    → (p : Point) → holds p part ≡ true → list_any (lies_in_rule u p) rules ≡ true
hidden u rules i d below block part both is shared same p inside =
    let parts = and_parts _ _ (sym (shared p) ∙ ap (holds p) same ∙ inside) in
    list_any_at (lies_in_rule u p) rules i d below (sym (ap (holds p) is) ∙ parts.0)

-- a rule is the first that passes a test where it passes it, and none before it does

pub record IsFirst {A : Type 0} (test : A → Bool) (xs : List A) (index : ℕ) : Type 0 where
  pub before : list_any test (take index xs) ≡ false
  pub here : option_map_or test (slice_get xs index) true ≡ true

first_is : {A : Type 0} (test : A → Bool) (xs : List A) (index : ℕ) → position_or_len test xs ≡ index → IsFirst test xs index
first_is test [] zero is = record { before = refl; here = refl }
first_is test [] (suc index) is = record { before = refl; here = refl }
first_is test (x ∷ xs) zero is = by (test x) refl
  where
    by : (b : Bool) → test x ≡ b → IsFirst test (x ∷ xs) zero
    by true e = record { before = refl; here = e }
    by false e =
        let next : position_or_len test (x ∷ xs) ≡ 1 + position_or_len test xs = rw e refl in absurd (omega (arith, next, is))
first_is test (x ∷ xs) (suc index) is = by (test x) refl (first_is test xs index)
  where
    by : (b : Bool) → test x ≡ b → (position_or_len test xs ≡ index → IsFirst test xs index) → IsFirst test (x ∷ xs) (suc index)
    by true e later = let first : position_or_len test (x ∷ xs) ≡ 0 = rw e refl in absurd (omega (arith, first, is))
    by false e later =
        let next : position_or_len test (x ∷ xs) ≡ 1 + position_or_len test xs = rw e refl in
        let found = later (omega (arith, next, is)) in
        record { before = rw e found.before; here = found.here }

is_first : {A : Type 0} (test : A → Bool) (xs : List A) (index : ℕ) → index ≤ length xs → IsFirst test xs index
    → position_or_len test xs ≡ index
is_first test [] zero fits first = refl
is_first test [] (suc index) fits first = absurd (omega (arith, fits))
is_first test (x ∷ xs) zero fits first = let e : test x ≡ true = first.here in rw e refl
is_first test (x ∷ xs) (suc index) fits first = by (test x) refl (is_first test xs index (omega (arith, fits)))
  where
    by : (b : Bool) → test x ≡ b → (IsFirst test xs index → position_or_len test xs ≡ index)
        → position_or_len test (x ∷ xs) ≡ suc index
    by true e later =
        let some : list_any test (take (suc index) (x ∷ xs)) ≡ true = rw e refl in
        absurd (false≢true (sym first.before ∙ some))
    by false e later =
        let next : position_or_len test (x ∷ xs) ≡ 1 + position_or_len test xs = rw e refl in
        let none : list_any test (take index xs) ≡ false =
        subst (λ b. (b || list_any test (take index xs)) ≡ false) e first.before in
        let there = later (record { before = none; here = first.here }) in
        omega (arith, next, there)

-- no point of a box without points, and a point outside the others, or none

neither : (x y : Bool) → (x || y) ≡ false → (x ≡ false) × (y ≡ false)
neither true y is = absurd (false≢true (sym is))
neither false y is = (refl, is)

module _ (u : Universe) (old : List Rule) (a : ℕ) (new : List Rule) (b : ℕ) (one two part : Block)
    (is_one : (p : Point) → holds p one ≡ (holds p (whole u) && holds_if_there u old a p))
    (is_two : (p : Point) → holds p two ≡ (holds p (whole u) && holds_if_there u new b p))
    (is_part : (p : Point) → holds p part ≡ (holds p one && holds p two)) where
  in_part : (p : Point) → IsDecidedAt u old a new b p → holds p part ≡ true
  in_part p at =
      let e = at.inside in
      let f = (first_is (lies_in_rule u p) old a at.first).here in
      let g = (first_is (lies_in_rule u p) new b at.second).here in
      is_part p ∙ (rw (is_one p, is_two p, e, f, g) refl)

  pub none_there : ((p : Point) → holds p part ≡ false) → (p : Point) → IsDecidedAt u old a new b p → ⊥
  none_there none p at = false≢true (sym (none p) ∙ in_part p at)

  -- nor of a part whose points all lie in boxes of the rules before one of the two indices

  pub hidden_in_old : ((p : Point) → holds p part ≡ true → list_any (lies_in_rule u p) (take a old) ≡ true) → (p : Point)
      → IsDecidedAt u old a new b p → ⊥
  hidden_in_old all p at =
      let none = (first_is (lies_in_rule u p) old a at.first).before in false≢true (sym none ∙ all p (in_part p at))

  pub hidden_in_new : ((p : Point) → holds p part ≡ true → list_any (lies_in_rule u p) (take b new) ≡ true) → (p : Point)
      → IsDecidedAt u old a new b p → ⊥
  hidden_in_new all p at =
      let none = (first_is (lies_in_rule u p) new b at.second).before in false≢true (sym none ∙ all p (in_part p at))

  -- the others have the points of the part that lie in the boxes of the rules before the two indices
  abbrev pub AreBefore : List Block → Type 0
  AreBefore others =
      (p : Point) → holds p part ≡ true
      → list_any (holds p) others ≡ (list_any (lies_in_rule u p) (take a old) || list_any (lies_in_rule u p) (take b new))

  free_is_decided : (others : List Block) → AreBefore others → a ≤ length old → b ≤ length new → (p : Point)
      → IsFree part others p → IsDecidedAt u old a new b p
  free_is_decided others are fits_a fits_b p free =
      let parts = and_parts _ _ (sym (is_part p) ∙ free.inside) in
      let in_one = and_parts _ _ (sym (is_one p) ∙ parts.0) in
      let in_two = and_parts _ _ (sym (is_two p) ∙ parts.1) in
      let before = neither _ _ (sym (are p free.inside) ∙ free.free) in
      record {
        inside = in_one.0;
        first = is_first (lies_in_rule u p) old a fits_a (record { before = before.0; here = in_one.1 });
        second = is_first (lies_in_rule u p) new b fits_b (record { before = before.1; here = in_two.1 });
      }

  none_is_decided : (others : List Block) → AreBefore others → HasNoFree part others → (p : Point)
      → IsDecidedAt u old a new b p → ⊥
  none_is_decided others are none p at =
      let inside = in_part p at in
      let e = (first_is (lies_in_rule u p) old a at.first).before in
      let f = (first_is (lies_in_rule u p) new b at.second).before in
      let nowhere : list_any (holds p) others ≡ false = are p inside ∙ (rw (e, f) refl) in
      false≢true (sym nowhere ∙ none p inside)

  -- by two steps, from no boxes
  pub are_before : (start middle others : List Block) → start ≡ []
      → ((p : Point) → holds p part ≡ true
      → list_any (holds p) middle ≡ (list_any (holds p) start || list_any (lies_in_rule u p) (take a old)))
      → ((p : Point) → holds p part ≡ true
      → list_any (holds p) others ≡ (list_any (holds p) middle || list_any (lies_in_rule u p) (take b new))) → AreBefore others
  are_before start middle others none first second p inside =
      let none_there : list_any (holds p) start ≡ false = rw none refl in
      let e = first p inside in
      second p inside ∙ (rw (e, none_there) refl)

  pub searched : (others : List Block) → AreBefore others → a ≤ length old → b ≤ length new → {E : Type 0}
      (result : Result (Option Point) E)
      → IfOk result (λ found. MatchOption found (HasNoFree part others) (IsFree part others))
      → IfOk result (λ found. MatchOption found ((p : Point) → ¬ IsDecidedAt u old a new b p) (IsDecidedAt u old a new b))
  searched others are fits_a fits_b (Err e) found = found
  searched others are fits_a fits_b (Ok None) none = none_is_decided others are none
  searched others are fits_a fits_b (Ok (Some p)) free = free_is_decided others are fits_a fits_b p free
