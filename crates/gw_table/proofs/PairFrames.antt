-- The frames that two parts decide are those of which the ranges of both hold, where no rule before either shares numbers with
-- both.
use Rattle.std.proofs.Common.{◌≡◌, ℕ, zero, suc, ◌<◌, ◌||◌, ◌&&◌, not, if◌then◌else◌, Bool, true, false, List, []}
use Rattle.std.proofs.Common.{◌∷◌, length, take, get_or}
use Rattle.std.proofs.Common.{Some, refl, sym, ap, ◌∙◌, subst, arith}
use Rattle.std.specs.Prelude.{slice_get, All}
use Rattle.std.specs.List.{list_any, position_or_len}
use Rattle.std.proofs.lemmas.Bool.{false≢true, lt-ltb, le-ltb}
use Rattle.std.proofs.lemmas.Bool.Decides.{nat_tests}
use Rattle.std.proofs.lemmas.List.Elements.{All-cons, All-nil}
use Rattle.std.proofs.lemmas.List.Folds.{list_any_none}
use Rattle.std.proofs.lemmas.Option.{slice_get_within}
use Rattle.gw_ident.specs.Identifier.{is_extended_data, parameter_group, source_address, destination_address}
use Rattle.gw_frame.specs.Record.{word_of}
use Rattle.gw_table.specs.declared.table.Span.{Span}
use Rattle.gw_table.specs.declared.table.Rule.{Rule}
use Rattle.gw_table.specs.declared.table.Part.{Part}
use Rattle.gw_table.specs.declared.table.Part.TheVariants as part
use Rattle.gw_table.specs.Table.{Meaning, lies_in, matches, Decides}
use Rattle.gw_table.specs.Difference.{DecidePair}
use Rattle.gw_table.specs.Question.{is_asked, IsAsked}
use Rattle.gw_table.specs.PairFrames.{AsksForPair, all_lie, ShareNumbers, ranges_of, rules_before, AreClear, meet_span, meet}
use Rattle.gw_table.specs.PairFrames.{has_number, has_numbers, is_clear, asking}
use Rattle.gw_table.proofs.NeverDecides.{inside, bounds, all_parts, all_from, decider_holds}
use Rattle.gw_table.proofs.Holding.{one_more}
use Rattle.gw_table.proofs.Prologue.{group_fits, destination_fits}

-- ---- numbers that ranges share

lies_in_both : (n : ℕ) (a b : Span) → lies_in n a ≡ true → lies_in n b ≡ true → lies_in n (meet_span a b) ≡ true
lies_in_both n a b in_a in_b =
    let (low_a, high_a) = bounds n a in_a in
    let (low_b, high_b) = bounds n b in_b in
    inside n (meet_span a b) (omega (arith, low_a, low_b)) (omega (arith, high_a, high_b))

lies_in_first : (n : ℕ) (a b : Span) → lies_in n (meet_span a b) ≡ true → lies_in n a ≡ true
lies_in_first n a b in_both =
    let (low, high) = bounds n (meet_span a b) in_both in inside n a (omega (arith, low)) (omega (arith, high))

lies_in_second : (n : ℕ) (a b : Span) → lies_in n (meet_span a b) ≡ true → lies_in n b ≡ true
lies_in_second n a b in_both =
    let (low, high) = bounds n (meet_span a b) in_both in inside n b (omega (arith, low)) (omega (arith, high))

has_one : (n : ℕ) (span : Span) → lies_in n span ≡ true → has_number span ≡ true
has_one n span is = let (low, high) = bounds n span is in grind (arith, nat_tests)

lowest_lies : (span : Span) → has_number span ≡ true → lies_in span.low span ≡ true
lowest_lies span some = grind (arith, nat_tests)

module _ (pgn source destination from : ℕ) where
  pub lie_in_both : (a b : Rule) → all_lie pgn source destination from a ≡ true → all_lie pgn source destination from b ≡ true
      → all_lie pgn source destination from (meet a b) ≡ true
  lie_in_both a b in_a in_b =
      let x = all_parts _ _ _ _ in_a in
      let y = all_parts _ _ _ _ in_b in
      all_from _ _ _ _ (lies_in_both pgn a.pgn b.pgn x.0 y.0) (lies_in_both source a.source b.source x.1 y.1)
      (lies_in_both destination a.destination b.destination x.2 y.2) (lies_in_both from a.from b.from x.3 y.3)

  pub lie_in_first : (a b : Rule) → all_lie pgn source destination from (meet a b) ≡ true
      → all_lie pgn source destination from a ≡ true
  lie_in_first a b in_both =
      let x = all_parts _ _ _ _ in_both in
      all_from _ _ _ _ (lies_in_first pgn a.pgn b.pgn x.0) (lies_in_first source a.source b.source x.1)
      (lies_in_first destination a.destination b.destination x.2) (lies_in_first from a.from b.from x.3)

  pub lie_in_second : (a b : Rule) → all_lie pgn source destination from (meet a b) ≡ true
      → all_lie pgn source destination from b ≡ true
  lie_in_second a b in_both =
      let x = all_parts _ _ _ _ in_both in
      all_from _ _ _ _ (lies_in_second pgn a.pgn b.pgn x.0) (lies_in_second source a.source b.source x.1)
      (lies_in_second destination a.destination b.destination x.2) (lies_in_second from a.from b.from x.3)

  pub numbers_there : (rule : Rule) → all_lie pgn source destination from rule ≡ true → has_numbers rule ≡ true
  numbers_there rule lie =
      let x = all_parts _ _ _ _ lie in
      all_from _ _ _ _ (has_one pgn rule.pgn x.0) (has_one source rule.source x.1) (has_one destination rule.destination x.2)
      (has_one from rule.from x.3)

lowest_all_lie : (rule : Rule) → has_numbers rule ≡ true
    → all_lie rule.pgn.low rule.source.low rule.destination.low rule.from.low rule ≡ true
lowest_all_lie rule some =
    let x = all_parts _ _ _ _ some in
    all_from _ _ _ _ (lowest_lies rule.pgn x.0) (lowest_lies rule.source x.1) (lowest_lies rule.destination x.2)
    (lowest_lies rule.from x.3)

-- ---- the first rule that holds

any_parts : (a b : Bool) → (a || b) ≡ false → (a ≡ false) × (b ≡ false)
any_parts true b none = absurd (false≢true (sym none))
any_parts false b none = (refl, none)

none_first : (p : Rule → Bool) (rules : List Rule) → list_any p rules ≡ false → position_or_len p rules ≡ length rules
none_first p [] none = refl
none_first p (rule ∷ rules) none =
    let e = any_parts (p rule) (list_any p rules) none in rw e.0 (one_more _ _ (none_first p rules e.1))

first_at : (p : Rule → Bool) (rules : List Rule) (number : ℕ) (rule : Rule) → slice_get rules number ≡ Some rule → p rule ≡ true
    → list_any p (take number rules) ≡ false → position_or_len p rules ≡ number
first_at p [] number rule here holds none = absurd (omega (arith, slice_get_within [] number rule here))
first_at p (first ∷ rules) zero rule here holds none =
    let same : first ≡ rule = cc in let e : p first ≡ true = ap p same ∙ holds in rw e refl
first_at p (first ∷ rules) (suc number) rule here holds none =
    let e = any_parts (p first) (list_any p (take number rules)) none in
    rw e.0 (one_more _ _ (first_at p rules number rule here holds e.1))

weaker : (p q : Rule → Bool) (rules : List Rule) → ((rule : Rule) → p rule ≡ true → q rule ≡ true) → list_any q rules ≡ false
    → list_any p rules ≡ false
weaker p q [] implied none = refl
weaker p q (rule ∷ rules) implied none =
    let e = any_parts (q rule) (list_any q rules) none in by (p rule) refl e.0 (weaker p q rules implied e.1)
  where
    by : (b : Bool) → p rule ≡ b → q rule ≡ false → list_any p rules ≡ false → (b || list_any p rules) ≡ false
    by true is fails rest = absurd (false≢true (sym fails ∙ implied rule is))
    by false is fails rest = rest

-- ---- a part that decides extended data frames

some_is : (a b : Rule) → Some a ≡ Some b → a ≡ b
some_is a b same = cc

whole : (octets : List ℕ) (port : ℕ) (table : Meaning) (ranges : Rule) → port < 16
    → ranges_of table part.Default ≡ Some ranges → matches octets port ranges ≡ true
whole octets port table ranges fits of =
    let word = word_of octets in
    subst (λ r. matches octets port r ≡ true) (some_is _ ranges of)
    (all_from _ _ _ _ (inside (parameter_group word) _ (omega arith) (group_fits word))
    (inside (source_address word) _ (omega arith) (omega arith))
    (inside (destination_address word) _ (omega arith) (destination_fits word))
    (inside port _ (omega arith) (omega (arith, fits))))

module _ (table : Meaning) (octets : List ℕ) (port : ℕ) where
  pub holds_where_it_decides : (by : Part) (ranges : Rule) → ranges_of table by ≡ Some ranges → port < 16
      → Decides table octets port by → (is_extended_data (word_of octets) ≡ true) × (matches octets port ranges ≡ true)
  holds_where_it_decides (part.Rule number) ranges of fits decides =
      (decides.0, decider_holds octets port number table ranges decides of)
  holds_where_it_decides part.Default ranges of fits decides = (decides.0, whole octets port table ranges fits of)
  holds_where_it_decides part.Other ranges of fits decides = absurd (cc)

  pub decides_where_it_holds : (by : Part) (ranges : Rule) → ranges_of table by ≡ Some ranges
      → is_extended_data (word_of octets) ≡ true → matches octets port ranges ≡ true
      → list_any (matches octets port) (rules_before table by) ≡ false → Decides table octets port by
  decides_where_it_holds (part.Rule number) ranges of extended holds none =
      let e = first_at (matches octets port) table.rules number ranges of holds none in
      let f = lt-ltb number (length table.rules) (slice_get_within table.rules number ranges of) in
      (extended, rw (e, f) refl)
  decides_where_it_holds part.Default ranges of extended holds none =
      let e = none_first (matches octets port) table.rules none in
      let f = le-ltb (length table.rules) (length table.rules) (omega arith) in
      (extended, rw (e, f) refl)
  decides_where_it_holds part.Other ranges of extended holds none = absurd (cc)

-- ---- the question that asks for the frames of two parts

both_parts : (a b : Bool) → (a && b) ≡ true → (a ≡ true) × (b ≡ true)
both_parts true b is = (refl, is)
both_parts false b is = absurd (false≢true is)

and_false : (b : Bool) → (b && false) ≡ true → ⊥
and_false true is = false≢true is
and_false false is = false≢true is

asked_extended : (rule : Rule) (octets : List ℕ) (port : ℕ) → is_asked (asking rule) octets port ≡ true
    → (is_extended_data (word_of octets) ≡ true) × (matches octets port rule ≡ true)
asked_extended rule octets port asked = by (is_extended_data (word_of octets)) refl asked
  where
    by : (extended : Bool) → is_extended_data (word_of octets) ≡ extended
        → (lies_in port rule.from && (if extended then lies_in (parameter_group (word_of octets)) rule.pgn
        && lies_in (source_address (word_of octets)) rule.source
        && lies_in (destination_address (word_of octets)) rule.destination
        else false)) ≡ true
        → (extended ≡ true) × (matches octets port rule ≡ true)
    by true is all =
        let word = word_of octets in
        let (from, ranges) = both_parts (lies_in port rule.from) (lies_in (parameter_group word) rule.pgn
        && lies_in (source_address word) rule.source && lies_in (destination_address word) rule.destination) all in
        let x = all_parts true (lies_in (parameter_group word) rule.pgn) (lies_in (source_address word) rule.source)
        (lies_in (destination_address word) rule.destination) ranges in
        (refl, all_from _ _ _ _ x.1 x.2 x.3 from)
    by false is all = absurd (and_false (lies_in port rule.from) all)

holds_asked : (rule : Rule) (octets : List ℕ) (port : ℕ) → is_extended_data (word_of octets) ≡ true
    → matches octets port rule ≡ true → is_asked (asking rule) octets port ≡ true
holds_asked rule octets port extended holds =
    let word = word_of octets in
    let x = all_parts (lies_in (parameter_group word) rule.pgn) (lies_in (source_address word) rule.source)
    (lies_in (destination_address word) rule.destination) (lies_in port rule.from) holds in
    rw (extended, x.0, x.1, x.2, x.3) refl

clear_parts : (a b c : Bool) → (a && not b && not c) ≡ true → (a ≡ true) × (b ≡ false) × (c ≡ false)
clear_parts true false false is = (refl, refl, refl)
clear_parts true false true is = absurd (false≢true is)
clear_parts true true c is = absurd (false≢true is)
clear_parts false b c is = absurd (false≢true is)

module _ (table other : Meaning) (own its : Part) (x y : Rule) (of_own : ranges_of table own ≡ Some x)
    (of_its : ranges_of other its ≡ Some y) where
  abbrev both : Rule
  both = meet x y

  shares : (rule : Rule) → has_numbers (meet rule both) ≡ true → ShareNumbers (rule ∷ x ∷ y ∷ [])
  shares rule some =
      let low = meet rule both in
      let lie = lowest_all_lie low some in
      let Lie : Rule → Type 0 = λ r. all_lie low.pgn.low low.source.low low.destination.low low.from.low r ≡ true in
      let here = lie_in_first _ _ _ _ rule both lie in
      let there = lie_in_second _ _ _ _ rule both lie in
      record {
        pgn = low.pgn.low;
        source = low.source.low;
        destination = low.destination.low;
        from = low.from.low;
        all = All-cons Lie rule (x ∷ y ∷ []) here
            (All-cons Lie x (y ∷ []) (lie_in_first _ _ _ _ x y there) (All-cons Lie y [] (lie_in_second _ _ _ _ x y there)
            (All-nil Lie)));
      }

  none_meets : (rules : List Rule) → All (λ rule. ¬ ShareNumbers (rule ∷ x ∷ y ∷ [])) rules
      → list_any (λ rule. has_numbers (meet rule both)) rules ≡ false
  none_meets rules apart = list_any_none (λ rule. has_numbers (meet rule both)) rules (λ k d below.
      by (get_or rules k d) (has_numbers (meet (get_or rules k d) both)) refl (apart k d below))
    where
      by : (rule : Rule) (some : Bool) → has_numbers (meet rule both) ≡ some → ¬ ShareNumbers (rule ∷ x ∷ y ∷ []) → some ≡ false
      by rule true is apart = absurd (apart (shares rule is))
      by rule false is apart = refl

  pub clear_there : AreClear table own other its → is_clear (rules_before table own) (rules_before other its) both ≡ true
  clear_there h =
      let same_own : h.own_ranges ≡ x = cc in
      let same_its : h.its_ranges ≡ y = cc in
      let shared : ShareNumbers (x ∷ y ∷ []) = subst (λ r. ShareNumbers (r ∷ y ∷ [])) same_own
      (subst (λ r. ShareNumbers (h.own_ranges ∷ r ∷ [])) same_its h.some) in
      let lie = lie_in_both shared.pgn shared.source shared.destination shared.from x y (shared.all 0 x (omega arith))
      (shared.all 1 x (omega arith)) in
      let some = numbers_there shared.pgn shared.source shared.destination shared.from both lie in
      let Apart : Rule → Rule → List Rule → Type 0 = λ a b rules. All (λ rule. ¬ ShareNumbers (rule ∷ a ∷ b ∷ [])) rules in
      let none = none_meets (rules_before table own) (subst (λ r. Apart r y (rules_before table own)) same_own
      (subst (λ r. Apart h.own_ranges r (rules_before table own)) same_its h.own_clear)) in
      let no_other = none_meets (rules_before other its) (subst (λ r. Apart r y (rules_before other its)) same_own
      (subst (λ r. Apart h.own_ranges r (rules_before other its)) same_its h.its_clear)) in
      rw (some, none, no_other) refl

  -- where a frame lies in both, no rule before a part holds of it
  none_before : (rules : List Rule) (octets : List ℕ) (port : ℕ) → matches octets port both ≡ true
      → list_any (λ rule. has_numbers (meet rule both)) rules ≡ false → list_any (matches octets port) rules ≡ false
  none_before rules octets port lie =
      weaker (matches octets port) (λ rule. has_numbers (meet rule both)) rules
      (λ rule holds. numbers_there _ _ _ _ (meet rule both) (lie_in_both _ _ _ _ rule both holds lie))

  pub asks_for_pair : is_clear (rules_before table own) (rules_before other its) both ≡ true
      → AsksForPair table own other its (asking both)
  asks_for_pair clear octets port carried fits = (to, back)
    where
      to : DecidePair table other octets port own its → IsAsked (asking both) octets port
      to decided =
          let in_own = holds_where_it_decides table octets port own x of_own fits decided.0 in
          let in_its = holds_where_it_decides other octets port its y of_its fits decided.1 in
          record {
            carried = carried;
            port_fits = fits;
            asked = holds_asked both octets port in_own.0 (lie_in_both _ _ _ _ x y in_own.1 in_its.1);
          }

      back : IsAsked (asking both) octets port → DecidePair table other octets port own its
      back asked =
          let (extended, lie) = asked_extended both octets port asked.asked in
          let parts = clear_parts _ _ _ clear in (
            decides_where_it_holds table octets port own x of_own extended (lie_in_first _ _ _ _ x y lie)
                (none_before (rules_before table own) octets port lie parts.1),
            decides_where_it_holds other octets port its y of_its extended (lie_in_second _ _ _ _ x y lie)
                (none_before (rules_before other its) octets port lie parts.2),
          )
