-- What the sets of an index say of a table's rules.
use Rattle.std.proofs.Common.{◌≡◌, ℕ, zero, suc, ◌+◌, ◌-◌, ◌*◌, ◌/◌, ◌%◌, ◌<◌, ◌≤◌, Bool, true, false, List}
use Rattle.std.proofs.Common.{[], ◌∷◌, length, get_or, Some, None, refl, ap, subst, inl, inr, arith, zero-add}
use Rattle.std.specs.List.{position}
use Rattle.std.specs.Prelude.{slice_get, option_map, unwrap_or}
use Rattle.std.proofs.lemmas.Bool.{lt-ltb, le-ltb, cases_lt}
use Rattle.gw_table.specs.declared.refusal.Field.TheVariants.{Pgn, Source, Destination, From}
use Rattle.gw_table.specs.declared.table.Action.{Action}
use Rattle.gw_table.specs.declared.table.Rule.{Rule}
use Rattle.gw_table.specs.declared.rule_set.Property.{Property}
use Rattle.gw_table.specs.declared.rule_set.Property.TheVariants.{Passes, Holds}
use Rattle.gw_table.specs.declared.index.Index.{Index}
use Rattle.gw_table.specs.Table.{is_pass}
use Rattle.gw_table.specs.RuleSets.{marks, IsLowest}
use Rattle.gw_table.specs.Sections.{start_property, pdu2_page, row_of_page}
use Rattle.gw_table.specs.Index.{IsGroup, position_in, group_position, shared, HasSetOf, Indexes}
use Rattle.gw_table.specs.PairFrames.{all_lie}
use Rattle.gw_table.proofs.Holding.{one_if, mark, common_marks, first_position, no_position, lowest_there}
use Rattle.gw_table.proofs.Rows.{page_property, row_of_groups}

module _ (rules : List Rule) (index : Index) (indexed : Indexes rules index) where
  -- where a set stands is the set of a property
  abbrev Has : Property → ℕ → Type 0
  Has property position = HasSetOf property rules index.sets.words index.sets.bits.items position

  pub passing_set : Has Passes 0
  passing_set = indexed.start 0 (omega arith)

  pub source_set : (source : ℕ) → source < 256 → Has (Holds Source source) (258 + source)
  source_set source fits =
      let e = le-ltb (258 + source) 1 (omega arith) in
      let f = le-ltb (258 + source) 2 (omega arith) in
      let g = le-ltb (258 + source) 258 (omega arith) in
      let h = lt-ltb (258 + source) 514 (omega arith) in
      let same : 258 + source - 258 ≡ source = omega arith in
      let is : start_property (258 + source) ≡ Holds Source source = rw (e, f, g, h) (ap (Holds Source) same) in
      subst (λ p. Has p (258 + source)) is (indexed.start (258 + source) (omega arith))

  pub destination_set : (destination : ℕ) → destination < 256 → Has (Holds Destination destination) (2 + (255 - destination))
  destination_set destination fits =
      let position = 2 + (255 - destination) in
      let e = le-ltb position 1 (omega arith) in
      let f = le-ltb position 2 (omega arith) in
      let g = lt-ltb position 258 (omega arith) in
      let same : 255 - (position - 2) ≡ destination = omega arith in
      let is : start_property position ≡ Holds Destination destination = rw (e, f, g) (ap (Holds Destination) same) in
      subst (λ p. Has p position) is (indexed.start position (omega arith))

  pub port_set : (from : ℕ) → from < 256 → Has (Holds From from) (position_in (get_or index.ranks 0 0) 1 from)
  port_set from fits =
      subst (λ n. Has (Holds From n) (position_in (get_or index.ranks 0 0) 1 from)) (zero-add from)
      (indexed.rows 0 (omega arith) from fits)

  -- the row of a page is that of its groups
  of_row : (page last : ℕ) → page < 1024 → 240 ≤ page % 256 → last < 256
      → Has (Holds Pgn (page * 256 + last)) (position_in (get_or index.ranks (row_of_page page) 0) (514 + page) last)
  of_row page last below pdu2 fits =
      let row = row_of_page page in
      let same : pdu2_page (row - 1) ≡ page = omega (arith, pdu2) in
      subst (λ p. Has (Holds Pgn (p * 256 + last)) (position_in (get_or index.ranks row 0) (514 + p) last)) same
      (subst (λ r. Has (Holds r.field (r.least + last)) (position_in (get_or index.ranks row 0) r.whole last))
      (row_of_groups row (omega arith)) (indexed.rows row (omega (arith, below, pdu2)) last fits))

  pub group_set : (pgn : ℕ) → IsGroup pgn → Has (Holds Pgn pgn) (group_position index.ranks pgn)
  group_set pgn group =
      let page = pgn / 256 in
      let whole : page * 256 + pgn % 256 ≡ pgn = omega arith in
      let below : page < 1024 = omega (arith, group.0) in
      elim (cases_lt (page % 256) 240) [
        | inl pdu1 ↦ (let e = lt-ltb (page % 256) 240 pdu1 in
            let first : page * 256 ≡ pgn = omega (arith, group.1 pdu1) in
            rw e (subst (λ n. Has (Holds Pgn n) (514 + page)) first
            (subst (λ p. Has p (514 + page)) (page_property page) (indexed.start (514 + page) (omega (arith, below))))))
        | inr pdu2 ↦ (let e = le-ltb (page % 256) 240 pdu2 in
            rw e (subst (λ n. Has (Holds Pgn n) (position_in (get_or index.ranks (row_of_page page) 0) (514 + page) (pgn % 256)))
            whole (of_row page (pgn % 256) below pdu2 (omega arith))))
      ]

  -- the rules that the sets of four values share are those whose ranges hold the values
  shared_marks : (pgn source destination from : ℕ) → IsGroup pgn → source < 256 → destination < 256 → from < 256
      → (number : ℕ) → shared index pgn source destination from number ≡ mark (all_lie pgn source destination from) rules number
  shared_marks pgn source destination from group fits_source fits_destination fits_from =
      common_marks rules pgn source destination from _ _ _ _ (group_set pgn group).set (source_set source fits_source).set
      (destination_set destination fits_destination).set (port_set from fits_from).set

  -- the first rule whose ranges hold the four values, by what the sets share
  module _ (pgn source destination from : ℕ) (group : IsGroup pgn) (fits_source : source < 256)
      (fits_destination : destination < 256) (fits_from : from < 256) where
    pub none_shared : ((rule : ℕ) → shared index pgn source destination from rule ≡ 0)
        → position (all_lie pgn source destination from) rules ≡ None
    none_shared none =
        let e = no_position (all_lie pgn source destination from) rules _
        (shared_marks pgn source destination from group fits_source fits_destination fits_from) none in
        let f = le-ltb (length rules) (length rules) (omega arith) in
        rw (e, f) refl

    pub first_shared : (number : ℕ) → IsLowest (shared index pgn source destination from) number
        → position (all_lie pgn source destination from) rules ≡ Some number
    first_shared number lowest =
        let lies = all_lie pgn source destination from in
        let same = shared_marks pgn source destination from group fits_source fits_destination fits_from in
        let e = first_position lies rules _ same number lowest in
        let f = lt-ltb number (length rules) (lowest_there lies rules _ same number lowest) in
        rw (e, f) refl

-- a rule's action by its mark among those that pass
pub action_by_mark : (rules : List Rule) (number : ℕ) (passes : Bool) (otherwise : Action)
    → one_if passes ≡ marks Passes rules number → number < length rules
    → passes ≡ is_pass (unwrap_or (option_map (λ rule. rule.action) (slice_get rules number)) otherwise)
action_by_mark [] number passes otherwise marked within = absurd (omega arith)
action_by_mark (rule ∷ rules) zero passes otherwise marked within = same passes (is_pass rule.action) marked
  where
    same : (a b : Bool) → one_if a ≡ one_if b → a ≡ b
    same true true is = refl
    same true false is = absurd (omega (arith, is))
    same false true is = absurd (omega (arith, is))
    same false false is = refl
action_by_mark (rule ∷ rules) (suc number) passes otherwise marked within =
    action_by_mark rules number passes otherwise marked (omega (arith, within))
