-- Indices of a table: the part at the index of a frame decides it, and parts rank as their indices do.
use Rattle.std.proofs.Common.{◌≡◌, ◌≢◌, ℕ, ◌+◌, ◌<◌, ◌≤◌, inl, inr, nat_lt, Bool, true, false, if◌then◌else◌}
use Rattle.std.proofs.Common.{List, length, Some, refl, sym, ap, subst, ◌∙◌, arith}
use Rattle.std.proofs.lemmas.Bool.{lt-ltb, le-ltb, cases_lt, false≢true}
use Rattle.std.proofs.lemmas.Bool.Decides.{nat_tests}
use Rattle.std.proofs.lemmas.List.Sums.{prefix_len-le-length}
use Rattle.std.specs.Prelude.{not, ◌==◌}
use Rattle.std.specs.List.{position_or_len}
use Rattle.gw_ident.specs.Identifier.{is_extended_data}
use Rattle.gw_frame.specs.Record.{IsRecord, word_of}
use Rattle.gw_table.specs.declared.table.Action.{Action}
use Rattle.gw_table.specs.declared.table.Action.TheVariants.{Pass, Block}
use Rattle.gw_table.specs.declared.table.Part.{Part}
use Rattle.gw_table.specs.declared.table.Part.TheVariants as part
use Rattle.gw_table.specs.declared.difference.Difference.{Difference}
use Rattle.gw_table.specs.Table.{Meaning, is_pass, matches, action_for, action_of, Decides}
use Rattle.gw_table.specs.Difference.{IsUnlike, IsDifference, rank}
use Rattle.gw_table.specs.PartIndices.{part_at, index_of, HoldFirst, DecideAt, IsOfIndices}
use Rattle.gw_table.proofs.NeverDecides.{decided_action}

-- what stands at an index
data At (rules index : ℕ) : Part → Type 0 where
  OfRule : index < rules → At rules index (part.Rule index)
  OfDefault : index ≡ rules → At rules index part.Default
  OfOther : rules < index → At rules index part.Other

at : (rules index : ℕ) → At rules index (part_at rules index)
at rules index = by (nat_lt index rules) (index == rules) refl refl
  where
    by : (before same : Bool) → nat_lt index rules ≡ before → (index == rules) ≡ same
        → At rules index (if before then part.Rule index else if same then part.Default else part.Other)
    by true same e f = OfRule (grind (arith, nat_tests))
    by false true e f = OfDefault (grind (arith, nat_tests))
    by false false e f = OfOther (grind (arith, nat_tests))

-- ranks

of_rank : (rules index : ℕ) (p : Part) → At rules index p → rules ≤ 256
    → (rank p ≤ 257) × (index < rules → rank p ≡ index) × (index ≡ rules → rank p ≡ 256) × (rules < index → rank p ≡ 257)
of_rank rules index p (OfRule is) few =
    (omega (arith, is, few), λ e. refl, λ e. absurd (omega (arith, is, e)), λ e. absurd (omega (arith, is, e)))
of_rank rules index p (OfDefault is) few =
    (omega arith, λ e. absurd (omega (arith, is, e)), λ e. refl, λ e. absurd (omega (arith, is, e)))
of_rank rules index p (OfOther is) few =
    (omega arith, λ e. absurd (omega (arith, is, e)), λ e. absurd (omega (arith, is, e)), λ e. refl)

pub rank_fits : (rules index : ℕ) → rules ≤ 256 → rank (part_at rules index) ≤ 257
rank_fits rules index few = (of_rank rules index (part_at rules index) (at rules index) few).0

pub rank_ascends : (rules a b : ℕ) → rules ≤ 256 → a < b → b < rules + 2 → rank (part_at rules a) < rank (part_at rules b)
rank_ascends rules a b few below fits =
    let first = of_rank rules a (part_at rules a) (at rules a) few in
    let second = of_rank rules b (part_at rules b) (at rules b) few in
    elim (cases_lt b rules) [
      | inl in_rules ↦ omega (arith, below, first.1 (omega (arith, below, in_rules)), second.1 in_rules)
      | inr past ↦ elim (cases_lt rules b) [
        | inl beyond ↦ elim (cases_lt a rules) [
          | inl in_rules ↦ omega (arith, few, in_rules, first.1 in_rules, second.3 beyond)
          | inr later ↦ omega (arith, first.2 (omega (arith, later, below, fits)), second.3 beyond)
        ]
        | inr within ↦ (let last = second.2 (omega (arith, past, within)) in
            omega (arith, few, below, within, first.1 (omega (arith, below, within)), last))
      ]
    ]

-- the index of a frame

module _ (table : Meaning) (octets : List ℕ) (port : ℕ) where
  abbrev rules : ℕ
  rules = length table.rules

  pub index_extended : is_extended_data (word_of octets) ≡ true
      → index_of table octets port ≡ position_or_len (matches octets port) table.rules
  index_extended e = rw e refl

  pub index_other : is_extended_data (word_of octets) ≡ false → index_of table octets port ≡ rules + 1
  index_other e = rw e refl

  first_fits : position_or_len (matches octets port) table.rules ≤ rules
  first_fits = prefix_len-le-length (λ rule. not (matches octets port rule)) table.rules

  pub index_fits : index_of table octets port < rules + 2
  index_fits = by (is_extended_data (word_of octets)) refl
    where
      by : (extended : Bool) → is_extended_data (word_of octets) ≡ extended → index_of table octets port < rules + 2
      by true e = let is = index_extended e in let fits = first_fits in omega (arith, is, fits)
      by false e = let is = index_other e in omega (arith, is)

  -- a frame with an index of a rule or `default` is an extended data frame, and one with the index of `other` is not
  pub is_extended : index_of table octets port ≤ rules → is_extended_data (word_of octets) ≡ true
  is_extended below = by (is_extended_data (word_of octets)) refl
    where
      by : (extended : Bool) → is_extended_data (word_of octets) ≡ extended → extended ≡ true
      by true e = refl
      by false e = let is = index_other e in absurd (omega (arith, is, below))

  pub is_no_extended : rules < index_of table octets port → is_extended_data (word_of octets) ≡ false
  is_no_extended above = by (is_extended_data (word_of octets)) refl
    where
      by : (extended : Bool) → is_extended_data (word_of octets) ≡ extended → extended ≡ false
      by true e = let is = index_extended e in let fits = first_fits in absurd (omega (arith, is, fits, above))
      by false e = refl

  -- the part at the index decides
  pub decides_there : (index : ℕ) → index_of table octets port ≡ index → Decides table octets port (part_at rules index)
  decides_there index is = by (part_at rules index) (at rules index)
    where
      by : (p : Part) → At rules index p → Decides table octets port p
      by p (OfRule below) =
          let extended = is_extended (omega (arith, is, below)) in
          let first : position_or_len (matches octets port) table.rules ≡ index = sym (index_extended extended) ∙ is in
          let e = lt-ltb index rules below in
          (extended, rw (first, e) refl)
      by p (OfDefault last) =
          let extended = is_extended (omega (arith, is, last)) in
          let first : position_or_len (matches octets port) table.rules ≡ index = sym (index_extended extended) ∙ is in
          let e = le-ltb index rules (omega (arith, last)) in
          (extended, rw (first, e) refl)
      by p (OfOther above) = is_no_extended (omega (arith, is, above))

  -- its action is what becomes of the frame
  pub acts_there : (index : ℕ) (action : Action) → index_of table octets port ≡ index
      → action_of table (part_at rules index) ≡ Some action → action_for table octets port ≡ action
  acts_there index action is of =
      let found : Some (action_for table octets port) ≡ Some action =
      sym (decided_action table octets port (part_at rules index) (decides_there index is)) ∙ of in cc

-- parts with one action treat no frame unlike

module _ (old new : Meaning) (a b : ℕ) (x y : Action) (of_a : action_of old (part_at (length old.rules) a) ≡ Some x)
    (of_b : action_of new (part_at (length new.rules) b) ≡ Some y) where
  pub alike_there : x ≡ y → (octets : List ℕ) (port : ℕ) → IsUnlike old new octets port → DecideAt old a new b octets port → ⊥
  alike_there same octets port unlike taken =
      let first = acts_there old octets port a x taken.first of_a in
      let second = acts_there new octets port b y taken.second of_b in
      unlike.unlike (ap is_pass (first ∙ same ∙ sym second))

  passes_unlike : (u v : Action) → u ≢ v → is_pass u ≢ is_pass v
  passes_unlike Pass Pass apart e = apart refl
  passes_unlike Pass Block apart e = false≢true (sym e)
  passes_unlike Block Pass apart e = false≢true e
  passes_unlike Block Block apart e = apart refl

  pub unlike_there : x ≢ y → (d : Difference) → DecideAt old a new b d.frame d.port → IsOfIndices old new a b d
      → IsDifference old new d
  unlike_there apart d taken indices =
      let first = acts_there old d.frame d.port a x taken.first of_a in
      let second = acts_there new d.frame d.port b y taken.second of_b in
      record {
        unlike = record {
          carried = taken.carried;
          port_fits = taken.port_fits;
          unlike = λ e. passes_unlike x y apart (ap is_pass (sym first) ∙ e ∙ ap is_pass second);
        };
        pair = (
          subst (Decides old d.frame d.port) (sym indices.first) (decides_there old d.frame d.port a taken.first),
          subst (Decides new d.frame d.port) (sym indices.second) (decides_there new d.frame d.port b taken.second),
        );
      }

-- frames of two indices

module _ (old : Meaning) (a : ℕ) (new : Meaning) (b : ℕ) (octets : List ℕ) (port : ℕ) where
  -- of a rule or `default` each
  pub first_taken : HoldFirst old.rules a new.rules b octets port → DecideAt old a new b octets port
  first_taken found = record {
    carried = (found.carried, inl found.extended);
    port_fits = found.port_fits;
    first = index_extended old octets port found.extended ∙ found.first;
    second = index_extended new octets port found.extended ∙ found.second;
  }

  pub taken_first : a ≤ length old.rules → DecideAt old a new b octets port → HoldFirst old.rules a new.rules b octets port
  taken_first fits taken =
      let extended = is_extended old octets port (omega (arith, fits, taken.first)) in
      record {
        carried = taken.carried.0;
        extended = extended;
        port_fits = taken.port_fits;
        first = sym (index_extended old octets port extended) ∙ taken.first;
        second = sym (index_extended new octets port extended) ∙ taken.second;
      }

  -- of `other` in both
  pub short_taken : IsRecord octets → word_of octets ≡ 0 → port < 16 → a ≡ length old.rules + 1 → b ≡ length new.rules + 1
      → DecideAt old a new b octets port
  short_taken is_record word fits is_a is_b =
      let none : is_extended_data (word_of octets) ≡ false = rw word refl in
      record {
        carried = (is_record, inr (omega (arith, word)));
        port_fits = fits;
        first = index_other old octets port none ∙ sym is_a;
        second = index_other new octets port none ∙ sym is_b;
      }

  -- in both or in neither
  pub other_in_both : DecideAt old a new b octets port → nat_lt (length old.rules) a ≡ nat_lt (length new.rules) b
  other_in_both taken = by (is_extended_data (word_of octets)) refl
    where
      by : (extended : Bool) → is_extended_data (word_of octets) ≡ extended
          → nat_lt (length old.rules) a ≡ nat_lt (length new.rules) b
      by true e =
          let first = first_fits old octets port in
          let second = first_fits new octets port in
          let f = le-ltb (length old.rules) a (omega (arith, first, index_extended old octets port e, taken.first)) in
          let g = le-ltb (length new.rules) b (omega (arith, second, index_extended new octets port e, taken.second)) in
          f ∙ sym g
      by false e =
          let f = lt-ltb (length old.rules) a (omega (arith, index_other old octets port e, taken.first)) in
          let g = lt-ltb (length new.rules) b (omega (arith, index_other new octets port e, taken.second)) in
          f ∙ sym g
