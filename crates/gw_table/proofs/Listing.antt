-- The list of differences, pair by pair.
use Rattle.std.proofs.Common.{◌≡◌, ◌≢◌, ℕ, ◌+◌, ◌<◌, ◌≤◌, ◌↔◌, ◌⊎◌, inl, inr, Bool, true, false, List, [], ◌∷◌, ◌++◌, length, All}
use Rattle.std.proofs.Common.{Result, Ok, Err, IfOk, get_or, refl, sym, ap, subst, ◌∙◌, arith}
use Rattle.std.proofs.lemmas.Bool.{cases_lt, false≢true}
use Rattle.std.proofs.lemmas.List.{get_or_append_left, length_push}
use Rattle.std.proofs.lemmas.List.Elements.{All-push}
use Rattle.std.proofs.lemmas.List.Quantifiers.{Any-push, all_pairs_push}
use Rattle.std.specs.List.{Any}
use Rattle.gw_table.specs.declared.difference.Difference.{Difference}
use Rattle.gw_table.specs.Table.{Meaning, table_passes}
use Rattle.gw_table.specs.Difference.{IsUnlike, DecidePair, AreDifferences, AreAlike, rank, pair_rank}
use Rattle.gw_table.specs.declared.ingress.Ingress.{Ingress}
use Rattle.gw_table.specs.Ingress.{IsIngress, all_ports}
use Rattle.gw_table.specs.PartIndices.{part_at, index_of, IsBefore, DecideAt, IsOfIndices, IsOfEarlier, AreListed}
use Rattle.gw_table.specs.PartIndices.{IsDifferenceAt, AreDifferencesAt}
use Rattle.gw_table.proofs.PartsAt.{rank_fits, rank_ascends, index_fits, decides_there}

pub any_kept : {A : Type 0} (P : A → Type 0) (xs : List A) (y : A) → Any P xs → Any P (xs ++ y ∷ [])
any_kept P xs y (k, x, below, here, holds) =
    let len = length_push xs y in
    (k, x, omega (arith, len, below), get_or_append_left xs (y ∷ []) x k below ∙ here, holds)

-- a pair before the next is before this one, or this one
this_or_before : (i j a b : ℕ) → IsBefore i j a (b + 1) → IsBefore i j a b ⊎ ((i ≡ a) × (j ≡ b))
this_or_before i j a b (inl first) = inl (inl first)
this_or_before i j a b (inr second) =
    elim (cases_lt j b) [
      | inl before ↦ inl (inr (second.0, before))
      | inr same ↦ inr (second.0, omega (arith, same, second.1))
    ]

module _ (old new : Meaning) (few_old : length old.rules ≤ 256) (few_new : length new.rules ≤ 256) where
  ranked : (a b : ℕ) (x y : Difference) → a < length old.rules + 2 → b < length new.rules + 2
      → IsOfEarlier old new a b x → IsOfIndices old new a b y → pair_rank x < pair_rank y
  ranked a b x y fits_a fits_b earlier indices =
      let e : rank x.old ≡ rank (part_at (length old.rules) earlier.i) = ap rank earlier.indices.first in
      let f : rank x.new ≡ rank (part_at (length new.rules) earlier.j) = ap rank earlier.indices.second in
      let g : rank y.old ≡ rank (part_at (length old.rules) a) = ap rank indices.first in
      let h : rank y.new ≡ rank (part_at (length new.rules) b) = ap rank indices.second in
      let fits = rank_fits (length new.rules) earlier.j few_new in
      elim earlier.before [
        | inl first ↦ (let ascends = rank_ascends (length old.rules) earlier.i a few_old first fits_a in
            omega (arith, e, f, g, h, fits, ascends))
        | inr second ↦ (let ascends = rank_ascends (length new.rules) earlier.j b few_new second.1 fits_b in
            let same : rank (part_at (length old.rules) earlier.i) ≡ rank (part_at (length old.rules) a) =
            ap (λ n. rank (part_at (length old.rules) n)) second.0 in
            omega (arith, e, f, g, h, same, ascends))
      ]

  all_later : (a b c d : ℕ) (found : List Difference) → ((i j : ℕ) → IsBefore i j a b → IsBefore i j c d)
      → All (IsOfEarlier old new a b) found → All (IsOfEarlier old new c d) found
  all_later a b c d found later earlier k e inside =
      let at = earlier k e inside in
      record { i = at.i; j = at.j; before = later at.i at.j at.before; indices = at.indices }

  to_next : (i j a b : ℕ) → IsBefore i j a b → IsBefore i j a (b + 1)
  to_next i j a b (inl first) = inl first
  to_next i j a b (inr second) = inr (second.0, omega (arith, second.1))

  to_next_row : (i j a b : ℕ) → IsBefore i j a b → IsBefore i j (a + 1) 0
  to_next_row i j a b (inl first) = inl (omega (arith, first))
  to_next_row i j a b (inr second) = inl (omega (arith, second.0))

  from_row : (i j a b : ℕ) → j < b → IsBefore i j (a + 1) 0 → IsBefore i j a b
  from_row i j a b fits (inl first) =
      elim (cases_lt i a) [
        | inl before ↦ inl before
        | inr same ↦ inr (omega (arith, same, first), fits)
      ]
  from_row i j a b fits (inr second) = absurd (omega (arith, second.1))

  this_or_sooner : (octets : List ℕ) (port a b : ℕ) → IsBefore (index_of old octets port) (index_of new octets port) a (b + 1)
      → IsBefore (index_of old octets port) (index_of new octets port) a b
      ⊎ ((index_of old octets port ≡ a) × (index_of new octets port ≡ b))
  this_or_sooner octets port a b = this_or_before (index_of old octets port) (index_of new octets port) a b

  module _ (ingress : Ingress) (a b : ℕ) (fits_a : a < length old.rules + 2) (fits_b : b < length new.rules + 2)
      (found : List Difference) (listed : AreListed ingress old new a b found) where
    -- a pair without a difference
    pub skipped : ((octets : List ℕ) (port : ℕ) → IsUnlike old new octets port → IsIngress ingress port
        → DecideAt old a new b octets port → ⊥) → AreListed ingress old new a (b + 1) found
    skipped none = record {
      sound = listed.sound;
      complete = λ octets port unlike taken before. elim (this_or_sooner octets port a b before) [
        | inl sooner ↦ listed.complete octets port unlike taken sooner
        | inr same ↦ absurd (none octets port unlike taken (record {
          carried = unlike.carried;
          port_fits = unlike.port_fits;
          first = same.0;
          second = same.1;
        }))
      ];
      ascending = listed.ascending;
      earlier = all_later a b a (b + 1) found (λ i j. to_next i j a b) listed.earlier;
    }

    -- a pair with one
    pub pushed : (d : Difference) → IsDifferenceAt ingress old new d → IsOfIndices old new a b d
        → AreListed ingress old new a (b + 1) (found ++ d ∷ [])
    pushed d is indices = record {
      sound = All-push (IsDifferenceAt ingress old new) found d listed.sound is;
      complete = λ octets port unlike taken before. elim (this_or_sooner octets port a b before) [
        | inl sooner ↦ any_kept (λ e. DecidePair old new octets port e.old e.new) found d
            (listed.complete octets port unlike taken sooner)
        | inr same ↦ Any-push (λ e. DecidePair old new octets port e.old e.new) found d
            (subst (λ p. DecidePair old new octets port p d.new) (sym indices.first)
            (subst (λ p. DecidePair old new octets port (part_at (length old.rules) a) p) (sym indices.second)
            (decides_there old octets port a same.0, decides_there new octets port b same.1)))
      ];
      ascending = all_pairs_push (λ x y. pair_rank x < pair_rank y) found d listed.ascending
          (λ k e inside. ranked a b (get_or found k e) d fits_a fits_b (listed.earlier k e inside) indices);
      earlier = All-push (IsOfEarlier old new a (b + 1)) found d
          (all_later a b a (b + 1) found (λ i j. to_next i j a b) listed.earlier)
          (record { i = a; j = b; before = inr (refl, omega arith); indices = indices });
    }

  -- all pairs of a first index
  pub row_done : (ingress : Ingress) (a b : ℕ) (found : List Difference) → length new.rules + 2 ≤ b
      → AreListed ingress old new a b found → AreListed ingress old new (a + 1) 0 found
  row_done ingress a b found past listed = record {
    sound = listed.sound;
    complete = λ octets port unlike taken before. (let fits = index_fits new octets port in
        listed.complete octets port unlike taken (from_row (index_of old octets port) (index_of new octets port) a b
        (omega (arith, past, fits)) before));
    ascending = listed.ascending;
    earlier = all_later a b (a + 1) 0 found (λ i j. to_next_row i j a b) listed.earlier;
  }

module _ (ingress : Ingress) (old new : Meaning) where
  pub none_listed : AreListed ingress old new 0 0 []
  none_listed = record {
    sound = λ k d below. absurd (omega (arith, below));
    complete = λ octets port unlike taken before. elim before [
      | inl first ↦ absurd (omega (arith, first))
      | inr second ↦ absurd (omega (arith, second.1))
    ];
    ascending = λ i j d before below. absurd (omega (arith, below));
    earlier = λ k d below. absurd (omega (arith, below));
  }

  pub all_listed : (a : ℕ) (found : List Difference) → length old.rules + 2 ≤ a → AreListed ingress old new a 0 found
      → AreDifferencesAt ingress old new found
  all_listed a found past listed = record {
    sound = listed.sound;
    complete = λ octets port unlike taken. (let fits = index_fits old octets port in
        listed.complete octets port unlike taken (inl (omega (arith, past, fits))));
    ascending = listed.ascending;
  }

-- every port of a gateway is one of all ports
pub at_all_ports : (old new : Meaning) (found : List Difference) → AreDifferencesAt all_ports old new found
    → AreDifferences old new found
at_all_ports old new found are = record {
  sound = λ k d below. (are.sound k d below).0;
  complete = λ octets port unlike. (let fits = unlike.port_fits in
      are.complete octets port unlike (record { below = fits; apart = λ same. omega (arith, fits, same) }));
  ascending = are.ascending;
}

pub of_all_ports : (ingress : Ingress) → ingress ≡ all_ports → (old new : Meaning) → {E V : Type 0} (items : V → List Difference)
    (result : Result V E) → IfOk result (λ v. AreDifferencesAt ingress old new (items v))
    → IfOk result (λ v. AreDifferences old new (items v))
of_all_ports ingress is old new items (Err e) are = are
of_all_ports ingress is old new items (Ok v) are =
    at_all_ports old new (items v) (subst (λ i. AreDifferencesAt i old new (items v)) is are)

-- no difference is listed where the tables are alike

pub same_or_not : (x y : Bool) → (x ≡ y) ⊎ (x ≢ y)
same_or_not true true = inl refl
same_or_not true false = inr (λ e. false≢true (sym e))
same_or_not false true = inr (λ e. false≢true e)
same_or_not false false = inl refl

pub none_where_alike : (old new : Meaning) (found : List Difference) → AreDifferences old new found
    → (found ≡ []) ↔ AreAlike old new
none_where_alike old new found are = (alike, none found are)
  where
    alike : found ≡ [] → AreAlike old new
    alike is octets port carried fits =
        elim (same_or_not (table_passes old octets port) (table_passes new octets port)) [
          | inl same ↦ same
          | inr apart ↦ (let some = are.complete octets port (record { carried = carried; port_fits = fits; unlike = apart }) in
              let len : length found ≡ 0 = ap length is in
              absurd (omega (arith, len, some.2)))
        ]

    none : (list : List Difference) → AreDifferences old new list → AreAlike old new → list ≡ []
    none [] listed same = refl
    none (d ∷ list) listed same =
        let one = listed.sound 0 d (omega arith) in
        absurd (one.unlike.unlike (same d.frame d.port one.unlike.carried one.unlike.port_fits))

pub none_where_alike_of : (old new : Meaning) → {E V : Type 0} (items : V → List Difference) (result : Result V E)
    → IfOk result (λ v. AreDifferences old new (items v)) → IfOk result (λ v. (items v ≡ []) ↔ AreAlike old new)
none_where_alike_of old new items (Err e) are = are
none_where_alike_of old new items (Ok v) are = none_where_alike old new (items v) are
