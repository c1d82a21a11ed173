-- The list of crossings, port by port, and difference by difference.
use Rattle.std.proofs.Common.{◌≡◌, ℕ, ◌+◌, ◌<◌, ◌≤◌, ◌↔◌, inl, inr, List, [], ◌∷◌, ◌++◌, length, Some}
use Rattle.std.proofs.Common.{get_or, refl, sym, ap, subst, ◌∙◌, arith, slice_get}
use Rattle.std.proofs.lemmas.Bool.{cases_lt}
use Rattle.std.proofs.lemmas.List.{get_or_default}
use Rattle.std.proofs.lemmas.List.Elements.{All-push}
use Rattle.std.proofs.lemmas.List.Quantifiers.{Any-push, all_pairs_push}
use Rattle.std.specs.List.{Any}
use Rattle.gw_table.specs.declared.difference.Difference.{Difference}
use Rattle.gw_table.specs.declared.crossing.Change.{Change}
use Rattle.gw_table.specs.declared.crossing.Crossing.{Crossing}
use Rattle.gw_table.specs.Table.{table_passes}
use Rattle.gw_table.specs.Difference.{IsUnlike, DecidePair, pair_rank}
use Rattle.gw_table.specs.Ingress.{IsIngress}
use Rattle.gw_table.specs.PartIndices.{IsDifferenceAt, AreDifferencesAt}
use Rattle.gw_table.specs.Crossings.{port_count, IsCrossing, IsCrossingBefore, HasPair, AreCrossings, AreAlikeEverywhere}
use Rattle.gw_table.specs.Crossings.{AreCrossingsBelow, IsSooner, AreBegun}
use Rattle.gw_table.proofs.Listing.{any_kept, same_or_not}

module _ (changes : List Change) where
  pub no_crossings : AreCrossingsBelow changes 0 []
  no_crossings = record {
    sound = λ k d below. absurd (omega (arith, below));
    complete = λ octets ingress egress change below. absurd (omega (arith, below));
    ascending = λ i j d before below. absurd (omega (arith, below));
    earlier = λ k d below. absurd (omega (arith, below));
  }

  pub all_crossings : (port : ℕ) (found : List Crossing) → port_count changes ≤ port → AreCrossingsBelow changes port found
      → AreCrossings changes found
  all_crossings port found past below = record {
    sound = below.sound;
    complete = λ octets ingress egress change way. (let fits = way.egress_fits in
        below.complete octets ingress egress change (omega (arith, past, fits)) way);
    ascending = below.ascending;
  }

  module _ (port ports : ℕ) (is_count : ports ≡ port_count changes) (fits : port < ports) (change : Change)
      (tables : slice_get changes port ≡ Some change) (differences : List Difference)
      (are : AreDifferencesAt (record { below = ports; without = port }) change.old.now change.new.now differences) where
    pub begun : (found : List Crossing) → AreCrossingsBelow changes port found → AreBegun changes port differences 0 found
    begun found below = record {
      sound = below.sound;
      complete = below.complete;
      ascending = below.ascending;
      sooner = λ k c inside. inl (below.earlier k c inside);
      listed = λ k d under. absurd (omega (arith, under));
    }

    later_too : (count : ℕ) (c : Crossing) → IsSooner port differences count c → IsSooner port differences (count + 1) c
    later_too count c (inl below) = inl below
    later_too count c (inr (same, (k, under, is))) = inr (same, (k, omega (arith, under), is))

    ranked : (count : ℕ) (c d : Crossing) (e : Difference) → count < length differences → d.egress ≡ port
        → d.difference ≡ get_or differences count e → IsSooner port differences count c → IsCrossingBefore c d
    ranked count c d e inside at is (inl below) = inl (omega (arith, at, below))
    ranked count c d e inside at is (inr (same, (k, under, here))) =
        let ascends = are.ascending k count c.difference under inside in
        let one : pair_rank c.difference ≡ pair_rank (get_or differences k c.difference) = ap pair_rank here in
        let two : pair_rank d.difference ≡ pair_rank (get_or differences count c.difference) =
        ap pair_rank (is ∙ get_or_default differences count e c.difference inside) in
        inr (same ∙ sym at, omega (arith, one, two, ascends))

    abbrev Here : ℕ → Difference → Crossing → Type 0
    Here k d c = (c.egress ≡ port) × (c.difference ≡ get_or differences k d)

    pub pushed : (count : ℕ) (found : List Crossing) (c : Crossing) (e : Difference) → count < length differences
        → c.egress ≡ port → c.difference ≡ get_or differences count e → AreBegun changes port differences count found
        → AreBegun changes port differences (count + 1) (found ++ c ∷ [])
    pushed count found c e inside same is begun =
        let own : c.difference ≡ get_or differences count c.difference =
        is ∙ get_or_default differences count e c.difference inside in
        let at : IsDifferenceAt (record { below = ports; without = port }) change.old.now change.new.now
        c.difference =
        subst (IsDifferenceAt (record { below = ports; without = port }) change.old.now change.new.now) (sym own)
        (are.sound count c.difference inside) in
        record {
          sound = All-push (IsCrossing changes) found c begun.sound (record {
            change = change;
            way = record {
              ingress_fits = (let under = at.1.below in omega (arith, under, is_count));
              egress_fits = omega (arith, same, fits, is_count);
              apart = λ f. at.1.apart (f ∙ same);
              tables = subst (λ q. slice_get changes q ≡ Some change) (sym same) tables;
            };
            difference = at.0;
          });
          complete = λ octets ingress egress other below way unlike.
              any_kept (λ d. (d.egress ≡ egress)
              × DecidePair other.old.now other.new.now octets ingress d.difference.old d.difference.new) found c
              (begun.complete octets ingress egress other below way unlike);
          ascending = all_pairs_push IsCrossingBefore found c begun.ascending
              (λ k d under. ranked count (get_or found k d) c e inside same is (begun.sooner k d under));
          sooner = All-push (IsSooner port differences (count + 1)) found c
              (λ k d under. later_too count (get_or found k d) (begun.sooner k d under))
              (inr (same, (count, omega arith, own)));
          listed = λ k d under. elim (cases_lt k count) [
            | inl before ↦ any_kept (Here k d) found c (begun.listed k d before)
            | inr last ↦ (let at_count : k ≡ count = omega (arith, under, last) in
                Any-push (Here k d) found c (
                  same,
                  own ∙ get_or_default differences count c.difference d inside
                      ∙ ap (λ n. get_or differences n d) (sym at_count),
                ))
          ];
        }

    -- the pair of a frame that the tables of this port treat unlike
    pair_here : (found : List Crossing) (count : ℕ) → length differences ≤ count
        → AreBegun changes port differences count found → (octets : List ℕ) (ingress egress : ℕ) → egress ≡ port
        → IsIngress (record { below = ports; without = port }) ingress
        → IsUnlike change.old.now change.new.now octets ingress → HasPair change octets ingress egress found
    pair_here found count past begun octets ingress egress same taken unlike =
        by (are.complete octets ingress unlike taken)
      where
        by : Any (λ d. DecidePair change.old.now change.new.now octets ingress d.old d.new) differences
            → HasPair change octets ingress egress found
        by (k, x, inside, here, pair) = found_at (begun.listed k x (omega (arith, inside, past)))
          where
            found_at : Any (Here k x) found → HasPair change octets ingress egress found
            found_at (j, y, under, there, at) = (
              j,
              y,
              under,
              there,
              (
                at.0 ∙ sym same,
                subst (λ d. DecidePair change.old.now change.new.now octets ingress d.old d.new) (sym (at.1 ∙ here)) pair,
              ),
            )

    sooner_below : (count : ℕ) (c : Crossing) → IsSooner port differences count c → c.egress < port + 1
    sooner_below count c (inl before) = omega (arith, before)
    sooner_below count c (inr at) = (let same = at.0 in omega (arith, same))

    pub ended : (found : List Crossing) (count : ℕ) → length differences ≤ count → AreBegun changes port differences count found
        → AreCrossingsBelow changes (port + 1) found
    ended found count past begun = record {
      sound = begun.sound;
      complete = λ octets ingress egress other below way unlike. elim (cases_lt egress port) [
        | inl sooner ↦ begun.complete octets ingress egress other sooner way unlike
        | inr last ↦ (let same : egress ≡ port = omega (arith, below, last) in
            let one : Some change ≡ Some other =
            sym tables ∙ ap (slice_get changes) (sym same) ∙ way.tables in
            let is : change ≡ other = cc in
            subst (λ ch. HasPair ch octets ingress egress found) is
            (pair_here found count past begun octets ingress egress same
            (record {
              below = (let under = way.ingress_fits in omega (arith, under, is_count));
              apart = λ e. way.apart (e ∙ sym same);
            })
            (subst (λ ch. IsUnlike ch.old.now ch.new.now octets ingress) (sym is) unlike)))
      ];
      ascending = begun.ascending;
      earlier = λ k d inside. sooner_below count (get_or found k d) (begun.sooner k d inside);
    }

  -- no crossing is listed where the tables are alike
  pub none_where_all_alike : (found : List Crossing) → AreCrossings changes found → (found ≡ []) ↔ AreAlikeEverywhere changes
  none_where_all_alike found are = (alike, none found are)
    where
      alike : found ≡ [] → AreAlikeEverywhere changes
      alike is octets ingress egress change carried way =
          elim (same_or_not (table_passes change.old.now octets ingress) (table_passes change.new.now octets ingress)) [
            | inl same ↦ same
            | inr apart ↦ (let fits = way.ingress_fits in
                let some = are.complete octets ingress egress change way
                (record { carried = carried; port_fits = omega (arith, fits); unlike = apart }) in
                let len : length found ≡ 0 = ap length is in
                absurd (omega (arith, len, some.2)))
          ]

      none : (list : List Crossing) → AreCrossings changes list → AreAlikeEverywhere changes → list ≡ []
      none [] listed same = refl
      none (c ∷ list) listed same =
          let one = listed.sound 0 c (omega arith) in
          absurd (one.difference.unlike.unlike
          (same c.difference.frame c.difference.port c.egress one.change one.difference.unlike.carried one.way))
