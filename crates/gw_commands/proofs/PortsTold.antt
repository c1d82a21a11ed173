-- What is told of the tables of a gateway's ports, and which text is refused first.
use Rattle.std.proofs.Common.{◌≡◌, ◌↔◌, ◌⊎◌, ℕ, ◌<◌, Bool, List, [], ◌++◌, length, take, get_or, Option, Some, Err, inl, inr}
use Rattle.std.proofs.Common.{refl, sym, ap, ◌∙◌, subst, append_assoc, slice_get, arith}
use Rattle.std.specs.Prelude.{All}
use Rattle.std.proofs.lemmas.Option.{slice_get_read}
use Rattle.std.proofs.lemmas.Slice.Zip.{AllZip-long}
use Rattle.gw_table.specs.declared.crossing.Change.{Change}
use Rattle.gw_table.specs.declared.crossing.Crossing.{Crossing}
use Rattle.gw_table.specs.Crossings.{AreAlikeEverywhere, AreCrossings}
use Rattle.gw_answers.specs.declared.refusal.Refusal.{Refusal}
use Rattle.gw_answers.specs.declared.refusal.Refusal.TheVariants.{OutOfMemory}
use Rattle.gw_answers.specs.Responses.{Writes}
use Rattle.gw_commands.specs.declared.diff_ports_command.PortTexts.{PortTexts}
use Rattle.gw_commands.specs.declared.stated.StatedChange.{StatedChange}
use Rattle.gw_commands.specs.Differences.{Appends, IsDifferenceLine, WritesOne, found_status}
use Rattle.gw_commands.specs.PortDifferences.{AreChanges, AreStated, IsChange, IsCrossingLine, IsCrossingsText}
use Rattle.gw_commands.specs.PortDifferences.{IsStatedChange, RefusesEitherText, RefusesFirst, TellsCrossings, port_text}
use Rattle.gw_commands.proofs.DifferenceStatus.{tells_alike}
use Rattle.gw_commands.proofs.PlaceByPlace.{all_left}

-- each crossing leaves at a port that has tables
pub egress_there : (stated : List StatedChange) (changes : List Change) (found items : List Crossing) → found ≡ items
    → AreChanges stated changes → AreCrossings changes items → All (λ c. c.egress < length stated) found
egress_there stated changes found items same tables crossings k d within =
    let there : k < length items = omega (arith, within, ap length same) in
    let fits = (crossings.sound k d there).way.egress_fits in
    let count = AllZip-long IsChange stated changes tables in
    let below : (get_or items k d).egress < length stated = omega (arith, fits, count) in
    subst (λ (l : List Crossing). (get_or l k d).egress < length stated) (sym same) below

-- the line of a crossing: its egress port was put behind a text, and then what the tables of this port differ in
pub crossing_told : (stated : List StatedChange) (c : Crossing) (change : StatedChange) (before now after : List ℕ)
    → slice_get stated c.egress ≡ Some change → now ≡ before ++ port_text c.egress
    → Appends (IsDifferenceLine change.old change.new c.difference) now after → Appends (IsCrossingLine stated c) before after
crossing_told stated c change before now after there port told =
    let line = told.0 in (
      port_text c.egress ++ line,
      record { change = change; there = there; difference = line; is_difference = told.1; told = refl },
      told.2 ∙ ap (λ t. t ++ line) port ∙ append_assoc before (port_text c.egress) line,
    )

-- crossings that were found and told are those of the ports' tables
pub told_crossings : (stated : List StatedChange) (changes : List Change) (found items : List Crossing)
    (before after : Option (List ℕ)) (failed : Bool) (status : ℕ) → found ≡ items → AreChanges stated changes
    → AreCrossings changes items → ((items ≡ []) ↔ AreAlikeEverywhere changes)
    → WritesOne (IsCrossingsText stated found) (found_status found) status before after failed
    ⊎ Writes (Err OutOfMemory) status before after failed
    → TellsCrossings stated before after failed status
told_crossings stated changes found items before after failed status same tables crossings alike (inl written) =
    let told =
    subst (λ (l : List Crossing). WritesOne (IsCrossingsText stated l) (found_status l) status before after failed) same
    written in
    inl (record {
      changes = changes;
      tables = tables;
      found = items;
      crossings = crossings;
      written = told;
      alike = tells_alike (AreAlikeEverywhere changes) (IsCrossingsText stated items) items before after failed status alike told;
    })
told_crossings stated changes found items before after failed status same tables crossings alike (inr wanting) = inr wanting

-- a port's text is refused where the texts of the ports before are tables
pub refuses_first : (texts : List PortTexts) (port : ℕ) (own : PortTexts) (stated : List StatedChange) (refusal : Refusal)
    → port < length texts → own ≡ get_or texts port own → AreStated (take port texts) stated → RefusesEitherText own refusal
    → RefusesFirst texts refusal
refuses_first texts port own stated refusal within at known refused = record {
  port = port;
  own = own;
  there = slice_get_read texts (length texts) port own refl within at;
  before = all_left IsStatedChange (take port texts) stated known;
  refused = refused;
}

-- where memory is wanting the texts of the port are tables
pub wants_memory : (texts : PortTexts) (change : StatedChange) → IsStatedChange texts change → RefusesEitherText texts OutOfMemory
wants_memory texts change known = inl (change.old.table, known.old.table)
