-- What is told of differences that were found, and the status that tells whether there is one.
use Rattle.std.proofs.Common.{◌≡◌, ◌↔◌, ◌⊎◌, ℕ, Bool, true, false, List, [], ◌∷◌, Option, Err}
use Rattle.std.proofs.Common.{inl, inr, refl, ap, sym, ◌∙◌, subst}
use Rattle.std.proofs.Common.{arith}
use Rattle.std.proofs.lemmas.Bool.{true≢false}
use Rattle.gw_table.specs.declared.difference.Difference.{Difference}
use Rattle.gw_table.specs.Difference.{AreAlike, AreDifferences}
use Rattle.gw_answers.specs.declared.refusal.Refusal.TheVariants.{OutOfMemory}
use Rattle.gw_answers.specs.Responses.{Writes, WritesText}
use Rattle.gw_commands.specs.declared.stated.StatedTable.{StatedTable}
use Rattle.gw_commands.specs.Differences.{IsDifferencesText, TellsDifferences, WritesOne, found_status}

-- the status of a text that was written whole
status_is : (text : List ℕ) (done status : ℕ) (old new : Option (List ℕ)) (failed : Bool) → failed ≡ false
    → WritesText text done status old new failed → status ≡ done
status_is text done status old new false whole written = written.0
status_is text done status old new true whole written = absurd (true≢false whole)

none_found : {X : Type 0} (found : List X) → found_status found ≡ 0 → found ≡ []
none_found [] zero = refl
none_found (x ∷ more) zero = absurd (omega (zero, arith))

-- a status that was written whole is 0 exactly where nothing was found
pub tells_alike : {X : Type 0} (AreAlike : Type 0) (IsText : List ℕ → Type 0) (found : List X) (before after : Option (List ℕ))
    (failed : Bool) (status : ℕ) → (found ≡ []) ↔ AreAlike
    → WritesOne IsText (found_status found) status before after failed → failed ≡ false → (status ≡ 0) ↔ AreAlike
tells_alike AreAlike IsText found before after failed status alike written whole =
    let done = status_is written.0 (found_status found) status before after failed whole written.2 in (
      (λ zero. alike.0 (none_found found (sym done ∙ zero))),
      (λ like. done ∙ ap found_status (alike.1 like)),
    )

-- differences that were found and told are those of the tables
pub told_each : (old new : StatedTable) (found items : List Difference) (before after : Option (List ℕ)) (failed : Bool)
    (status : ℕ) → found ≡ items → AreDifferences old.table new.table items
    → ((items ≡ []) ↔ AreAlike old.table new.table)
    → WritesOne (IsDifferencesText old new found) (found_status found) status before after failed
    ⊎ Writes (Err OutOfMemory) status before after failed
    → TellsDifferences old new before after failed status
told_each old new found items before after failed status same differences alike (inl written) =
    let told =
    subst (λ (l : List Difference). WritesOne (IsDifferencesText old new l) (found_status l) status before after failed) same
    written in
    inl (record {
      found = items;
      differences = differences;
      written = told;
      alike =
          tells_alike (AreAlike old.table new.table) (IsDifferencesText old new items) items before after failed status alike
          told;
    })
told_each old new found items before after failed status same differences alike (inr wanting) = inr wanting
