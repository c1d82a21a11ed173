use Rattle.std.proofs.Common.{◌≡◌, ◌∙◌, ◌⊎◌, inl, inr, ◌<◌, ℕ, List, length, slice_index_or}
use Rattle.std.specs.Borrow.{Bor}
use Rattle.std.specs.List.{Any}
use Rattle.std.proofs.lemmas.List.{get_or_default}
use Rattle.std.proofs.lemmas.Result.{err_from_is_err_and}
use Rattle.gw_answers.specs.Policies.{NamesFile, RefusesFile}
use Rattle.gw_run.specs.Forwarding.{RefusesNamed}
use Rattle.gw_answers.specs.declared.policies.PolicySource.{PolicySource}
use Rattle.gw_answers.specs.declared.policies.PolicySource.TheVariants.{Opening, Listing, Table}
use Rattle.gw_answers.specs.declared.refusal.Refusal.{Refusal}
use Rattle.gw_answers.specs.declared.refusal.Refusal.TheVariants.{ReadFault, TooMuchInput, OutOfMemory}
use Rattle.gw_run.proofs.files.texts.Goals.{in-Listing, in-Listing-2}
use Rattle.gw_run.proofs.files.texts.Goals as goal

-- a port's source names a file
named_file : (sources : List PolicySource) (port : ℕ) (file : Bor (List ℕ)) → port < length sources
    → (slice_index_or sources port Opening ≡ Listing file) ⊎ (slice_index_or sources port Opening ≡ Table file)
    → Any NamesFile sources
named_file sources port file below (inl is) =
    (port, Listing file, below, get_or_default sources port (Listing file) Opening below ∙ is, tt)
named_file sources port file below (inr is) =
    (port, Table file, below, get_or_default sources port (Table file) Opening below ∙ is, tt)

-- what refuses a file refuses the sources, where one names a file
refused_by : (sources : List PolicySource) (refusal : Refusal) → Any NamesFile sources → RefusesFile refusal
    → RefusesNamed sources refusal
refused_by sources ReadFault file refused = (file, refused)
refused_by sources TooMuchInput file refused = (file, refused)
refused_by sources OutOfMemory file refused = refused
refused_by sources _ file refused = absurd refused

pub returns-in_err-text-in-Listing-clause-refused : goal.returns-in_err-text-in-Listing-clause-refused
returns-in_err-text-in-Listing-clause-refused g c =
    let sources = c.args.sources.now in
    let port = c.loop-port.port in
    let below = c.loop-port-test.true in
    let file : Any NamesFile sources = elim c.in-Listing-1.branch [
      | in-Listing w ↦ named_file sources port w.in-Listing.file below w.in-Listing.is
      | in-Listing-2 w ↦ named_file sources port w.in-Listing.file below w.in-Listing.is
    ] in
    let p = err_from_is_err_and c.from_residual.result c.from_residual.ensures.1 in
    rw (p.1, p.2) (refused_by sources c.in_err-text-in-Listing.field-0.0 file c.in_err-text-in-Listing.ensures)
