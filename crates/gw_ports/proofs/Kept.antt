-- A run whose sinks are lists is a run that reports what they keep.
use Rattle.std.proofs.Common.{◌≡◌, ◌∙◌, ℕ, Bool, List, Vec, Global, Option, IsTrue, length, get_or, ap, subst, sym}
use Rattle.gw_ledger.specs.Bounds.{Bounds}
use Rattle.gw_ledger.specs.declared.outcome.FrameCopy.{FrameCopy}
use Rattle.gw_ledger.specs.declared.outcome.Outcome.{Outcome}
use Rattle.gw_policy.specs.Batches.{Pair}
use Rattle.gw_ports.specs.Reports.{HasRoom, IsReportOf, Ran, ran_of}
use Rattle.gw_ports.specs.Running.{AreRoomFor}
use Rattle.gw_ports.specs.Runs.{IsRun, IsRunWith, NoneLost}
use Rattle.gw_ports.specs.Sinks.{Appends}
use Rattle.gw_ports.specs.declared.running.RunEnd.{RunEnd}
use Rattle.gw_ports.specs.declared.running.RunReport.{RunReport}
use Rattle.gw_ports.proofs.Room.{has_room}
use Rattle.gw_ports.proofs.Sinks.{handed_lists}

module _ {S : Type 0} (steps : S → Option (List ℕ) → S → Type 0) (waits : Bool) (limits : Bounds) (first : List Pair)
    (inputs : List S) (outcomes : List (Vec Outcome Global)) (out : List (Vec FrameCopy Global)) (batches : List (List Pair))
    (ended : RunEnd S (Vec Outcome Global) (Vec FrameCopy Global)) (sizes : List ℕ)
    (rooms : AreRoomFor limits.frames sizes outcomes out)
    (is : IsRunWith steps Appends Appends waits limits first inputs outcomes out batches ended) where
  abbrev pub report : RunReport
  report = record {
    outcomes = ended.outcomes;
    stops = ended.stops;
    fronts = ended.fronts;
    refused = ended.refused;
    out = ended.out;
    report = ended.report;
  }

  same : is.ran ≡ ran_of report
  same = λ k. record {
    outcomes = sym (handed_lists outcomes is.ran.outcomes ended.outcomes.items rooms.empty.0 is.outcomes_are).0 k;
    stops = sym is.told.0 k;
    fronts = sym is.told.1 k;
    refused = sym is.told.2 k;
    out = sym (handed_lists out is.ran.out ended.out.items rooms.empty.1 is.out_is).0 k;
    report = sym is.told.3 k;
  }

  pub kept_run : IsRun steps limits first inputs batches ended.inputs.items (ran_of report)
  kept_run = subst (λ (r : Ran). IsRun steps limits first inputs batches ended.inputs.items r) same is.is_run

  pub kept_report : IsReportOf steps limits first inputs batches ended.inputs.items (ran_of report)
  kept_report = subst (λ (r : Ran). IsReportOf steps limits first inputs batches ended.inputs.items r) same is.reported

  pub kept_all : IsTrue waits → NoneLost (ran_of report)
  kept_all wait = subst NoneLost same (is.none_lost wait)

  pub kept_room : length sizes ≡ limits.ports → HasRoom limits.ports report
  kept_room many =
      has_room limits.ports limits.frames sizes report many
      ((handed_lists outcomes is.ran.outcomes ended.outcomes.items rooms.empty.0 is.outcomes_are).1 ∙ rooms.taken)
      (λ k below.
      rooms.enough k below
      ∙ ap (λ (l : List ℕ). get_or l k 0) (sym (handed_lists out is.ran.out ended.out.items rooms.empty.1 is.out_is).1))
