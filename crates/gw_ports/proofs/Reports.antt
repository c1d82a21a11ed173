-- From what the threads of a run did to its report in plain data.
use Rattle.std.proofs.Common.{◌∙◌, ℕ, List, length, Option, ap}
use Rattle.std.proofs.lemmas.List.{length-map}
use Rattle.gw_ledger.specs.Bounds.{Bounds}
use Rattle.gw_policy.specs.Batches.{Pair}
use Rattle.gw_ports.specs.Runs.{IsRun}
use Rattle.gw_ports.specs.Reports.{IsReportOf, Ran}
use Rattle.gw_ports.specs.Running.{Fed}
use Rattle.gw_ports.proofs.ReportCounts.{counted, sent}
use Rattle.gw_ports.proofs.ReportLanes.{copied, lanes_are, own, port_out}
use Rattle.gw_ports.proofs.ReportOutcomes.{asked_frames, many_ins, port_in}
use Rattle.gw_ports.proofs.ReportPublishing.{front_is, fronts_are, published_until}

module _ {S : Type 0} (steps : S → Option (List ℕ) → S → Type 0) (limits : Bounds) (first : List Pair) (inputs : List S)
    (batches : List (List Pair)) (rests : List S) (ran : Ran) (run : IsRun steps limits first inputs batches rests ran) where
  -- the run's report, of the frames that the ports asked for
  pub reported : IsReportOf steps limits first inputs batches rests ran
  reported = record {
    frames = asked_frames run;
    asked = λ port d below. (port_in run port below).asks d;
    reported = record {
      ports = (
        ap length run.outcomes_are ∙ length-map run.done (λ (x : Fed S). x.outcomes) ∙ (many_ins run).1,
        ap length run.stops_are ∙ length-map run.done (λ (x : Fed S). x.stop) ∙ (many_ins run).1,
      );
      judged = λ port below. (port_in run port below).judged;
      lost = λ port below. (port_in run port below).lost;
      stops = λ port below. (port_in run port below).stopped;
      fronts = fronts_are run;
      published = published_until run;
      front = front_is run;
      counted = counted run (asked_frames run) (port_in run);
      sent = sent run (port_out run) (own run (asked_frames run) (port_in run));
      lanes = lanes_are run (asked_frames run) (port_in run);
      copies = copied run (asked_frames run) (port_in run);
      balances = run.closed.balances;
    };
  }
