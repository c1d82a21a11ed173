-- The ledgers of a run's report: each counts the outcomes of its port, or the copies that were taken out there.
use Rattle.std.proofs.Common.{◌≡◌, ◌∙◌, ℕ, ◌<◌, List, [], map, Option, sym, ap, arith}
use Rattle.std.specs.List.{fold}
use Rattle.gw_ledger.specs.Bounds.{Bounds}
use Rattle.gw_ledger.specs.Ledgers.{ledger_with}
use Rattle.gw_ledger.specs.declared.ledger.InLedger.{InLedger}
use Rattle.gw_ledger.specs.declared.ledger.OutLedger.{OutLedger}
use Rattle.gw_ledger.specs.declared.outcome.FrameCopy.{FrameCopy}
use Rattle.gw_ledger.specs.declared.outcome.Outcome.{Outcome}
use Rattle.gw_policy.specs.Batches.{Pair}
use Rattle.gw_ports.specs.Ends.{Ingress, Egress}
use Rattle.gw_ports.specs.Making.{nothing_counted}
use Rattle.gw_ports.specs.Runs.{IsRun}
use Rattle.gw_ports.specs.Reports.{Ran, and_sent, frames_of, sent_by}
use Rattle.gw_ports.specs.Running.{Drained, Fed}
use Rattle.gw_ports.proofs.Copied.{AreOwn, sent_counted}
use Rattle.gw_ports.proofs.Elementwise.{maps_agree}
use Rattle.gw_ports.proofs.Judged.{outcomes_counted}
use Rattle.gw_ports.proofs.ReportLanes.{PortOutOf, many_outs}
use Rattle.gw_ports.proofs.ReportOutcomes.{PortInOf, many_ins}

module _ {S : Type 0} {steps : S → Option (List ℕ) → S → Type 0} {limits : Bounds} {first : List Pair} {inputs : List S}
    {batches : List (List Pair)} {rests : List S} {ran : Ran} (run : IsRun steps limits first inputs batches rests ran) where
  pub counted : (frames : List (List (List ℕ))) → ((p : ℕ) → p < limits.ports → PortInOf run p (frames_of frames p))
      → ran.report.ins.items ≡ map (fold ledger_with nothing_counted) ran.outcomes
  counted frames port_in =
      run.closed.taken
      ∙ maps_agree (λ (x : Fed S). x.port) (λ (i : Ingress). i.ledger) (λ (x : Fed S). x.outcomes)
      (fold ledger_with nothing_counted) run.done
      (λ k x below is.
      let n = (many_ins run).1 in
      let it = port_in k (omega arith) in
      let same = sym (is x) ∙ it.one_is x in
      ap (λ (d : Fed S). d.port.ledger) same
      ∙ outcomes_counted [] it.feed.port it.did.frames it.one.outcomes it.one.port it.did.done
      ∙ ap (λ (l : InLedger). fold ledger_with l it.one.outcomes) it.new.ledger
      ∙ ap (λ (d : Fed S). fold ledger_with nothing_counted d.outcomes) (sym same))
      ∙ ap (λ (l : List (List Outcome)). map (fold ledger_with nothing_counted) l) (sym run.outcomes_are)

  pub sent : (port_out : (q : ℕ) → q < limits.ports → PortOutOf run q)
      → ((q : ℕ) (below : q < limits.ports) → AreOwn (port_out q below).after.port.lanes)
      → ran.report.outs.items ≡ map sent_by ran.out
  sent port_out own =
      run.closed.sent
      ∙ maps_agree (λ (x : Drained). x.port) (λ (e : Egress). e.ledger) (λ (x : Drained). x.copies) sent_by run.drained
      (λ k x below is.
      let n = (many_outs run).1 in
      let inside : k < limits.ports = omega arith in
      let it = port_out k inside in
      let same = sym (is x) ∙ it.after_is x in
      ap (λ (t : Drained). t.port.ledger) same
      ∙ sent_counted it.before it.after.copies it.after.port it.took.takes (own k inside)
      ∙ ap (λ (l : OutLedger). fold and_sent l it.after.copies) (ap (λ (e : Egress). e.ledger) it.new)
      ∙ ap (λ (t : Drained). sent_by t.copies) (sym same))
      ∙ ap (λ (l : List (List FrameCopy)). map sent_by l) (sym run.out_is)
