-- What a forwarding finds, from what its parts found.
use Rattle.std.proofs.Common.{◌≡◌, ◌∙◌, ℕ, Bool, List, [], Option, IsTrue, Vec, ◌⊎◌, ap, subst, sym, inl, inr, Result, Ok}
use Rattle.std.proofs.Common.{Err, Global, IfOk, false}
use Rattle.std.specs.List.{AllZip}
use Rattle.gw_ledger.specs.Bounds.{Bounds}
use Rattle.gw_ledger.specs.declared.ledger.InLedger.{InLedger}
use Rattle.gw_policy.specs.Batches.{Pair}
use Rattle.gw_ports.specs.Reports.{IsReport, IsReportOf, Ran}
use Rattle.gw_ports.specs.Runs.{IsRun, NoneLost}
use Rattle.gw_ports.specs.declared.refusals.OfferRefusal.{OfferRefusal}
use Rattle.gw_ports.specs.declared.running.RunRefusal.TheVariants.{NoSuchPort}
use Rattle.gw_answers.specs.declared.policies.PolicySource.{PolicySource}
use Rattle.gw_answers.specs.declared.refusal.Refusal.TheVariants.{OutOfMemory}
use Rattle.gw_run.specs.declared.kept.Kept.{Kept}
use Rattle.gw_run.specs.declared.lines.Shown.{Shown}
use Rattle.gw_run.specs.declared.taking.Taking.{Taking}
use Rattle.gw_run.specs.declared.refusal.ForwardRefusal.{ForwardRefusal}
use Rattle.gw_run.specs.Forwarding.{IsFirst, IsForwarded, IsForwardRefusal, IsTraceRun}
use Rattle.gw_run.specs.Forwarding.{IsKeptOf, IsRunOver, IsStopOf, KeepsRun, NoneStopped, RefusesInputs}
use Rattle.gw_run.specs.Forwarding.{RefusesTrace, report_text}
use Rattle.gw_run.specs.declared.refusal.ForwardRefusal.TheVariants.{Command, Run, Stopped}
use Rattle.gw_run.specs.declared.losses.Losses.{Losses}
use Rattle.gw_run.specs.Tallies.{AreLosses, AreTallies, IsToldOf}

-- under the policies of the sources
pub under_policies : (taking : Taking) (limits : Bounds) (sources : List PolicySource) (texts : List (List ℕ)) (waits : Bool)
    (shown : Shown) (before after : Option (List ℕ)) (failed : Bool) (first : List Pair) (text : List ℕ)
    → IsFirst sources texts first → IsTraceRun taking limits first waits shown before after failed text
    → IsForwarded taking limits sources texts waits shown before after failed text
under_policies taking limits sources texts waits shown before after failed first text policies run =
    record { first = first; policies = policies; run = run }

pub refused_under_policies : (taking : Taking) (limits : Bounds) (sources : List PolicySource) (texts : List (List ℕ))
    (before after : Option (List ℕ)) (failed : Bool) (reads : ℕ) (first : List Pair) (refusal : ForwardRefusal)
    → IsFirst sources texts first → RefusesTrace taking limits first before after failed reads refusal
    → IsForwardRefusal taking limits sources texts before after failed reads refusal
refused_under_policies taking limits sources texts before after failed reads first refusal policies why =
    inr (record { first = first; policies = policies; why = why })

-- memory may be wanting where the reader did not fail
pub memory_refuses : (taking : Taking) (limits : Bounds) (first : List Pair) (before after : Option (List ℕ)) (failed : Bool)
    (reads : ℕ) (refusal : ForwardRefusal) → failed ≡ false → refusal ≡ Command OutOfMemory
    → RefusesTrace taking limits first before after failed reads refusal
memory_refuses taking limits first before after failed reads refusal whole memory =
    subst (RefusesTrace taking limits first before after failed reads) (sym memory) (inl whole)

-- a run of which no batch is published behind the first
pub run_over : {S : Type 0} (steps : S → Option (List ℕ) → S → Type 0) (limits : Bounds) (first : List Pair) (inputs : List S)
    (batches : List (List Pair)) (rests : List S) (ran : Ran) → batches ≡ []
    → IsRun steps limits first inputs batches rests ran → IsRunOver steps limits first inputs ran
run_over steps limits first inputs batches rests ran none run =
    (rests, subst (λ (b : List (List Pair)). IsRun steps limits first inputs b rests ran) none run)

-- its report, and the losses of its ports
pub reported : {S : Type 0} (steps : S → Option (List ℕ) → S → Type 0) (limits : Bounds) (first : List Pair) (inputs : List S)
    (batches : List (List Pair)) (rests : List S) (ran : Ran) (losses : List Losses) → batches ≡ []
    → IsReportOf steps limits first inputs batches rests ran → AllZip (AreLosses limits.ports) ran.outcomes losses
    → IsToldOf limits first ran losses
reported steps limits first inputs batches rests ran losses none report lost = (
  report.frames,
  subst (λ (b : List (List Pair)). IsReport limits first report.frames b ran) none report.reported,
  lost,
)

-- two promises of one result
pub both_ok : {A E : Type 0} (result : Result A E) (P Q : A → Type 0) → IfOk result P → IfOk result Q
    → IfOk result (λ value. P value × Q value)
both_ok (Ok value) P Q one other = (one, other)
both_ok (Err error) P Q one other = tt

-- what is kept, and what refuses, where the run is of another kind too
pub kept_as : (ports : ℕ) (Runs Other : Ran → Type 0) (waits : Bool) (kept : Kept) → ((ran : Ran) → Runs ran → Other ran)
    → KeepsRun ports Runs waits kept → KeepsRun ports Other waits kept
kept_as ports Runs Other waits kept other keeps = (keeps.0, keeps.1, other keeps.0 keeps.2, keeps.3)

pub refuses_as : (Runs Other : Ran → Type 0) (limits : Bounds) (first : List Pair) (refusal : ForwardRefusal)
    → ((ran : Ran) → Runs ran → Other ran) → RefusesInputs Runs limits first refusal → RefusesInputs Other limits first refusal
refuses_as Runs Other limits first (Run NoSuchPort) other refuses = absurd refuses
refuses_as Runs Other limits first (Run why) other refuses = refuses
refuses_as Runs Other limits first (Stopped port why) other refuses = (refuses.0, other refuses.0 refuses.1, refuses.2)
refuses_as Runs Other limits first (Command OutOfMemory) other refuses = tt
refuses_as Runs Other limits first _ other refuses = absurd refuses

-- of a run of which a port stopped, or for whose tallies memory was wanting, and of one of which none did
pub stop_refuses : (Runs : Ran → Type 0) (limits : Bounds) (first : List Pair) (ran : Ran) (refusal : ForwardRefusal) → Runs ran
    → IsStopOf ran.stops refusal ⊎ (refusal ≡ Command OutOfMemory) → RefusesInputs Runs limits first refusal
stop_refuses Runs limits first ran refusal run (inl stop) = stopped refusal stop
  where
    stopped : (refusal : ForwardRefusal) → IsStopOf ran.stops refusal → RefusesInputs Runs limits first refusal
    stopped (Stopped port why) stop = (ran, run, stop)
    stopped _ stop = absurd stop
stop_refuses Runs limits first ran refusal run (inr none) =
    subst (λ (r : ForwardRefusal). RefusesInputs Runs limits first r) (sym none) tt

pub kept_run : (ports : ℕ) (Runs : Ran → Type 0) (waits : Bool) (ran : Ran) (kept : Kept) (ledgers : Vec InLedger Global)
    (stops : List (Option OfferRefusal)) → (kept.ledgers ≡ ledgers) × NoneStopped stops
    → AreTallies ports ran.outcomes kept.lanes.items → ledgers.items ≡ ran.report.ins.items → stops ≡ ran.stops
    → Runs ran → (IsTrue waits → NoneLost ran) → KeepsRun ports Runs waits kept
kept_run ports Runs waits ran kept ledgers stops is tallied counted stopped run lost = (
  ran,
  (ap (λ (v : Vec InLedger Global). v.items) is.0 ∙ counted, tallied),
  run,
  (subst NoneStopped stopped is.1, lost),
)

-- the text of what is kept of a run is that of the run
pub text_of_kept : (ports : ℕ) (shown : Shown) (kept : Kept) (ran : Ran) → IsKeptOf ports kept ran
    → report_text ports shown kept.ledgers.items kept.lanes.items
    ≡ report_text ports shown ran.report.ins.items kept.lanes.items
text_of_kept ports shown kept ran is = ap (λ (l : List InLedger). report_text ports shown l kept.lanes.items) is.0
