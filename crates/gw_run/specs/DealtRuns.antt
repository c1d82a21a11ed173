-- What a run on the frames of a trace does that is read meanwhile.
use Rattle.std.specs.Prelude.{◌≡◌, ◌<◌, ◌⊎◌, ℕ, Bool, List, length, slice_index_or, All, Option, None, Ok, Err, MatchResult}
use Rattle.gw_trace.specs.Shares.{share_of}
use Rattle.gw_trace.specs.Traces.{whole_trace}
use Rattle.gw_run.specs.Dealing.{AreNewRings, AreSameRings, HasPut, RefusesReading}
use Rattle.gw_run.specs.Dealt.{Putting, Puts, TakesItem}
use Rattle.gw_run.specs.Forwarding.{EndsRun, IsTraceInput, RefusesInputs}
use Rattle.gw_run.specs.declared.dealing.Dealer.{Dealer}
use Rattle.gw_run.specs.declared.dealt_run.DealtEnd.{DealtEnd}
use Rattle.gw_run.specs.declared.dealt_run.DealtRun.{DealtRun}
use Rattle.gw_run.specs.declared.dealt_run.WholeEnd.{WholeEnd}
use Rattle.gw_answers.specs.declared.refusal.Refusal.TheVariants.{OutOfMemory}
use Rattle.gw_trace.specs.declared.refusal.TraceRefusal.{TraceRefusal}
use Rattle.gw_trace.specs.declared.refusal.TraceRefusal.TheVariants as trace
use Rattle.gw_run.specs.declared.refusal.ForwardRefusal.{ForwardRefusal}
use Rattle.gw_run.specs.declared.refusal.ForwardRefusal.TheVariants.{Command, Trace}

-- what a run on dealt frames may begin with: the ends of new rings, at which nothing was dealt, and a batch for its ports
pub record CanDeal {R G : Type 0} (run : DealtRun R G) : Type 0 where
  pub ports : 0 < run.limits.ports
  pub rings : AreNewRings run.limits.ports run.dealer.ports.items run.inputs.items
  pub turn : run.dealer.turn ≡ 0
  pub first : All (λ pair. pair.port < run.limits.ports) run.first

-- a trace was dealt: its frames to the ports, and behind them that there is no other
pub record HasDealt {R : Type 0} (before after : Option (List ℕ)) (failed : Bool) (dealer : Dealer R) : Type 0 where
  pub octets : List ℕ
  pub input : IsTraceInput before after failed octets
  pub frames : List (List ℕ)
  pub whole : whole_trace octets ≡ Ok frames
  pub each : (k : ℕ) (d : Putting) → k < length dealer.ports.items
      → (end : Putting) × HasPut (share_of k (length dealer.ports.items) frames) end
      × Puts end None (slice_index_or dealer.ports.items k d)

-- what a run on dealt frames left: the trace was dealt, or why it was not read whole; and the run's end, or why there was none
pub record EndsDealing {R G : Type 0} (waits : Bool) (before after : Option (List ℕ)) (failed : Bool) (reads : ℕ)
    (run : DealtRun R G) (end : DealtEnd R) : Type 0 where
  pub began : CanDeal run
  pub rings : AreSameRings run.dealer.ports.items end.dealer.ports.items
  pub read : MatchResult end.read (λ done. HasDealt before after failed end.dealer) (RefusesReading before after failed reads)
  pub ran : MatchResult end.ran (EndsRun TakesItem run.limits run.first run.inputs.items waits)
      (RefusesInputs (λ ran. ⊥) run.limits run.first)

-- what refuses a trace that was not read whole
abbrev pub reading_refusal : TraceRefusal → ForwardRefusal
reading_refusal trace.OutOfMemory = Command OutOfMemory
reading_refusal why = Trace why

-- what is left of a run whose trace was read whole
abbrev pub IsWholeEnd : {R : Type 0} → DealtEnd R → WholeEnd R → Type 0
IsWholeEnd end whole = (end.read ≡ Ok tt) × (end.ran ≡ Ok whole.ended) × (whole.dealer ≡ end.dealer)

-- what refuses it: what is wrong with the trace, or else what refuses the run
abbrev pub RefusesEnd : {R : Type 0} → DealtEnd R → ForwardRefusal → Type 0
RefusesEnd end refusal =
    ((why : TraceRefusal) × (end.read ≡ Err why) × (refusal ≡ reading_refusal why))
    ⊎ ((end.read ≡ Ok tt) × (end.ran ≡ Err refusal))
