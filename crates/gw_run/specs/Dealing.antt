-- What the thread that reads a trace deals to the ports.
use Rattle.std.specs.Prelude.{◌≡◌, ◌<◌, ◌⊎◌, ◌%◌, ℕ, Bool, true, false, List, [], ◌++◌, length, map, slice_index_or}
use Rattle.std.specs.Prelude.{Option, Some, Err}
use Rattle.gw_trace.specs.Shares.{share_of}
use Rattle.gw_trace.specs.Traces.{whole_trace}
use Rattle.gw_trace.specs.declared.refusal.TraceRefusal.{TraceRefusal}
use Rattle.gw_run.specs.Dealt.{Dealt, IsNewRing, Putting, Taken}
use Rattle.gw_run.specs.Forwarding.{IsTraceInput}
use Rattle.gw_run.specs.declared.dealing.Dealer.{Dealer}
use Rattle.gw_trace.specs.declared.refusal.TraceRefusal.TheVariants.{OutOfMemory, ReadFault}
use Rattle.gw_io.specs.Pieces.{most_reads}

-- the ends of new rings, one for each of so many ports: nothing was put at them
pub record AreNewRings (ports : ℕ) (ins : List Putting) (outs : List Taken) : Type 0 where
  pub enough : (length ins ≡ ports) × (length outs ≡ ports)
  pub each : (k : ℕ) (d : Putting) (e : Taken) → k < ports → IsNewRing (slice_index_or ins k d) (slice_index_or outs k e)

-- by port, what was taken is the front of what was put
abbrev pub AreFronts : List Taken → List Putting → Type 0
AreFronts outs ins =
    (k : ℕ) (d : Taken) (e : Putting) → k < length outs
    → (rest : List Dealt) × ((slice_index_or outs k d).items ++ rest ≡ (slice_index_or ins k e).put)

-- the ends of the same rings
pub record AreSameRings (old new : List Putting) : Type 0 where
  pub enough : length new ≡ length old
  pub each : (k : ℕ) (d : Putting) → k < length old → (slice_index_or new k d).ring ≡ (slice_index_or old k d).ring

-- the first of these frames were put at an end, and all of them unless the port was left
pub record HasPut (frames : List (List ℕ)) (end : Putting) : Type 0 where
  pub front : List (List ℕ)
  pub others : List (List ℕ)
  pub parts : frames ≡ front ++ others
  pub put : end.put ≡ map Some front
  pub whole : end.is_left ≡ false → others ≡ []

-- each port was dealt its share of these frames, and the next frame is that of the port whose turn it is
pub record IsDealt {R : Type 0} (frames : List (List ℕ)) (dealer : Dealer R) : Type 0 where
  pub turn : dealer.turn ≡ length frames % length dealer.ports.items
  pub each : (k : ℕ) (d : Putting) → k < length dealer.ports.items
      → HasPut (share_of k (length dealer.ports.items) frames) (slice_index_or dealer.ports.items k d)

-- the reader gave all octets, and this is wrong with them
abbrev pub IsNoTrace : Option (List ℕ) → Option (List ℕ) → Bool → TraceRefusal → Type 0
IsNoTrace before after failed why =
    (octets : List ℕ) × IsTraceInput before after failed octets × (whole_trace octets ≡ Err why)

-- why a trace was not read whole: a read failed, or it was read too often; memory was wanting; or what is wrong with it
abbrev pub RefusesReading : Option (List ℕ) → Option (List ℕ) → Bool → ℕ → TraceRefusal → Type 0
RefusesReading before after failed reads why =
    ((why ≡ ReadFault) × ((failed ≡ true) ⊎ (reads ≡ most_reads))) ⊎ ((why ≡ OutOfMemory) × (failed ≡ false))
    ⊎ IsNoTrace before after failed why
