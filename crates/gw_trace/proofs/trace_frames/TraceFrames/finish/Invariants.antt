use Rattle.std.proofs.Common.{◌≡◌, ◌++◌, ℕ, List, [], Option, IsTrue}
use Rattle.gw_trace.specs.TraceFrames.{HasTaken, has_ended}
use Rattle.gw_trace.proofs.trace_frames.TraceFrames.finish.Given as goal

abbrev pub invariant-left : goal.invariant-left
invariant-left g l = record {
  read : (before : Option (List ℕ)) (octets : List ℕ) (given : List (List ℕ))
      → HasTaken g.R.Read.remaining before octets given l.fn.self
      → (more : List ℕ) × (left : List (List ℕ)) × HasTaken g.R.Read.remaining before (octets ++ more) (given ++ left) l.self
      × (IsTrue (has_ended l.fn.self) → left ≡ []);
  ended : IsTrue (has_ended l.fn.self) → IsTrue (has_ended l.self);
}
