use Rattle.std.proofs.Common.{◌≡◌, ◌≤◌, ◌+◌, ◌++◌, if◌then◌else◌, ℕ, List, Option, IsTrue}
use Rattle.std.specs.Iterator.{size}
use Rattle.gw_trace.specs.TraceFrames.{HasTaken, has_ended, most_of}
use Rattle.gw_trace.proofs.trace_frames.TraceFramesIterator.next.Given as goal

abbrev pub invariant-pieces : goal.invariant-pieces
invariant-pieces g l = record {
  read : (before : Option (List ℕ)) (octets : List ℕ) (given : List (List ℕ))
      → HasTaken g.R.Read.remaining before octets given l.fn.self
      → (more : List ℕ) × HasTaken g.R.Read.remaining before (octets ++ more) given l.self;
  left : size (most_of l.self) ≤ size (most_of l.fn.self);
  stays : IsTrue (has_ended l.fn.self) → l.self ≡ l.fn.self;
}

abbrev pub decreases-pieces : goal.decreases-pieces
decreases-pieces g l = if has_ended l.self then 0 else l.self.pieces.left + 1
