use Rattle.std.proofs.Common.{◌<◌, ℕ, length}
use Rattle.gw_verify.specs.Arrivals.{AreArrivals}
use Rattle.gw_verify.specs.Flow.{Forms, IsBare}
use Rattle.gw_verify.proofs.Arrivals.{GoesOn}
use Rattle.gw_verify.proofs.path.path_back.Given as goal

abbrev pub invariant-loop-place : goal.invariant-loop-place
invariant-loop-place l = record {
  inside : l.place < length l.arrivals;
  path : (forms : Forms) (word : ℕ) → AreArrivals forms word l.arrivals → IsBare forms l.last word
      → IsBare forms l.place word × GoesOn forms word l.place l.places.items l.last;
}

abbrev pub decreases-loop-place : goal.decreases-loop-place
decreases-loop-place l = l.place
