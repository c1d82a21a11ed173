use Rattle.std.proofs.Common.{◌≡◌, ◌++◌, ℕ, List, length}
use Rattle.gw_judge.specs.CapturesUnderWay.{HasCounted}
use Rattle.gw_judge.proofs.capture.CaptureJudging.take.Given as goal

abbrev pub invariant-records : goal.invariant-records
invariant-records g l = record {
  read : (octets : List ℕ) → HasCounted (g.D.Decider.fate_by l.decider l.from) l.strict octets l.fn.self
      → (used : List ℕ) × (l.piece ≡ used ++ l.rest)
      × HasCounted (g.D.Decider.fate_by l.decider l.from) l.strict (octets ++ used) l.self;
  grouping : l.self.told.frames.groups.grouping ≡ l.fn.self.told.frames.groups.grouping;
}

abbrev pub decreases-records : goal.decreases-records
decreases-records g l = length l.rest
