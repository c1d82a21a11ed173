use Rattle.std.proofs.Common.{◌≡◌, ◌<◌, ◌≤◌, ℕ, slice_index_or}
use Rattle.gw_run.specs.Dealing.{AreSameRings}
use Rattle.gw_run.specs.Dealt.{Flushes, Putting}
use Rattle.gw_run.proofs.dealing.Dealer.flush.Given as goal

abbrev pub invariant-loop-port : goal.invariant-loop-port
invariant-loop-port g l = record {
  turn : l.self.turn ≡ l.fn.self.turn;
  rings : AreSameRings l.fn.self.ports.items l.self.ports.items;
  flushed : (k : ℕ) (d : Putting) → k < l.port
      → Flushes (slice_index_or l.fn.self.ports.items k d) (slice_index_or l.self.ports.items k d);
  others : (k : ℕ) (d : Putting) → l.port ≤ k
      → slice_index_or l.self.ports.items k d ≡ slice_index_or l.fn.self.ports.items k d;
}
