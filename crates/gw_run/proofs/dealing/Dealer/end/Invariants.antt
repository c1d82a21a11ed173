use Rattle.std.proofs.Common.{◌≡◌, ◌<◌, ◌≤◌, ℕ, None, slice_index_or}
use Rattle.gw_run.specs.Dealing.{AreSameRings}
use Rattle.gw_run.specs.Dealt.{Putting, Puts}
use Rattle.gw_run.proofs.dealing.Dealer.end.Given as goal

abbrev pub invariant-loop-port : goal.invariant-loop-port
invariant-loop-port g l = record {
  rings : AreSameRings l.fn.self.ports.items l.self.ports.items;
  ended : (k : ℕ) (d : Putting) → k < l.port
      → Puts (slice_index_or l.fn.self.ports.items k d) None (slice_index_or l.self.ports.items k d);
  others : (k : ℕ) (d : Putting) → l.port ≤ k
      → slice_index_or l.self.ports.items k d ≡ slice_index_or l.fn.self.ports.items k d;
}
