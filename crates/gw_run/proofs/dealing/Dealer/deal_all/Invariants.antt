use Rattle.std.proofs.Common.{◌≡◌, ◌<◌, ◌++◌, ℕ, List, length}
use Rattle.std.specs.Vec.Iter.{into_iter_items}
use Rattle.gw_run.specs.Dealing.{AreSameRings, IsDealt}
use Rattle.gw_run.proofs.dealing.Dealer.deal_all.Given as goal

abbrev pub invariant-loop-frame : goal.invariant-loop-frame
invariant-loop-frame g l = record {
  turn : l.self.turn < length l.self.ports.items;
  rings : AreSameRings l.fn.self.ports.items l.self.ports.items;
  dealt : (given : List (List ℕ)) → IsDealt given l.fn.self
      → (more : List (List ℕ)) × (more ++ into_iter_items l.frame-iterator ≡ l.fn.frames.items) × IsDealt (given ++ more) l.self;
}
