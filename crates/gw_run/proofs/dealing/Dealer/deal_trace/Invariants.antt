use Rattle.std.proofs.Common.{◌≡◌, ◌<◌, ◌+◌, ℕ, List, [], length, false}
use Rattle.std.specs.Io.KnownBytes.{Consumes}
use Rattle.gw_io.specs.Pieces.{most_reads}
use Rattle.gw_io.specs.Tries.{inner_of, has_failed, has_ended, reads_of}
use Rattle.gw_trace.specs.Progress.{HasRead}
use Rattle.gw_trace.specs.Traces.{reading}
use Rattle.gw_run.specs.Dealing.{AreSameRings, IsDealt}
use Rattle.gw_run.proofs.dealing.Dealer.deal_trace.Given as goal

abbrev pub invariant-pieces : goal.invariant-pieces
invariant-pieces g l = record {
  turn : l.self.turn < length l.self.ports.items;
  rings : AreSameRings l.fn.self.ports.items l.self.ports.items;
  whole : has_failed l.reader ≡ false;
  unended : has_ended l.reader ≡ has_ended l.fn.reader;
  counted : reads_of l.reader + l.pieces.left ≡ most_reads;
  given : (octets : List ℕ)
      × Consumes (g.I.Read.remaining (inner_of l.fn.reader)) (g.I.Read.remaining (inner_of l.reader)) octets
      × HasRead l.trace octets × (IsDealt [] l.fn.self → IsDealt (reading octets).frames l.self);
}

abbrev pub decreases-pieces : goal.decreases-pieces
decreases-pieces g l = l.pieces.left
