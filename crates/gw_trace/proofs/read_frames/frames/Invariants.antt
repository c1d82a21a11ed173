use Rattle.std.proofs.Common.{◌≡◌, ◌+◌, false}
use Rattle.gw_io.specs.Pieces.{most_reads, GivesAtLeast}
use Rattle.gw_io.specs.Tries.{inner_of, has_failed, has_ended, reads_of}
use Rattle.gw_trace.specs.DecodedPieces.{HasGiven}
use Rattle.gw_trace.proofs.read_frames.frames.Given as goal

abbrev pub invariant-pieces : goal.invariant-pieces
invariant-pieces g l = record {
  whole : has_failed l.reader ≡ false;
  unended : has_ended l.reader ≡ has_ended l.fn.reader;
  counted : reads_of l.reader + l.pieces.left ≡ most_reads;
  gave : GivesAtLeast (g.R.Read.remaining (inner_of l.fn.reader)) (g.R.Read.remaining (inner_of l.reader)) (reads_of l.reader);
  given : HasGiven (g.R.Read.remaining (inner_of l.fn.reader)) (g.R.Read.remaining (inner_of l.reader)) l.trace l.frames.items;
}

abbrev pub decreases-pieces : goal.decreases-pieces
decreases-pieces g l = l.pieces.left
