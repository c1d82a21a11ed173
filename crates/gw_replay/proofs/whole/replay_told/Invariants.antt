use Rattle.std.proofs.Common.{◌≡◌, ◌+◌, false}
use Rattle.gw_io.specs.Pieces.{most_reads, GivesAtLeast}
use Rattle.gw_io.specs.Tries.{inner_of, has_failed, has_ended, reads_of}
use Rattle.gw_replay.specs.Reached.{IsUnderWay}
use Rattle.gw_replay.proofs.whole.replay_told.Given as goal

abbrev pub invariant-pieces : goal.invariant-pieces
invariant-pieces g l = record {
  whole : has_failed l.reader ≡ false;
  unended : has_ended l.reader ≡ has_ended l.fn.reader;
  counted : reads_of l.reader + l.pieces.left ≡ most_reads;
  gave : GivesAtLeast (g.R.Read.remaining (inner_of l.fn.reader)) (g.R.Read.remaining (inner_of l.reader)) (reads_of l.reader);
  writes : has_failed l.writer ≡ false;
  way : IsUnderWay (g.R.Read.remaining (inner_of l.fn.reader)) (g.R.Read.remaining (inner_of l.reader))
      (g.W.Write.contents (inner_of l.fn.writer)) (g.W.Write.contents (inner_of l.writer)) l.script_reader;
}

abbrev pub decreases-pieces : goal.decreases-pieces
decreases-pieces g l = l.pieces.left
