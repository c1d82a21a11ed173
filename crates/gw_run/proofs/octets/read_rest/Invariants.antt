use Rattle.std.proofs.Common.{◌≡◌, ◌+◌, ◌++◌, ℕ, List, false}
use Rattle.std.specs.Io.KnownBytes.{Consumes}
use Rattle.gw_io.specs.Pieces.{most_reads}
use Rattle.gw_io.specs.Tries.{inner_of, has_failed, has_ended, reads_of}
use Rattle.gw_run.proofs.octets.read_rest.Given as goal

abbrev pub invariant-pieces : goal.invariant-pieces
invariant-pieces g l = record {
  whole : has_failed l.reader ≡ false;
  unended : has_ended l.reader ≡ has_ended l.fn.reader;
  counted : reads_of l.fn.reader ≡ 0 → reads_of l.reader + l.pieces.left ≡ most_reads;
  consumed : (more : List ℕ) × (l.octets.items ≡ l.fn.octets.items ++ more)
      × Consumes (g.R.Read.remaining (inner_of l.fn.reader)) (g.R.Read.remaining (inner_of l.reader)) more;
}

abbrev pub decreases-pieces : goal.decreases-pieces
decreases-pieces g l = l.pieces.left
