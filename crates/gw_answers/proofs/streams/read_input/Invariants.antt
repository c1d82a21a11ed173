use Rattle.std.proofs.Common.{◌≡◌, ◌≤◌, ◌+◌, ◌-◌, length, false}
use Rattle.std.specs.Io.KnownBytes.{Consumes}
use Rattle.gw_input.specs.Bounds.{most_octets}
use Rattle.gw_io.specs.Pieces.{most_reads}
use Rattle.gw_io.specs.Tries.{inner_of, has_failed}
use Rattle.gw_answers.proofs.streams.read_input.Given as goal

abbrev pub invariant-pieces : goal.invariant-pieces
invariant-pieces g l = record {
  whole : has_failed l.reader ≡ false;
  consumed : Consumes (g.R.Read.remaining (inner_of l.fn.reader)) (g.R.Read.remaining (inner_of l.reader)) l.input.items;
  enough : most_reads ≤ l.pieces.left + length l.input.items;
}

abbrev pub decreases-pieces : goal.decreases-pieces
decreases-pieces g l = most_octets + 1 - length l.input.items
