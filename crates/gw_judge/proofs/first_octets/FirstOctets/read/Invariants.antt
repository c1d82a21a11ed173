use Rattle.std.proofs.Common.{◌-◌, ◌≡◌, ◌≤◌, length, take}
use Rattle.std.specs.Io.KnownBytes.{Consumes}
use Rattle.gw_io.specs.Tries.{inner_of, has_failed}
use Rattle.gw_judge.proofs.first_octets.FirstOctets.read.Given as goal

abbrev pub invariant-octets : goal.invariant-octets
invariant-octets g l = record {
  few : l.len ≤ 4;
  sized : length l.octets ≡ 4;
  whole : has_failed l.reader ≡ has_failed l.fn.reader;
  consumed : Consumes (g.R.Read.remaining (inner_of l.fn.reader)) (g.R.Read.remaining (inner_of l.reader)) (take l.len l.octets);
}

abbrev pub decreases-octets : goal.decreases-octets
decreases-octets g l = 4 - l.len
