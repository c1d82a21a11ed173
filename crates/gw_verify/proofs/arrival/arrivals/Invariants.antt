use Rattle.std.proofs.Common.{◌≡◌, ◌+◌, length}
use Rattle.gw_verify.specs.Flow.{forms_of}
use Rattle.gw_verify.proofs.Arrivals.{AreNoted}
use Rattle.gw_verify.proofs.arrival.arrivals.Given as goal

abbrev pub invariant-loop-place : goal.invariant-loop-place
invariant-loop-place l = record {
  long : length l.arrivals.items ≡ l.last + 1;
  noted : AreNoted (forms_of l.code) l.word l.place l.arrivals.items;
}
