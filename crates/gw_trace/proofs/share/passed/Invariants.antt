use Rattle.std.proofs.Common.{◌≡◌, drop}
use Rattle.gw_trace.specs.Traces.{contents}
use Rattle.gw_trace.specs.Wholes.{AreRecords}
use Rattle.gw_trace.proofs.share.passed.Given as goal

abbrev pub invariant-longest : goal.invariant-longest
invariant-longest l = record {
  whole : AreRecords l.order l.rest;
  frames : (contents l.order l.rest).frames ≡ drop l.i (contents l.order l.fn.records).frames;
}
