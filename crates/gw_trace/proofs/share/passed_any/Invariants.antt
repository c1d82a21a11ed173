use Rattle.std.proofs.Common.{◌≡◌, drop}
use Rattle.gw_trace.specs.Traces.{contents}
use Rattle.gw_trace.specs.Wholes.{AreRecords}
use Rattle.gw_trace.proofs.share.passed_any.Given as goal

abbrev pub invariant-passed : goal.invariant-passed
invariant-passed l = record {
  whole : AreRecords l.order l.rest;
  frames : (contents l.order l.rest).frames ≡ drop l._i (contents l.order l.fn.records).frames;
}
