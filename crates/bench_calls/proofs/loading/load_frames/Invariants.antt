use Rattle.std.proofs.Common.{◌≡◌, take, All}
use Rattle.gw_frame.specs.Record.{IsRecord}
use Rattle.bench_calls.specs.Calls.{octets_of}
use Rattle.bench_calls.proofs.loading.load_frames.Given as goal

abbrev pub invariant-loop-record : goal.invariant-loop-record
invariant-loop-record l = record {
  frames : l.frames.items ≡ octets_of (take l.record-index l.records);
  valid : All IsRecord l.frames.items;
}
