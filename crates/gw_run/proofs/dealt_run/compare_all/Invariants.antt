use Rattle.std.proofs.Common.{◌≡◌, ◌<◌, ◌++◌, ℕ, List, length, slice_index_or}
use Rattle.gw_run.specs.Dealt.{Dealt, Putting, Taken}
use Rattle.gw_run.proofs.dealt_run.compare_all.Given as goal

abbrev pub invariant-loop-port : goal.invariant-loop-port
invariant-loop-port g l = record {
  many : (length l.outs ≡ length l.fn.outs) × (length l.ins ≡ length l.fn.ins);
  outs : (k : ℕ) (d : Taken) → slice_index_or l.outs k d ≡ slice_index_or l.fn.outs k d;
  ins : (k : ℕ) (d : Putting) → slice_index_or l.ins k d ≡ slice_index_or l.fn.ins k d;
  fronts : (k : ℕ) (d : Taken) (e : Putting) → k < l.port
      → (rest : List Dealt) × ((slice_index_or l.fn.outs k d).items ++ rest ≡ (slice_index_or l.fn.ins k e).put);
}
