use Rattle.std.proofs.Common.{◌≡◌, ℕ, ◌<◌, length, take, Some, false}
use Rattle.std.specs.Prelude.{slice_get}
use Rattle.gw_policy.specs.Filter.{IsFilter}
use Rattle.gw_policy.specs.Batches.{Pair}
use Rattle.gw_core.specs.Events.{names_no_port}
use Rattle.gw_core.specs.Turns.{index_in}
use Rattle.gw_core.specs.Gateway.{last_index}
use Rattle.gw_core.proofs.in_force.indices_with.Given as goal

abbrev pub invariant-loop-pair : goal.invariant-loop-pair
invariant-loop-pair l = record {
  long : length l.indices ≡ 16;
  there : names_no_port l.fn.ports (take l.pair l.batch) ≡ false;
  sound : (i : ℕ) (pair : Pair) → i < l.pair → slice_get l.batch i ≡ Some pair → IsFilter pair.policy;
  last : (q : ℕ) → q < 16 → index_in l.indices q ≡ last_index q l.fn.index (take l.pair l.batch) 0 (index_in l.fn.latest q);
}
