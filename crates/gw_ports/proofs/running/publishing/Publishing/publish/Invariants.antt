use Rattle.std.proofs.Common.{◌≡◌, ℕ, ◌+◌, ◌<◌, ◌++◌, length, slice_index, vec_capacity, vec_len}
use Rattle.std.specs.Vec.Iter.{into_iter_items}
use Rattle.gw_ports.specs.Running.{with_batches}
use Rattle.gw_ports.proofs.running.publishing.Publishing.publish.Given as goal

abbrev pub invariant-loop-batch : goal.invariant-loop-batch
invariant-loop-batch g l =
    (l.yielded ++ into_iter_items l.batch-iterator ≡ l.fn.self.batches.items)
    × (l.operator ≡ with_batches l.initial.operator l.yielded)
    × (vec_len l.fronts ≡ length l.yielded)
    × ((k : ℕ) → k < vec_len l.fronts → slice_index l.fronts.items k ≡ length l.initial.operator.published + k + 1)
    × (vec_capacity l.fronts ≡ vec_capacity l.initial.fronts)
