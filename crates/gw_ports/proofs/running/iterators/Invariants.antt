use Rattle.std.proofs.Common.{◌≡◌, ◌+◌, ◌++◌, ◌<◌, ℕ, length, map, slice_index, slice_index_or, vec_len}
use Rattle.std.specs.Vec.Iter.{into_iter_items, into_iter_len}
use Rattle.gw_ports.proofs.running.iterators.Given as goal

abbrev pub invariant-loop-list : goal.invariant-loop-list
invariant-loop-list l =
    (map into_iter_items l.inputs.items ++ map (λ list. list.items) (into_iter_items l.list-iterator)
    ≡ map (λ list. list.items) l.fn.lists.items)
    × (vec_len l.inputs + length (into_iter_items l.list-iterator) ≡ vec_len l.fn.lists)
    × (vec_len l.sizes ≡ vec_len l.inputs)
    × ((k : ℕ) (d : _) → k < length l.inputs.items → into_iter_len (slice_index_or l.inputs.items k d)
    ≡ slice_index l.sizes.items k)
