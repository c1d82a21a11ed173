use Rattle.std.proofs.Common.{◌≡◌, ◌+◌, ◌++◌, length, map, vec_len}
use Rattle.std.specs.Vec.Iter.{into_iter_items}
use Rattle.gw_run.proofs.running.iterators.Given as goal

abbrev pub invariant-loop-list : goal.invariant-loop-list
invariant-loop-list l =
    (map into_iter_items l.inputs.items ++ map (λ list. list.items) (into_iter_items l.list-iterator)
    ≡ map (λ list. list.items) l.fn.lists.items)
    × (vec_len l.inputs + length (into_iter_items l.list-iterator) ≡ vec_len l.fn.lists)
