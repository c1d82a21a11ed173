use Rattle.std.proofs.Common.{◌≡◌, ◌+◌, ◌≤◌, ◌++◌, length, map, vec_capacity, vec_len}
use Rattle.std.specs.Vec.Iter.{into_iter_items}
use Rattle.gw_ports.specs.Closing.{columns_of}
use Rattle.gw_ports.proofs.closing.finish.take_columns.Given as goal

-- the columns so far and those of the ports that are left are all, and there is room for these
abbrev pub invariant-loop-port : goal.invariant-loop-port
invariant-loop-port l =
    (map into_iter_items l.columns.items ++ columns_of (into_iter_items l.port-iterator) ≡ columns_of l.fn.outs.items)
    × (vec_len l.columns + length (into_iter_items l.port-iterator) ≤ vec_capacity l.columns)
