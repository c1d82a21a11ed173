use Rattle.std.proofs.Common.{◌≢◌, length, arith}
use Rattle.toml.proofs.Views.{view-Array}
use Rattle.gw_table.proofs.Trees.{span_in-other_array}
use Rattle.gw_table.proofs.values.span_in.Goals as goal

pub returns-in_default-as_slice : goal.returns-in_default-as_slice
returns-in_default-as_slice c =
    let ends = c.in-Array.ends in
    let other : length ends.items ≢ 2 = rw (← c.as_slice.ensures.value) (omega arith) in
    rw (c.in-Array.is, view-Array ends) (span_in-other_array c.args.most ends.items other)

pub returns-in_default-as_slice-2 : goal.returns-in_default-as_slice-2
returns-in_default-as_slice-2 c =
    let ends = c.in-Array.ends in
    let other : length ends.items ≢ 2 = rw (← c.as_slice.ensures.value) (omega arith) in
    rw (c.in-Array.is, view-Array ends) (span_in-other_array c.args.most ends.items other)
