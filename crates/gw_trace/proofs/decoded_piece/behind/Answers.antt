use Rattle.std.proofs.Common.{◌<◌, length, arith}
use Rattle.gw_trace.proofs.Beginnings.{unfinished_is_short}
use Rattle.gw_trace.proofs.decoded_piece.behind.Goals as goal

pub of-requires : goal.of-requires
of-requires c =
    let short : length c.args.scan.now.rest.now < 32 =
    unfinished_is_short c.args.order c.args.scan.now.rest.now (c.requires c.in-None.is) in
    omega arith
