use Rattle.std.proofs.Common.{arith}
use Rattle.gw_table.proofs.Witnessed.{no_frame}
use Rattle.gw_table.proofs.search.common_frame.Goals as goal

pub returns : goal.returns
returns c =
    no_frame c.args.old.now c.args.a c.args.new.now c.args.b c.loop-number.number (omega arith) c.loop-number.invariant
