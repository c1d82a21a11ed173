use Rattle.std.proofs.Common.{arith}
use Rattle.gw_table.proofs.Listing.{none_listed, all_listed}
use Rattle.gw_table.proofs.difference.differences_at.Goals as goal

pub loop-index-init : goal.loop-index-init
loop-index-init c = rw c.new-found.ensures.items (none_listed c.args.ingress c.args.old.now c.args.new.now)

pub returns : goal.returns
returns c =
    all_listed c.args.ingress c.args.old.now c.args.new.now c.loop-index.index c.loop-index.found.items
    (omega (arith, c.part_count-index-end.ensures.count, c.loop-index-test.false)) c.loop-index.invariant
