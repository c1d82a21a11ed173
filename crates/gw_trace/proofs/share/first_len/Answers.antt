use Rattle.std.proofs.Common.{arith}
use Rattle.gw_trace.proofs.Beginnings.{whole_of}
use Rattle.gw_trace.proofs.Scanned.{first_of_records}
use Rattle.gw_trace.proofs.share.first_len.Goals as goal

pub captured_len-requires : goal.captured_len-requires
captured_len-requires c =
    (whole_of c.args.order c.args.records.now _
    (first_of_records c.args.order c.args.records.now c.requires.whole c.requires.some).is).header

pub returns-clause-within : goal.returns-clause-within
returns-clause-within c =
    let w = whole_of c.args.order c.args.records.now _
    (first_of_records c.args.order c.args.records.now c.requires.whole c.requires.some).is in
    omega (arith, w.all, c.captured_len.ensures)

pub returns-clause-few : goal.returns-clause-few
returns-clause-few c =
    let w = whole_of c.args.order c.args.records.now _
    (first_of_records c.args.order c.args.records.now c.requires.whole c.requires.some).is in
    omega (arith, w.high, c.captured_len.ensures)
