use Rattle.std.proofs.Common.{◌<◌, length, arith}
use Rattle.gw_ports.proofs.SettlingAll.{one_more_settled, all_know_more, refused_know_more}
use Rattle.gw_ports.proofs.closing.settle_all.Goals as goal

pub loop-index-preserved : goal.loop-index-preserved
loop-index-preserved c =
    let at = c.loop-index in
    let inside : at.index < length at.ins = let s = at.auto.ins in let t = c.loop-index-test.true in omega arith in
    one_more_settled at.index c.args.told.now.batches c.args.ins.now at.ins c.index-ins-index.result c.settle.new.self
    at.invariant
    inside c.in_ok-settle.ensures.settled

pub returns-clause-settled : goal.returns-clause-settled
returns-clause-settled c = λ k d below. let t = c.loop-index-test.false in c.loop-index.invariant.settled k d (omega arith)

pub returns-clause-more : goal.returns-clause-more
returns-clause-more c =
    all_know_more c.loop-index.index c.args.told.now.batches c.args.ins.now c.loop-index.ins c.loop-index.invariant

pub returns-in_err-settle-clause-more : goal.returns-in_err-settle-clause-more
returns-in_err-settle-clause-more c =
    let at = c.loop-index in
    let inside : at.index < length at.ins = let s = at.auto.ins in let t = c.loop-index-test.true in omega arith in
    refused_know_more at.index c.args.told.now.batches c.args.ins.now at.ins c.index-ins-index.result c.settle.new.self
    at.invariant
    inside c.settle.ensures.more
