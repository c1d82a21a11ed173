use Rattle.gw_io.specs.Tries.{inner_of}
use Rattle.gw_io.proofs.Callers.{consumed_nothing}
use Rattle.gw_judge.proofs.whole.judge.Goals as goal

pub returns-clause-judged : goal.returns-clause-judged
returns-clause-judged g c =
    let before = g.R.Read.remaining (inner_of c.args.reader.now) in
    c.judge_opened.ensures.judged before (consumed_nothing before)

pub returns-clause-part : goal.returns-clause-part
returns-clause-part g c =
    let before = g.R.Read.remaining (inner_of c.args.reader.now) in
    c.judge_opened.ensures.part before (consumed_nothing before)
