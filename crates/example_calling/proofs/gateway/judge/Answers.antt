use Rattle.example_calling.proofs.Judged.{verdicts_are}
use Rattle.example_calling.proofs.gateway.judge.Goals as goal

pub returns-clause-verdicts : goal.returns-clause-verdicts
returns-clause-verdicts c =
    verdicts_are c.args.listing.now c.args.table.now c.args.octets.now c.in-Ok.frame c.in_ok-set.set
    c.verdict.result c.verdict-2.result c.one_answer.ensures.returns c.in-Ok.ensures.read
    c.in_ok-set.ensures.stands c.verdict.ensures c.verdict-2.ensures
