use Rattle.std.proofs.Common.{arith}
use Rattle.std.proofs.lemmas.List.{length-take}
use Rattle.gw_judge.proofs.PartLengths.{ended_part, endless_part}
use Rattle.gw_judge.proofs.parts.part_len.Goals as goal

pub returns-then-end-text-clause-line : goal.returns-then-end-text-clause-line
returns-then-end-text-clause-line c =
    ended_part c.args.text.now c.position_of-end.result c.position_of-end.ensures.place (omega arith)

pub returns-else-end-text-clause-line : goal.returns-else-end-text-clause-line
returns-else-end-text-clause-line c =
    endless_part c.args.text.now c.position_of-end.result c.position_of-end.ensures.place
    (omega (arith, length-take c.position_of-end.result c.args.text.now))
