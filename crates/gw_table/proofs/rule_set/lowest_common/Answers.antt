use Rattle.std.proofs.Common.{arith}
use Rattle.gw_table.proofs.RuleBits.{lowest_in, none_more, none_common}
use Rattle.gw_table.proofs.rule_set.lowest_common.Goals as goal

pub returns-then-shared-ne0-clause-first : goal.returns-then-shared-ne0-clause-first
returns-then-shared-ne0-clause-first c =
    lowest_in c.args.a.now c.args.b.now c.args.c.now c.args.d.now c.loop-word.word c.loop-word.invariant (omega arith)
    (omega (arith, c.type_inv.d c.loop-word.word))

pub loop-word-preserved : goal.loop-word-preserved
loop-word-preserved c =
    none_more c.args.a.now c.args.b.now c.args.c.now c.args.d.now c.loop-word.word c.loop-word.invariant (omega arith)

pub returns-clause-none : goal.returns-clause-none
returns-clause-none c =
    none_common c.args.a.now c.args.b.now c.args.c.now c.args.d.now c.loop-word.word (omega arith) c.loop-word.invariant
