use Rattle.std.proofs.Common.{◌++◌, map, ap, ◌∙◌}
use Rattle.std.proofs.lemmas.List.{take_all}
use Rattle.gw_insn.specs.Table.{raw_of}
use Rattle.gw_table.proofs.Codes.{insn_pushed}
use Rattle.gw_table.proofs.compiler.push_all.Goals as goal

pub loop-insn-preserved : goal.loop-insn-preserved
loop-insn-preserved c =
    insn_pushed c.args.insns.now c.loop-insn.insn-index _ _ _ _ _ c.loop-insn-test.true c.loop-insn.invariant
    c.encode.ensures.table c.in_ok-push.ensures.items

pub returns : goal.returns
returns c =
    c.loop-insn.invariant
    ∙ ap (λ insns. c.args.code.now.items ++ map raw_of insns)
    (take_all c.loop-insn.insn-index c.args.insns.now c.loop-insn-test.false)
