use Rattle.std.proofs.Common.{◌≡◌, ◌++◌, map, take}
use Rattle.gw_insn.specs.Table.{raw_of}
use Rattle.gw_table.proofs.compiler.push_all.Given as goal

abbrev pub invariant-loop-insn : goal.invariant-loop-insn
invariant-loop-insn l = l.code.items ≡ l.initial.code.items ++ map raw_of (take l.insn-index l.insns)
