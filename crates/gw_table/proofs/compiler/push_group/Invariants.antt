use Rattle.std.proofs.Common.{◌≡◌, ◌++◌, map, take}
use Rattle.gw_insn.specs.Table.{raw_of}
use Rattle.gw_table.specs.Emission.{body}
use Rattle.gw_table.proofs.compiler.push_group.Given as goal

abbrev pub invariant-loop-rule : goal.invariant-loop-rule
invariant-loop-rule l = l.code.items ≡ l.initial.code.items ++ map raw_of (body (take l.rule-index l.group))
