use Rattle.std.proofs.Common.{◌≡◌, map, take}
use Rattle.gw_insn.specs.Table.{raw_of}
use Rattle.gw_commands.proofs.table_command.raws.Given as goal

abbrev pub invariant-loop-insn : goal.invariant-loop-insn
invariant-loop-insn l = l.raws.items ≡ map raw_of (take l.insn-index l.insn-items)
