use Rattle.std.proofs.Common.{take}
use Rattle.std.specs.List.{AllZip}
use Rattle.gw_commands.specs.PortDifferences.{IsStatedChange}
use Rattle.gw_commands.proofs.diff_ports_command.stated_changes.Given as goal

abbrev pub invariant-loop-port : goal.invariant-loop-port
invariant-loop-port g l = AllZip IsStatedChange (take l.port l.texts) l.stated.items
