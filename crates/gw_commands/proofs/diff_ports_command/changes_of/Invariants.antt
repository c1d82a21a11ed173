use Rattle.std.proofs.Common.{take}
use Rattle.std.specs.List.{AllZip}
use Rattle.gw_commands.specs.PortDifferences.{IsChange}
use Rattle.gw_commands.proofs.diff_ports_command.changes_of.Given as goal

abbrev pub invariant-loop-port : goal.invariant-loop-port
invariant-loop-port l = AllZip IsChange (take l.port-index l.stated) l.changes.items
