use Rattle.std.proofs.Common.{take}
use Rattle.std.specs.List.{AllZip}
use Rattle.gw_commands.specs.PortDifferences.{ArePortTexts}
use Rattle.gw_commands.proofs.diff_ports_command.read_texts.Given as goal

abbrev pub invariant-loop-port : goal.invariant-loop-port
invariant-loop-port g l = AllZip ArePortTexts (take l.port-index l.files) l.texts.items
