-- The commands of the code, without their borrows, as requests.
use Rattle.gw_replay.specs.declared.command.Command.{Command}
use Rattle.gw_replay.specs.declared.command.Command.TheVariants as command
use Rattle.gw_replay.specs.declared.script.Meaning.{Meaning as LineMeaning}
use Rattle.gw_replay.specs.declared.script.Meaning.TheVariants as line
use Rattle.gw_replay.specs.Requests.{Request, limits_of, program_of, table_of, publish_all, take_at, step_at, send_to, ledger_of}
use Rattle.gw_replay.specs.Scripts.{Meaning, silent, wrong, asks}

-- a command
abbrev pub command_view : Command → Request
command_view (command.Limits ports lane versions frames) = limits_of ports lane versions frames
command_view (command.Program port listing) = program_of port listing.now
command_view (command.Table port hex) = table_of port hex.now
command_view command.Publish = publish_all
command_view (command.Take port hex) = take_at port hex.now
command_view (command.Step port) = step_at port
command_view (command.Send to from) = send_to to from
command_view (command.Ledger port) = ledger_of port

-- what a line says
abbrev pub meaning_view : LineMeaning → Meaning
meaning_view line.Silent = silent
meaning_view (line.Wrong fault) = wrong fault
meaning_view (line.Asks request) = asks (command_view request)
