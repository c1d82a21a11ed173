use Rattle.std.proofs.Common.{inl}
use Rattle.gw_cli.proofs.running.run_command.Goals as goal

pub returns-in-Ok : goal.returns-in-Ok
returns-in-Ok g c = inl (c.in-Ok.run', c.in-Ok.ensures.sources, c.in-Ok.ensures.inputs, c.run_asked.ensures)
