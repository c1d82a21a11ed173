use Rattle.gw_ports.proofs.running.run_with.Goals as goal

pub returns-in-Ok-clause-refused : goal.returns-in-Ok-clause-refused
returns-in-Ok-clause-refused g c = c.run_opened.ensures.refused c.args.first c.in-Ok.ensures.ports
