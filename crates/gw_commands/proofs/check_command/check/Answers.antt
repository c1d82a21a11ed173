use Rattle.gw_commands.proofs.check_command.check.Goals as goal

pub returns-in-Err-clause-refused : goal.returns-in-Err-clause-refused
returns-in-Err-clause-refused c = c.explained.ensures c.args.listing.now c.in-Err.ensures.refused
