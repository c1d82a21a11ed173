use Rattle.gw_table.proofs.NoFrame.{number_there}
use Rattle.gw_table.proofs.no_frame.has_number.Goals as goal

pub returns-in-Some : goal.returns-in-Some
returns-in-Some c = number_there c.args.span c.args.greatest c.in-Some.field-0 c.in-Some.ensures.0 c.in-Some.ensures.1
