use Rattle.gw_table.proofs.NoFrame.{no_destination}
use Rattle.gw_table.proofs.question.Question.why_no_frame.Goals as goal

pub returns-else-not-has_number-2 : goal.returns-else-not-has_number-2
returns-else-not-has_number-2 c =
    no_destination c.args.self.now c.requires c.if-not-has_group.ensures c.if-not-has_number.ensures c.if-not-has_number-2.ensures
