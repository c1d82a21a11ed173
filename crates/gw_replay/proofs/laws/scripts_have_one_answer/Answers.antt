use Rattle.gw_replay.proofs.OneAnswer.{one_text, begins_text}
use Rattle.gw_replay.proofs.laws.scripts_have_one_answer.Goals as goal

pub returns-clause-only : goal.returns-clause-only
returns-clause-only c = λ script text other f g a b. one_text c.one_refusal.ensures script text other f g a b

pub returns-clause-begins : goal.returns-clause-begins
returns-clause-begins c = λ script text whole refused b a. begins_text c.one_refusal.ensures script text whole refused b a
