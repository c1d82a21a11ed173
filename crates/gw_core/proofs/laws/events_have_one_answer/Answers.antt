use Rattle.gw_core.proofs.Replies.{are_replies, only_replies}
use Rattle.gw_core.proofs.laws.events_have_one_answer.Goals as goal

pub returns-clause-answers : goal.returns-clause-answers
returns-clause-answers c = λ start history events. are_replies start history events

pub returns-clause-only : goal.returns-clause-only
returns-clause-only c = λ start history events given are. only_replies start history events given are
