use Rattle.gw_replay.proofs.SomeAnswer.{some_text}
use Rattle.gw_replay.proofs.laws.scripts_are_answered.Goals as goal

pub returns : goal.returns
returns c = λ script. some_text script
