use Rattle.std.proofs.Common.{ap, ◌∙◌, ◌++◌, codes}
use Rattle.gw_replay.specs.Commands.{command_view}
use Rattle.gw_replay.proofs.Answering.{obeyed_on, obeyed_first}
use Rattle.gw_replay.proofs.script.Script.obey.Goals as goal

pub returns-in-Some : goal.returns-in-Some
returns-in-Some c = λ s stands.
    obeyed_on s c.args.self.now.session c.in-Some.session c.obey.new.self (command_view c.args.asked) c.obey.result c.in-Some.is
    stands c.obey.ensures

pub returns-in_ok-begin-in-None : goal.returns-in_ok-begin-in-None
returns-in_ok-begin-in-None c = λ s stands.
    obeyed_first s c.args.self.now.session c.in_ok-begin-in-None.field-0 (command_view c.args.asked) c.text.result c.in-None.is
    stands
    c.in_ok-begin-in-None.ensures.made (c.text.ensures.octets ∙ ap (λ line. line ++ codes "limits\n") c.new.ensures)
