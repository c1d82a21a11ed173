use Rattle.gw_c.proofs.sending.next_many.Goals as goal

pub returns-clause-sends : goal.returns-clause-sends
returns-clause-sends c = λ known history stands _. c.send_each.ensures known history stands
