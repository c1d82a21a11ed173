use Rattle.gw_core.proofs.PortTurns.{turn, turn_can_advance, turn_places}
use Rattle.gw_core.proofs.worker.Worker.enqueue.Goals as goal

pub advance-requires : goal.advance-requires
advance-requires c = turn_can_advance (turn c.self.view_is c.requires.worker.1.1 c.in-Some.is) (record {
  at = c.from-to.ensures;
  lent = c.index_mut.ensures.value;
  active = c.enqueue-answer.ensures.active;
  says = c.enqueue-answer.ensures.answer;
  writes = c.enqueue-answer.ensures.lane;
})

pub returns-clause-answers : goal.returns-clause-answers
returns-clause-answers c = λ all done s.
    turn_places c.one_answer.ensures.steps (turn c.self.view_is s c.in-Some.is) c.requires.copy (record {
      at = c.from-to.ensures;
      lent = c.index_mut.ensures.value;
      active = c.enqueue-answer.ensures.active;
      says = c.enqueue-answer.ensures.answer;
      writes = c.enqueue-answer.ensures.lane;
    }) c.advance.ensures
