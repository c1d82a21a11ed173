use Rattle.std.proofs.Common.{Ok, sym, subst}
use Rattle.gw_core.specs.Standing.{Worker, WorkerStands, IsSomeWorker, AnswersStep}
use Rattle.gw_core.proofs.PortTurns.{turn, turn_runs, turn_blocks, turn_waits}
use Rattle.gw_core.proofs.worker.Worker.step_of_any_kind.Goals as goal

pub returns-in-Runs-clause-answers : goal.returns-in-Runs-clause-answers
returns-in-Runs-clause-answers c = λ done s. turn_runs (turn c.self.view_is s c.in-Some.is) c.in-Runs.is c.instruct.ensures

pub returns-in-Blocks-clause-answers : goal.returns-in-Blocks-clause-answers
returns-in-Blocks-clause-answers c = λ done s.
    turn_blocks c.one_answer.ensures.steps c.instruct.new.self (turn c.self.view_is s c.in-Some.is) c.in-Blocks.is
    c.instruct.ensures c.advance.ensures

pub enqueue-requires : goal.enqueue-requires
enqueue-requires c =
    let waits = turn_waits (turn c.self.view_is c.requires.1 c.in-Some.is) c.in-Places.is c.instruct.ensures in
    record { worker = subst IsSomeWorker (sym waits.0) (c.args.batches.now, c.requires); copy = waits.1 }

pub returns-in-Places-clause-answers : goal.returns-in-Places-clause-answers
returns-in-Places-clause-answers c = λ done s.
    let all = c.args.batches.now in
    let waits = turn_waits (turn c.self.view_is s c.in-Some.is) c.in-Places.is c.instruct.ensures in
    subst (λ (x : Worker). AnswersStep all x (Ok c.enqueue.result) c.enqueue.new.self done) waits.0
    (c.enqueue.ensures.answers all done (subst (λ (x : Worker). WorkerStands all x done) (sym waits.0) s))
