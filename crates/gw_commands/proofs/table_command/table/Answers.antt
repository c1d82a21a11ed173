use Rattle.std.proofs.Common.{Option, IfOk, sym, subst}
use Rattle.gw_answers.specs.declared.frames.FrameWord.{FrameWord}
use Rattle.gw_commands.specs.Tables.{AnswersTable}
use Rattle.gw_commands.proofs.table_command.table.Goals as goal

pub returns-in-None-clause-answered : goal.returns-in-None-clause-answered
returns-in-None-clause-answered g c =
    subst (λ (word : Option FrameWord). IfOk c.compiled.result (AnswersTable word c.args.port c.args.input.now))
    (sym c.in-None.is) (c.compiled.ensures.answered c.args.port)
