use Rattle.std.proofs.Common.{None, false, inl}
use Rattle.gw_answers.specs.declared.requests.Query.TheVariants.{Verdict}
use Rattle.gw_cli.proofs.dispatch.command.Goals as goal

pub returns-then-is_empty-clause-does : goal.returns-then-is_empty-clause-does
returns-then-is_empty-clause-does g c = inl (Verdict 0 None false, c.answer_query.ensures)
