use Rattle.std.proofs.Common.{List, ℕ, IfErr, sym, subst}
use Rattle.gw_answers.specs.declared.requests.Query.{Query}
use Rattle.gw_commands.specs.Assemblies.{RefusesList}
use Rattle.gw_commands.specs.Checks.{RefusesCheck}
use Rattle.gw_commands.specs.Queries.{RefusesQuery}
use Rattle.gw_commands.proofs.query.answer_on.Goals as goal

pub returns-in-Check-clause-refused : goal.returns-in-Check-clause-refused
returns-in-Check-clause-refused g c =
    subst (λ (query : Query). IfErr c.check.result (RefusesQuery query c.args.octets.items)) (sym c.in-Check.is)
    (subst (λ (input : List ℕ). IfErr c.check.result (RefusesCheck input)) c.as_slice.ensures.value
    c.check.ensures.refused)

pub returns-in-List-clause-refused : goal.returns-in-List-clause-refused
returns-in-List-clause-refused g c =
    subst (λ (query : Query). IfErr c.list.result (RefusesQuery query c.args.octets.items)) (sym c.in-List.is)
    (subst (λ (input : List ℕ). IfErr c.list.result (RefusesList input)) c.as_slice-in-List.ensures.value
    c.list.ensures.refused)
