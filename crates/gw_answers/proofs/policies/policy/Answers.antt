use Rattle.std.proofs.Common.{List, ℕ, IfErr, sym, subst}
use Rattle.gw_answers.specs.Policies.{RefusesListing, RefusesSource}
use Rattle.gw_answers.specs.declared.policies.PolicySource.{PolicySource}
use Rattle.gw_answers.proofs.policies.policy.Goals as goal

pub returns-in-Program-clause-refused : goal.returns-in-Program-clause-refused
returns-in-Program-clause-refused c =
    subst (λ (s : PolicySource). IfErr c.program_policy.result (RefusesSource s c.args.text.now)) (sym c.in-Program.is)
    (subst (λ (l : List ℕ). IfErr c.program_policy.result (RefusesListing l)) c.as_bytes.ensures.value
    c.program_policy.ensures.refused)
