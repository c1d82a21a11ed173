use Rattle.std.proofs.Common.{Some, sym, ap, ◌∙◌, subst}
use Rattle.gw_policy.specs.Filter.{Filter}
use Rattle.gw_policy.specs.Cached.{IsByWord, TakesWordAlone}
use Rattle.gw_policy.proofs.ByWord.{by_word, program_by_word}
use Rattle.gw_policy.proofs.policy.Policy.is_by_word.Goals as goal

pub returns-in-Some : goal.returns-in-Some
returns-in-Some c = λ is.
    by_word c.args.self.now c.in-Some.field-0 (ap (λ (filter : Filter). filter.table) (sym c.self.view_is) ∙ c.in-Some.is)

pub returns-in-None : goal.returns-in-None
returns-in-None c = λ is.
    subst (λ filter. IsByWord (Some filter)) c.self.view_is
    (program_by_word (record { code = c.self.inside.program; table = c.self.inside.table }) c.in-None.is
    (subst TakesWordAlone c.code.ensures.instructions (c.take_word_alone.ensures is)))
