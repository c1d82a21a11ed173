use Rattle.std.proofs.Common.{◌==◌, not, sym, ◌∙◌, ap, arith}
use Rattle.gw_policy.proofs.Judged.{passes_by_answer}
use Rattle.gw_policy.proofs.law.policies_return.Goals as goal

pub returns : goal.returns
returns c = λ filter octets port answer n is_filter is_record fits returns.
    let same = (c.one_answer.ensures.returns filter.code octets port answer n is_filter.accepted).0 returns in
    let bounds = c.one_answer.ensures.steps filter.code octets port is_filter.accepted in (
      passes_by_answer filter.code filter.table octets port is_record fits is_filter.means ∙ ap (λ a. not (a == 0)) (sym same.0),
      same.1,
      omega (arith, same.1, bounds.1),
    )
