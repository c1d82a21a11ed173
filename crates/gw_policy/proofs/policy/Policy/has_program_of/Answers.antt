use Rattle.std.proofs.Common.{◌≡◌, Some, sym, ◌∙◌, subst}
use Rattle.gw_policy.specs.Filter.{Filter}
use Rattle.gw_policy.specs.Batches.{PassAlike}
use Rattle.gw_policy.proofs.Judged.{pass_alike}
use Rattle.gw_policy.proofs.policy.Policy.has_program_of.Goals as goal

pub returns : goal.returns
returns c same =
    let one : Filter = record { code = c.self.inside.program; table = c.self.inside.table } in
    let other : Filter = record { code = c.other.inside.program; table = c.other.inside.table } in
    let code : one.code ≡ other.code =
    sym c.code.ensures.instructions ∙ c.is_same_code.ensures same ∙ c.code-2.ensures.instructions in
    let alike : PassAlike (Some one) (Some other) = pass_alike one other c.self.invariant c.other.invariant code in
    subst (λ filter. PassAlike (Some filter) (Some c.args.other.now)) c.self.view_is
    (subst (λ filter. PassAlike (Some one) (Some filter)) c.other.view_is alike)
