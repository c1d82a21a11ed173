use Rattle.std.proofs.Common.{◌∷◌, ◌∙◌, sym, subst}
use Rattle.gw_policy.specs.Batches.{PortPolicies, StandsAfter}
use Rattle.gw_policy.proofs.PolicySets.{stands_after-more}
use Rattle.gw_policy.proofs.in_force.PolicySet.absorb.Goals as goal

pub returns-clause-stands : goal.returns-clause-stands
returns-clause-stands c batches stands =
    let after : PortPolicies → Type 0 = λ set. StandsAfter set (c.args.batch.now ∷ batches) in
    subst after (sym (c.note_by_word.ensures ∙ c.note_groups.ensures))
    (stands_after-more c.args.self.now c.put_all.new.self c.args.batch.now batches c.in_ok-put_all.ensures.absorbed stands)
