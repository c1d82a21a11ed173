use Rattle.std.proofs.Common.{refl, subst}
use Rattle.gw_frame.specs.Record.{IsRecord}
use Rattle.gw_policy.specs.Batches.{passes, policy_at}
use Rattle.gw_policy.specs.Cached.{AreByWord}
use Rattle.gw_policy.proofs.Recalling.{all_known, rest_judged, told_of_the_word, unknown_within}
use Rattle.gw_policy.proofs.in_force.PolicySet.recall.Goals as goal

pub judge-requires-clause-within : goal.judge-requires-clause-within
judge-requires-clause-within c =
    unknown_within c.args.asked c.get-known.result.judged c.difference-unknown.result c.difference-unknown.ensures c.args.ports
    c.requires.within

pub returns-then-is_empty-clause-ports : goal.returns-then-is_empty-clause-ports
returns-then-is_empty-clause-ports c =
    all_known c.args.asked c.get-known.result.judged c.get-known.result.passing c.intersection-kept.result
    c.difference-unknown.result (λ port. passes (policy_at port c.args.self.now) c.args.frame.now c.args.from)
    (c.get-known.ensures c.args.self.now c.requires.cache) c.intersection-kept.ensures c.difference-unknown.ensures
    (c.if-is_empty.ensures.0 refl)

pub returns-clause-ports : goal.returns-clause-ports
returns-clause-ports c =
    rest_judged c.args.asked c.get-known.result.judged c.get-known.result.passing c.intersection-kept.result
    c.difference-unknown.result (λ port. passes (policy_at port c.args.self.now) c.args.frame.now c.args.from)
    (c.get-known.ensures c.args.self.now c.requires.cache) c.intersection-kept.ensures c.difference-unknown.ensures
    c.judge.result c.union-passing.result c.judge.ensures c.union-passing.ensures

pub returns-clause-cache : goal.returns-clause-cache
returns-clause-cache c =
    c.put.ensures c.args.self.now c.requires.cache
    (told_of_the_word c.args.self.now c.args.asked c.self.inside.by_word c.union-passing.result c.intersection-judged.result
    c.intersection.result c.args.frame.now c.args.from
    (subst (λ set. AreByWord set c.self.inside.by_word) c.self.view_is c.self.invariant.2)
    (subst IsRecord c.bytes-octets.ensures.octets c.bytes-octets.ensures.record) (returns-clause-ports c)
    c.intersection-judged.ensures c.intersection.ensures)
