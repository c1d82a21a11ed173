use Rattle.std.proofs.Common.{arith}
use Rattle.gw_verify.specs.Accepted.{IsRefusal}
use Rattle.gw_verify.specs.Flow.{forms_of}
use Rattle.gw_verify.specs.declared.cause.Cause.TheVariants.{UnsetWord}
use Rattle.gw_verify.proofs.Explained.{small, explained}
use Rattle.gw_verify.proofs.refused.Refused.explain.Goals as goal
use Rattle.gw_verify.proofs.refused.Refused.explain.Goals.{In-UnsetWord}

-- the refusal is one for this word
unset : (c : In-UnsetWord)
    → ∥ IsRefusal (forms_of c.args.self.now.code.items) (UnsetWord c.in-UnsetWord.word) c.args.self.now.place ∥₁
unset c = rw c.in-UnsetWord.is at c.args.self.now.of_the_code

pub explain-requires-clause-word : goal.explain-requires-clause-word
explain-requires-clause-word c = (small _ _ _ (unset (goal.at.explain-requires-clause-word c).In-UnsetWord)).0

pub explain-requires-clause-short : goal.explain-requires-clause-short
explain-requires-clause-short c =
    let short = (small _ _ _ (unset (goal.at.explain-requires-clause-short c).In-UnsetWord)).1 in
    rw c.deref.ensures.value (omega (arith, short))

pub returns-in-UnsetWord : goal.returns-in-UnsetWord
returns-in-UnsetWord c =
    let refused = unset (goal.at.returns-in-UnsetWord c).In-UnsetWord in
    let some = rw c.deref.ensures.value at c.explain.ensures.found in
    let none = rw c.deref.ensures.value at c.explain.ensures.none in
    rw c.in-UnsetWord.is (explained c.args.self.now.code.items _ _ c.explain.result refused some none)
