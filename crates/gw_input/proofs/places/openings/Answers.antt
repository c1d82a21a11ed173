use Rattle.std.proofs.Common.{sym, arith, length, not, rules}
use Rattle.std.proofs.lemmas.List.Sums.{position_or_len_is}
use Rattle.gw_input.specs.Places.{is_opening}
use Rattle.gw_input.proofs.places.openings.Goals as goal

pub returns-then-c-ne91-clause-openings : goal.returns-then-c-ne91-clause-openings
returns-then-c-ne91-clause-openings c =
    sym (position_or_len_is (λ x. not (is_opening x)) c.args.line.now c.loop-i.i 0 (omega arith) c.loop-i.invariant
    (λ h. search rules))

pub returns-clause-openings : goal.returns-clause-openings
returns-clause-openings c =
    sym (position_or_len_is (λ x. not (is_opening x)) c.args.line.now (length c.args.line.now) 0 (omega arith)
    (λ k h. c.loop-i.invariant k (omega arith)) (λ h. absurd (omega arith)))
