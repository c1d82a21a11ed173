use Rattle.std.proofs.Common.{sym, arith, length, not, rules}
use Rattle.std.proofs.lemmas.List.Sums.{position_or_len_is}
use Rattle.gw_input.specs.RuleLines.{is_blank}
use Rattle.gw_input.proofs.rule_places.indent.Goals as goal

pub returns-then-c-ne9-clause-blanks : goal.returns-then-c-ne9-clause-blanks
returns-then-c-ne9-clause-blanks c =
    sym (position_or_len_is (λ x. not (is_blank x)) c.args.line.now c.loop-i.i 0 (omega arith) c.loop-i.invariant
    (λ h. search rules))

pub returns-clause-blanks : goal.returns-clause-blanks
returns-clause-blanks c =
    sym (position_or_len_is (λ x. not (is_blank x)) c.args.line.now (length c.args.line.now) 0 (omega arith)
    (λ k h. c.loop-i.invariant k (omega arith)) (λ h. absurd (omega arith)))
