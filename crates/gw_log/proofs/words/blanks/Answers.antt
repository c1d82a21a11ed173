use Rattle.std.proofs.Common.{length, sym, ◌∙◌, arith}
use Rattle.std.proofs.lemmas.List.Sums.{prefix_len_is}
use Rattle.gw_log.specs.LogLines.{is_blank}
use Rattle.gw_log.proofs.words.blanks.Goals as goal

pub returns-then-not-is_blank-clause-number : goal.returns-then-not-is_blank-clause-number
returns-then-not-is_blank-clause-number c =
    sym (prefix_len_is is_blank c.args.text.now c.loop-i.i 0 (omega arith) c.loop-i.invariant
    (λ h. sym c.is_blank.ensures ∙ c.if-not-is_blank.true))

pub returns-clause-number : goal.returns-clause-number
returns-clause-number c =
    sym (prefix_len_is is_blank c.args.text.now (length c.args.text.now) 0 (omega arith)
    (λ k h. c.loop-i.invariant k (omega arith)) (λ h. absurd (omega arith)))
