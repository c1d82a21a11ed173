use Rattle.std.proofs.Common.{length, sym, ◌∙◌, arith}
use Rattle.std.proofs.lemmas.List.Sums.{position_or_len_is}
use Rattle.gw_log.specs.LogLines.{is_blank}
use Rattle.gw_log.proofs.words.word_len.Goals as goal

pub returns-then-is_blank-clause-len : goal.returns-then-is_blank-clause-len
returns-then-is_blank-clause-len c =
    sym (position_or_len_is is_blank c.args.text.now c.loop-i.i 0 (omega arith) c.loop-i.invariant
    (λ h. sym c.is_blank.ensures ∙ c.if-is_blank.true))

pub returns-clause-len : goal.returns-clause-len
returns-clause-len c =
    sym (position_or_len_is is_blank c.args.text.now (length c.args.text.now) 0 (omega arith)
    (λ k h. c.loop-i.invariant k (omega arith)) (λ h. absurd (omega arith)))
