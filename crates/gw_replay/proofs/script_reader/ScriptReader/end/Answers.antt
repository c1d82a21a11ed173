use Rattle.std.proofs.Common.{◌++◌, sym, ◌∙◌, subst}
use Rattle.gw_replay.specs.Scripts.{IsAnswer}
use Rattle.gw_replay.proofs.Reaching.{last_begins, whole_answer, on_err, on_ok}
use Rattle.gw_replay.proofs.script_reader.ScriptReader.end.Goals as goal

pub returns-then-is_err-clause-ended : goal.returns-then-is_err-clause-ended
returns-then-is_err-clause-ended g c = λ octets text h. (
  c.answer_kept-answered.new.self.answers.items,
  last_begins c.answer_kept-answered.result octets text c.args.self.now c.answer_kept-answered.new.self h
      c.answer_kept-answered.ensures.answered c.answer_kept-answered.ensures.refused,
  on_err c.write.result (sym c.is_err.ensures.value ∙ c.if-is_err.true) c.write.ensures.part,
)

pub returns-in-Ok-clause-ended : goal.returns-in-Ok-clause-ended
returns-in-Ok-clause-ended g c = λ octets text h. (
  c.answer_kept-answered.new.self.answers.items,
  subst (IsAnswer octets (text ++ c.answer_kept-answered.new.self.answers.items)) (sym c.write.ensures.refused)
      (whole_answer octets text c.args.self.now c.answer_kept-answered.new.self h (c.in-Ok.ensures.answered h.session h.stands)),
  on_ok c.write.result (sym c.is_err.ensures.value ∙ c.if-is_err.false) c.write.ensures.written,
)

pub returns-in-Err-clause-ended : goal.returns-in-Err-clause-ended
returns-in-Err-clause-ended g c = λ octets text h. (
  c.answer_kept-answered.new.self.answers.items,
  last_begins c.answer_kept-answered.result octets text c.args.self.now c.answer_kept-answered.new.self h
      c.answer_kept-answered.ensures.answered c.answer_kept-answered.ensures.refused,
  on_ok c.write.result (sym c.is_err.ensures.value ∙ c.if-is_err.false) c.write.ensures.written,
)
