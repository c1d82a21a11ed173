use Rattle.std.proofs.Common.{true, false, [], ◌++◌, sym, ap, ◌∙◌, subst, append-nil}
use Rattle.std.specs.Prelude.{is_ok, if◌then◌else◌}
use Rattle.gw_input.specs.Lines.{ended_line}
use Rattle.gw_replay.specs.Said.{said_text, is_refusal}
use Rattle.gw_replay.specs.Standing.{IsAnswered}
use Rattle.gw_replay.specs.declared.script.Said.TheVariants.{Refused}
use Rattle.gw_replay.proofs.Reaching.{kept_said, not_refused, now_refused, on_extended}
use Rattle.gw_replay.proofs.script_reader.ScriptReader.answer_kept.Goals as goal

pub returns-in-Nothing-clause-answered : goal.returns-in-Nothing-clause-answered
returns-in-Nothing-clause-answered g c = λ s stands.
    kept_said s c.line_in-line.result.now (ended_line c.args.ended c.args.self.now.kept.items) [] false c.args.self.now _
    (c.line_in-line.ensures ∙ ap (ended_line c.args.ended) c.as_slice.ensures.value)
    (subst (λ said. IsAnswered s c.line_in-line.result.now (said_text said) (is_refusal said) c.answer.new.self.session)
    c.in-Nothing.is (c.in_ok-answer.ensures s stands))
    (not_refused c.args.self.now.refused)
    (sym (append-nil c.args.self.now.answers.items))

pub returns-in-Refused-clause-answered : goal.returns-in-Refused-clause-answered
returns-in-Refused-clause-answered g c = λ s stands.
    on_extended c.extend_from_slice-in-Refused.result c.args.self.now.answers.items (said_text (Refused c.in-Refused.fault))
    c.extend_from_slice-in-Refused.new.self.items
    (c.extend_from_slice-in-Refused.ensures.items
    ∙ ap (λ more. if is_ok c.extend_from_slice-in-Refused.result then c.args.self.now.answers.items ++ more
    else c.args.self.now.answers.items) (c.as_bytes-in-Refused.ensures ∙ c.line.ensures))
    (λ appended.
    kept_said s c.line_in-line.result.now (ended_line c.args.ended c.args.self.now.kept.items)
    (said_text (Refused c.in-Refused.fault)) true c.args.self.now _
    (c.line_in-line.ensures ∙ ap (ended_line c.args.ended) c.as_slice.ensures.value)
    (subst (λ said. IsAnswered s c.line_in-line.result.now (said_text said) (is_refusal said) c.answer.new.self.session)
    c.in-Refused.is (c.in_ok-answer.ensures s stands))
    (now_refused c.args.self.now.refused)
    appended)
