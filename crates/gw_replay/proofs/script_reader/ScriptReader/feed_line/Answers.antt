use Rattle.std.proofs.Common.{◌<◌, ◌+◌, length, refl, sym, ap, ◌∙◌, arith}
use Rattle.gw_io.proofs.Callers.{rest_from}
use Rattle.gw_replay.proofs.Reaching.{line_refused, text_kept, line_passed, on_ok}
use Rattle.gw_replay.proofs.script_reader.ScriptReader.feed_line.Goals as goal

pub returns-then-is_err-clause-fed : goal.returns-then-is_err-clause-fed
returns-then-is_err-clause-fed g c = λ octets before h.
    line_refused octets c.args.text.now before c.args.self.now c.keep.new.self h (ap (λ vec. vec.items) c.keep.ensures.answers)

pub returns-then-end-text-clause-fed : goal.returns-then-end-text-clause-fed
returns-then-end-text-clause-fed g c = λ octets before h.
    text_kept octets c.args.text.now before c.position_of-end.result c.args.self.now c.keep.new.self h
    c.position_of-end.ensures.place c.if-end-text.true
    (on_ok c.keep.result (sym c.is_err.ensures.value ∙ c.if-is_err.false) c.keep.ensures.kept)
    c.keep.ensures.script c.keep.ensures.answers c.keep.ensures.refused

pub returns-in-Err-clause-fed : goal.returns-in-Err-clause-fed
returns-in-Err-clause-fed g c = λ octets before h.
    line_refused octets c.args.text.now before c.args.self.now c.answer_kept.new.self h
    (c.in-Err.ensures.refused ∙ ap (λ vec. vec.items) c.keep.ensures.answers)

pub returns-clause-fed : goal.returns-clause-fed
returns-clause-fed g c = λ octets before h.
    let other = c.if-end-text.false in
    let bound = c.position_of-end.ensures.bound in
    let within : c.position_of-end.result < length c.args.text.now = omega arith in
    line_passed octets c.args.text.now before _ c.position_of-end.result c.args.self.now c.keep.new.self c.answer_kept.new.self _
    h c.position_of-end.ensures.place within (rest_from (c.position_of-end.result + 1) c.args.text.now)
    (on_ok c.keep.result (sym c.is_err.ensures.value ∙ c.if-is_err.false) c.keep.ensures.kept)
    c.keep.ensures.script c.keep.ensures.answers c.keep.ensures.refused c.in-Ok.ensures.answered refl refl c.clear.ensures.items
    refl
