use Rattle.std.proofs.Common.{◌≡◌, ◌∙◌, ◌∷◌, ◌++◌, [], ℕ, List, Option, Some, ap, sym, arith, rules}
use Rattle.std.proofs.lemmas.Grind.{common_steps}
use Rattle.gw_run.specs.Logs.{log_frames}
use Rattle.gw_run.proofs.LogLines.{no_line_more, one_line_more, taken_first, taken_none}
use Rattle.gw_run.proofs.log.log_frames.Goals as goal

-- each interface's frames
abbrev any : List ℕ → Option ℕ
any interface = Some 0

pub lines-preserved-in_ok-push : goal.lines-preserved-in_ok-push
lines-preserved-in_ok-push c =
    let more = c.first_line.result.1.now in
    one_line_more [] (log_frames c.args.log.now) c.lines.frames.items c.push.new.self.items (c.in-Some.frame ∷ [])
    (log_frames more) (log_frames c.lines.rest.now) c.lines.invariant
    (taken_first any 0 c.lines.rest.now c.first_line.result.0.now more c.first_line.ensures.line
    ∙ ap (λ line. line ++ log_frames more) (sym c.in-Some.ensures))
    c.in_ok-push.ensures.items

pub lines-preserved : goal.lines-preserved
lines-preserved c =
    let more = c.first_line.result.1.now in
    ap (λ rest. c.lines.frames.items ++ rest)
    (ap (λ line. line ++ log_frames more) c.in_default.ensures
    ∙ sym (taken_first any 0 c.lines.rest.now c.first_line.result.0.now more c.first_line.ensures.line))
    ∙ c.lines.invariant

pub returns : goal.returns
returns c =
    let empty : c.lines.rest.now ≡ [] =
    let test = c.lines-test.false in
    let of = c.is_empty.ensures in
    first_of (search rules, grind (arith, common_steps)) in
    no_line_more [] (log_frames c.args.log.now) c.lines.frames.items (log_frames c.lines.rest.now) c.lines.invariant
    (ap log_frames empty ∙ taken_none any 0)
