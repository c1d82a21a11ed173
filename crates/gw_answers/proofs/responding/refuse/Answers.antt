use Rattle.std.proofs.Common.{◌≡◌, ◌∙◌, List, ℕ, sym, ap, subst}
use Rattle.gw_io.specs.Tries.{inner_of, has_failed}
use Rattle.gw_answers.specs.Responses.{WritesText}
use Rattle.gw_answers.specs.Refusals.{refusal_text}
use Rattle.gw_answers.proofs.RefusalTexts.{line_alone}
use Rattle.gw_answers.proofs.responding.refuse.Goals as goal

pub returns-in-Explained : goal.returns-in-Explained
returns-in-Explained g c =
    let same : c.as_slice.result.now ≡ refusal_text c.args.refusal.now =
    c.as_slice.ensures.value ∙ sym (ap refusal_text c.in-Explained.is) in
    subst
    (λ (text : List ℕ). WritesText text 1 c.write_refusal.result (g.W.Write.contents (inner_of c.args.output.now))
    (g.W.Write.contents (inner_of c.write_refusal.new.output)) (has_failed c.write_refusal.new.output))
    same c.write_refusal.ensures

pub returns-in_default : goal.returns-in_default
returns-in_default g c =
    let written = c.write_refusal-in_default in
    let same : c.as_bytes.result.now ≡ refusal_text c.args.refusal.now =
    c.as_bytes.ensures ∙ c.line.ensures ∙ sym (line_alone c.args.refusal.now c.in_default.not-Explained) in
    subst
    (λ (text : List ℕ). WritesText text 1 written.result (g.W.Write.contents (inner_of c.args.output.now))
    (g.W.Write.contents (inner_of written.new.output)) (has_failed written.new.output))
    same written.ensures
