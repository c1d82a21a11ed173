use Rattle.std.proofs.Common.{◌∙◌, ℕ, List, Err, Ok, inl, subst}
use Rattle.gw_io.specs.Tries.{inner_of, has_failed}
use Rattle.gw_answers.specs.Responses.{WritesText}
use Rattle.gw_run.proofs.port_files.forward_files.Goals as goal

pub returns-in-Ok-files_text : goal.returns-in-Ok-files_text
returns-in-Ok-files_text g c =
    let policies = c.in-Ok.ensures.first in
    let run = c.in-Ok-files_text.ensures.ran in
    inl (
      policies.0,
      c.in-Ok.first,
      run.0,
      policies.1,
      run.1,
      record {
        answer = Ok c.in-Ok-files_text.text.items;
        is_answer = run.2;
        written = c.respond-in-Ok-files_text.ensures;
      },
    )

pub returns-in-Err-files_text : goal.returns-in-Err-files_text
returns-in-Err-files_text g c =
    let policies = c.in-Ok.ensures.first in
    let refused = c.in-Err-files_text.ensures.refused in
    inl (
      policies.0,
      c.in-Ok.first,
      refused.0,
      policies.1,
      refused.1,
      record {
        answer = Err c.in-Err-files_text.refusal;
        is_answer = refused.2;
        written =
            subst
            (λ (text : List ℕ). WritesText text 1 c.write_refusal.result (g.W.Write.contents (inner_of c.args.output.now))
            (g.W.Write.contents (inner_of c.write_refusal.new.output)) (has_failed c.write_refusal.new.output))
            (c.as_bytes.ensures ∙ c.line.ensures) c.write_refusal.ensures;
      },
    )
