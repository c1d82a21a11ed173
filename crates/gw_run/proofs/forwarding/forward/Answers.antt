use Rattle.std.proofs.Common.{◌∙◌, List, ℕ, Ok, Err, subst}
use Rattle.gw_io.specs.Tries.{inner_of, has_failed}
use Rattle.gw_answers.specs.Responses.{WritesText}
use Rattle.gw_run.proofs.forwarding.forward.Goals as goal

pub returns-in-Ok : goal.returns-in-Ok
returns-in-Ok g c = record {
  found = Ok c.in-Ok.text.items;
  is_found = c.in-Ok.ensures.forwarded;
  written = c.respond.ensures;
}

pub returns-in-Err : goal.returns-in-Err
returns-in-Err g c = record {
  found = Err c.in-Err.refusal;
  is_found = c.in-Err.ensures.refused;
  written =
      subst
      (λ (text : List ℕ). WritesText text 1 c.write_refusal.result (g.W.Write.contents (inner_of c.args.output.now))
      (g.W.Write.contents (inner_of c.write_refusal.new.output)) (has_failed c.write_refusal.new.output))
      (c.as_bytes.ensures ∙ c.line.ensures) c.write_refusal.ensures;
}
