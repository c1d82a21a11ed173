use Rattle.std.proofs.Common.{◌∙◌}
use Rattle.std.proofs.lemmas.Result.{IfErr-weaker, IfOk-weaker}
use Rattle.gw_io.specs.Tries.{has_failed, inner_of, unended_reads}
use Rattle.gw_run.proofs.Forwards.{memory_refuses, text_of_kept}
use Rattle.gw_run.proofs.forwarding.run_input.Goals as goal

pub returns-in-Ok-clause-ran : goal.returns-in-Ok-clause-ran
returns-in-Ok-clause-ran g c =
    let input = c.in-Ok.ensures.ran in
    let ran = input.2 in
    IfOk-weaker c.report_octets.result _ _
    (λ text lines. record {
      octets = input.0;
      read = input.1;
      run = record {
        ran = ran.0;
        is_run = ran.2;
        whole = ran.3;
        tallies = c.in-Ok.kept.lanes.items;
        tallied = ran.1.1;
        lines = lines ∙ text_of_kept c.args.limits.ports c.args.shown c.in-Ok.kept ran.0 ran.1;
      };
    })
    c.report_octets.ensures.lines

pub returns-in-Ok-clause-refused : goal.returns-in-Ok-clause-refused
returns-in-Ok-clause-refused g c =
    let after = c.run_taken.new.input in
    IfErr-weaker c.report_octets.result _ _
    (λ refusal memory.
    memory_refuses c.args.taking.now c.args.limits c.args.first (g.I.Read.remaining (inner_of c.args.input.now))
    (g.I.Read.remaining (inner_of after)) (has_failed after) (unended_reads c.args.input.now after) refusal
    c.in-Ok.ensures.ran.1.whole memory)
    c.report_octets.ensures.refused
