use Rattle.std.proofs.Common.{◌∙◌, [], inr}
use Rattle.std.proofs.lemmas.Result.{IfErr-weaker, IfOk-weaker, err_from_is_err_and}
use Rattle.std.proofs.lemmas.Slice.Zip.{AllZip-long}
use Rattle.gw_run.specs.PortInputs.{HasGiven}
use Rattle.gw_run.proofs.Forwards.{text_of_kept}
use Rattle.gw_run.proofs.PortInputs.{all_found, files_refused}
use Rattle.gw_run.proofs.port_files.files_text.Goals as goal

pub run_files-requires-clause-count : goal.run_files-requires-clause-count
run_files-requires-clause-count g c κs within =
    c.in_ok-inputs.inputs.ok.0
    ∙ AllZip-long (λ file input. HasGiven g.R.File.Read.remaining file [] input) c.args.files.now c.in_ok-inputs.inputs.items
    c.in_ok-inputs.ensures.inputs ∙ c.requires.files

pub returns-clause-ran : goal.returns-clause-ran
returns-clause-ran g c =
    let kept = c.in_ok-kept.ensures.ran c.args.files.now c.in_ok-inputs.ensures.inputs in
    let run = kept.4 in
    IfOk-weaker c.report_octets.result _ _
    (λ text lines. (
      kept.0,
      kept.2,
      record {
        frames = kept.1;
        offered = kept.3;
        ran = run.0;
        is_run = run.2;
        whole = run.3;
        tallies = c.in_ok-kept.kept.lanes.items;
        tallied = run.1.1;
        lines = lines ∙ text_of_kept c.args.limits.ports c.args.shown c.in_ok-kept.kept run.0 run.1;
      },
    ))
    c.report_octets.ensures.lines

pub returns-in_err-inputs-clause-refused : goal.returns-in_err-inputs-clause-refused
returns-in_err-inputs-clause-refused g c =
    let fault = err_from_is_err_and c.from_residual.result c.from_residual.ensures.1 in
    rw (fault.1, fault.2)
    (files_refused c.args.limits c.args.first c.args.files.now c.in_err-inputs.field-0.0 c.in_err-inputs.ensures.refused)

pub returns-clause-refused : goal.returns-clause-refused
returns-clause-refused g c =
    IfErr-weaker c.report_octets.result _ _
    (λ refusal memory. let any = all_found c.args.files.now in (any.0, any.1, inr (inr memory))) c.report_octets.ensures.refused
