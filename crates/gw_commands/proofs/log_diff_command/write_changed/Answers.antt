use Rattle.std.proofs.Common.{false, inr, refl}
use Rattle.gw_io.specs.Tries.{inner_of, has_failed}
use Rattle.gw_judge.specs.Fates.{fate_of, changed_fate}
use Rattle.gw_judge.specs.declared.report.Wanted.TheVariants as wanted
use Rattle.gw_answers.specs.declared.requests.Shown.TheVariants.{Each}
use Rattle.gw_commands.proofs.LogEnds.{ended_early}
use Rattle.gw_commands.proofs.log_diff_command.write_changed.Goals as goal

pub returns-in-Err : goal.returns-in-Err
returns-in-Err g c =
    inr (ended_early (fate_of (changed_fate c.args.changed.now.old.now c.args.changed.now.new.now c.args.port))
    c.args.rule_lines.now Each false
    (g.I.Read.remaining (inner_of c.args.input.now)) (g.I.Read.remaining (inner_of c.judge-judged.new.reader))
    (has_failed c.judge-judged.new.reader)
    (g.W.Write.contents (inner_of c.args.output.now)) (g.W.Write.contents (inner_of c.judge-judged.new.writer))
    (g.W.Write.contents (inner_of c.tell_end.new.output)) (has_failed c.judge-judged.new.writer)
    (has_failed c.tell_end.new.output) c.tell_end.result c.in-Err.fault wanted.Each refl c.in-Err.ensures.part
    c.tell_end.ensures.failed c.tell_end.ensures.told)
