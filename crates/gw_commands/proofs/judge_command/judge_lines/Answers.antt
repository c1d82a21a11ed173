use Rattle.std.proofs.Common.{inl, inr, ap, ◌∙◌}
use Rattle.gw_io.specs.Tries.{inner_of, has_failed}
use Rattle.gw_judge.specs.Grouped.{Grouped}
use Rattle.gw_judge.specs.Fates.{fate_of}
use Rattle.gw_commands.proofs.LogEnds.{ended, ended_early}
use Rattle.gw_commands.proofs.judge_command.judge_lines.Goals as goal

pub returns-in-Ok : goal.returns-in-Ok
returns-in-Ok g c before opened =
    inl (
      ended (fate_of (g.D.Decider.fate_by c.args.policy.decider.now c.args.query.port)) c.args.policy.rule_lines.now
          (g.D.TellsParts.counts_by c.args.policy.decider.now c.args.policy.rule_lines.now)
          c.args.query.by c.args.query.shown c.args.query.strict before
          (g.I.Read.remaining (inner_of c.judge_opened-judged.new.reader))
          (g.W.Write.contents (inner_of c.args.output.now)) (g.W.Write.contents (inner_of c.judge_opened-judged.new.writer))
          (g.W.Write.contents (inner_of c.tell_counts.new.output)) (has_failed c.tell_counts.new.output) c.tell_counts.result
          c.in-Ok.tally c.wanted.result c.wanted.ensures (c.in-Ok.ensures.judged before opened)
          (c.in-Ok.ensures.grouping ∙ ap (λ (groups : Grouped). groups.grouping) c.requires.groups) c.tell_counts.ensures,
      c.in-Ok.ensures.read,
    )

pub returns-in-Err : goal.returns-in-Err
returns-in-Err g c before opened =
    inr (ended_early (fate_of (g.D.Decider.fate_by c.args.policy.decider.now c.args.query.port)) c.args.policy.rule_lines.now
    c.args.query.shown c.args.query.strict before (g.I.Read.remaining (inner_of c.judge_opened-judged.new.reader))
    (has_failed c.judge_opened-judged.new.reader)
    (g.W.Write.contents (inner_of c.args.output.now)) (g.W.Write.contents (inner_of c.judge_opened-judged.new.writer))
    (g.W.Write.contents (inner_of c.tell_end.new.output)) (has_failed c.judge_opened-judged.new.writer)
    (has_failed c.tell_end.new.output)
    c.tell_end.result c.in-Err.fault c.wanted.result c.wanted.ensures (c.in-Err.ensures.part before opened)
    c.tell_end.ensures.failed c.tell_end.ensures.told)
