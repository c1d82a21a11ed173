use Rattle.std.proofs.Common.{inl, ap, ◌∙◌, subst}
use Rattle.gw_io.specs.Tries.{inner_of, has_failed}
use Rattle.gw_judge.specs.declared.tally.Tally.{Tally}
use Rattle.gw_judge.specs.Captures.{with_refused}
use Rattle.gw_judge.specs.Grouped.{Grouped}
use Rattle.gw_answers.specs.declared.requests.Shown.{Shown}
use Rattle.gw_commands.specs.Judgings.{TellsCounts}
use Rattle.gw_commands.specs.ToldCounts.{told_counts}
use Rattle.gw_commands.proofs.capture_command.count_frames.Goals as goal

pub returns-in-Ok : goal.returns-in-Ok
returns-in-Ok g c =
    let counts = g.D.TellsParts.counts_by c.args.policy.decider.now c.args.policy.rule_lines.now in
    let Told : Shown → Tally → Type 0 = λ shown tally. TellsCounts (told_counts counts c.args.query.by) shown tally
    (g.W.Write.contents (inner_of c.args.output.now)) (g.W.Write.contents (inner_of c.tell_counts.new.output))
    (has_failed c.tell_counts.new.output) c.tell_counts.result in
    let tally = with_refused c.in-Ok.told.refused c.in-Ok.told.frames in
    inl (
      record {
        records = c.in-Ok.told;
        judged = c.in-Ok.ensures.judged;
        grouped = c.in-Ok.ensures.grouping ∙ ap (λ (groups : Grouped). groups.grouping) c.requires.groups;
        told = subst (λ shown. Told shown tally) c.requires.counts
            (subst (Told c.args.query.shown) c.lines-tally.ensures c.tell_counts.ensures);
      },
      c.in-Ok.ensures.read,
    )
