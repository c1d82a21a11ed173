use Rattle.std.proofs.Common.{ℕ, List, subst}
use Rattle.gw_io.specs.Tries.{inner_of, has_failed}
use Rattle.gw_table.specs.Table.{Meaning}
use Rattle.gw_judge.specs.Fates.{table_fate}
use Rattle.gw_commands.specs.Judgings.{JudgesGroups}
use Rattle.gw_commands.specs.ToldCounts.{table_told}
use Rattle.gw_commands.proofs.judge_command.judge_table.Goals as goal

pub returns-in-Ok : goal.returns-in-Ok
returns-in-Ok g c =
    let query = c.args.query in
    let Judged : Meaning → List ℕ → Type 0 = λ table lines. JudgesGroups (table_fate table query.port) lines
    (table_told table lines) query.by query.shown query.strict (g.I.Read.remaining (inner_of c.args.input.now))
    (g.I.Read.remaining (inner_of c.judge_by.new.input)) (has_failed c.judge_by.new.input)
    (g.W.Write.contents (inner_of c.args.output.now)) (g.W.Write.contents (inner_of c.judge_by.new.output))
    (has_failed c.judge_by.new.output) c.judge_by.result in
    subst (λ table. Judged table c.args.stated.lines.items) c.in-Ok.ensures.indexed
    (subst (Judged c.in-Ok.indexed) c.as_slice-rule_lines.ensures.value c.judge_by.ensures)

pub returns : goal.returns
returns g c =
    let query = c.args.query in
    let Judged : Meaning → List ℕ → Type 0 = λ table lines. JudgesGroups (table_fate table query.port) lines
    (table_told table lines) query.by query.shown query.strict (g.I.Read.remaining (inner_of c.args.input.now))
    (g.I.Read.remaining (inner_of c.judge_by-in-Err.new.input)) (has_failed c.judge_by-in-Err.new.input)
    (g.W.Write.contents (inner_of c.args.output.now)) (g.W.Write.contents (inner_of c.judge_by-in-Err.new.output))
    (has_failed c.judge_by-in-Err.new.output) c.judge_by-in-Err.result in
    subst (λ table. Judged table c.args.stated.lines.items) c.in-Err.ensures.handed_back
    (subst (Judged c.in-Err.table) c.as_slice-rule_lines.ensures.value c.judge_by-in-Err.ensures)
