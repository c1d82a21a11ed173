use Rattle.std.proofs.Common.{refl, sym, ◌∙◌, subst}
use Rattle.gw_io.specs.Tries.{inner_of, has_failed, unended_reads}
use Rattle.gw_replay.specs.Written.{IsHalted, IsReplayFault}
use Rattle.gw_replay.specs.declared.whole.ReplayFault.TheVariants as fault
use Rattle.gw_answers.specs.declared.refusal.Refusal.TheVariants as refusal
use Rattle.gw_commands.proofs.EndedEarly.{ended_early, unread, unwritten}
use Rattle.gw_commands.proofs.replay_command.replay.Goals as goal

pub returns-in-OutOfMemory : goal.returns-in-OutOfMemory
returns-in-OutOfMemory g c =
    ended_early c.args.strict (g.R.Read.remaining (inner_of c.args.input.now))
    (g.R.Read.remaining (inner_of c.replay_told.new.reader))
    (has_failed c.replay_told.new.reader) (unended_reads c.args.input.now c.replay_told.new.reader)
    (g.W.Write.contents (inner_of c.args.output.now)) (g.W.Write.contents (inner_of c.replay_told.new.writer))
    (g.W.Write.contents (inner_of c.respond.new.output)) (has_failed c.respond.new.output) c.respond.result fault.OutOfMemory
    refusal.OutOfMemory refl tt c.in-Err.ensures.replayed.part
    (subst (IsHalted (has_failed c.replay_told.new.reader) (g.R.Read.remaining (inner_of c.args.input.now))
    (g.R.Read.remaining (inner_of c.replay_told.new.reader)) (g.W.Write.contents (inner_of c.args.output.now))
    (g.W.Write.contents (inner_of c.replay_told.new.writer))) c.in-OutOfMemory.is c.in-Err.ensures.replayed.halted)
    c.respond.ensures

pub returns-in_default : goal.returns-in_default
returns-in_default g c =
    let answer = c.respond-in_default in
    let before = g.R.Read.remaining (inner_of c.args.input.now) in
    let after = g.R.Read.remaining (inner_of c.replay_told.new.reader) in
    let old = g.W.Write.contents (inner_of c.args.output.now) in
    let middle = g.W.Write.contents (inner_of c.replay_told.new.writer) in
    let failed = has_failed c.replay_told.new.reader in
    let reads = unended_reads c.args.input.now c.replay_told.new.reader in
    let replayed = c.in-Err.ensures.replayed in
    let is = unread failed reads (has_failed c.replay_told.new.writer) c.in-Err.fault c.in_default.not-OutOfMemory
    (sym c.failed.ensures ∙ c.if-failed.false) replayed.fault in
    ended_early c.args.strict before after failed reads old middle (g.W.Write.contents (inner_of answer.new.output))
    (has_failed answer.new.output) answer.result fault.ReadFault refusal.ReadFault refl
    (subst (IsReplayFault failed reads (has_failed c.replay_told.new.writer)) is replayed.fault) replayed.part
    (subst (IsHalted failed before after old middle) is replayed.halted) answer.ensures

pub returns-then-failed : goal.returns-then-failed
returns-then-failed g c =
    unwritten c.args.strict (g.R.Read.remaining (inner_of c.args.input.now))
    (g.R.Read.remaining (inner_of c.replay_told.new.reader)) (has_failed c.replay_told.new.reader)
    (unended_reads c.args.input.now c.replay_told.new.reader) (g.W.Write.contents (inner_of c.args.output.now))
    (g.W.Write.contents (inner_of c.replay_told.new.writer)) (has_failed c.replay_told.new.writer) c.in-Err.fault
    (sym c.failed.ensures ∙ c.if-failed.true) c.in-Err.ensures.replayed.fault c.in-Err.ensures.replayed.part
    c.in-Err.ensures.replayed.halted
