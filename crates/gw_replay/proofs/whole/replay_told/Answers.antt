use Rattle.std.proofs.Common.{◌≡◌, ap, sym, ◌∙◌, arith, inl, inr}
use Rattle.std.specs.Prelude.{is_err}
use Rattle.std.proofs.lemmas.Result.{err_from_is_err_and}
use Rattle.gw_io.specs.Pieces.{most_reads}
use Rattle.gw_io.specs.Tries.{inner_of, has_failed, has_ended, reads_of, unended_reads}
use Rattle.gw_io.proofs.Callers.{met_piece, gives_more, gives_kept, unended_more, unended_all, unended_few}
use Rattle.gw_replay.specs.declared.whole.ReplayFault.TheVariants.{ReadFault, WriteFault, OutOfMemory}
use Rattle.gw_replay.proofs.Streams.{goes_on, reads_on, partly, broken_off, stays, halts, ends}
use Rattle.gw_replay.proofs.whole.replay_told.Goals as goal

pub returns-in_err-read-clause-replayed : goal.returns-in_err-read-clause-replayed
returns-in_err-read-clause-replayed g c =
    let fault = err_from_is_err_and c.from_residual.result c.from_residual.ensures.1 in
    let given = g.R.Read.remaining (inner_of c.args.reader.now) in
    let before = g.R.Read.remaining (inner_of c.pieces.reader) in
    let after = g.R.Read.remaining (inner_of c.read.new.reader) in
    let failed = has_failed c.read.new.reader in
    let sum = c.in_err-read.ensures.reads (omega (c.pieces.invariant.counted, arith)) in
    let few = unended_few c.args.reader.now c.read.new.reader most_reads (omega (c.pieces.invariant.counted, arith)) in
    let halts_so = halts failed given after (g.W.Write.contents (inner_of c.args.writer.now))
    (g.W.Write.contents (inner_of c.pieces.writer)) (unended_reads c.args.reader.now c.read.new.reader)
    (has_failed c.pieces.writer) ReadFault in
    let stays_so = stays failed c.pieces.invariant.way c.in_err-read.ensures.piece in
    rw (fault.1, fault.2) (elim c.in_err-read.ensures.fault [
      | inl failed ↦ halts_so (stays_so (inl failed)) (inl failed) few
      | inr none ↦
          let fewer = c.in_err-read.ensures.fewer in
          let all : reads_of c.pieces.reader ≡ most_reads = omega (none, c.pieces.invariant.counted, arith) in
          let same : reads_of c.read.new.reader ≡ most_reads = omega (none, c.pieces.invariant.counted, arith) in
          halts_so
          (stays_so (inr (gives_kept given before after (reads_of c.pieces.reader) most_reads c.pieces.invariant.gave
          c.in_err-read.ensures.piece (sym all))))
          (inr (unended_all c.args.reader.now c.read.new.reader
          (c.in_err-read.ensures.unended ∙ c.pieces.invariant.unended) ∙ same))
          few
    ])

pub returns-in_err-write-clause-replayed : goal.returns-in_err-write-clause-replayed
returns-in_err-write-clause-replayed g c =
    let fault = err_from_is_err_and c.from_residual-in_err-write.result c.from_residual-in_err-write.ensures.1 in
    let way = c.pieces.invariant.way in
    let read = reads_on c.feed-fed.result c.piece.result.now c.read.new.self.piece c.in_ok-read.field-0 c.feed-fed.new.self way
    c.in_ok-read.ensures.piece c.if-branch.true c.piece.ensures c.in_ok-read.ensures.short c.feed-fed.ensures.fed in
    let new = g.W.Write.contents (inner_of c.write.new.writer) in
    let sum = c.in_ok-read.ensures.reads (omega (c.pieces.invariant.counted, arith)) in
    rw (fault.1, fault.2, c.in_err-write.ensures.fault)
    (halts (has_failed c.read.new.reader) (g.R.Read.remaining (inner_of c.args.reader.now))
    (g.R.Read.remaining (inner_of c.read.new.reader)) (g.W.Write.contents (inner_of c.args.writer.now)) new
    (unended_reads c.args.reader.now c.read.new.reader) (has_failed c.write.new.writer) WriteFault
    (partly (g.W.Write.contents (inner_of c.args.writer.now)) (g.W.Write.contents (inner_of c.pieces.writer)) new way.text
    c.feed-fed.new.self.answers.items way.written read c.in_err-write.ensures.part)
    c.in_err-write.ensures.failed
    (unended_few c.args.reader.now c.read.new.reader most_reads (omega (c.pieces.invariant.counted, arith))))

pub returns-in_err-fed-clause-replayed : goal.returns-in_err-fed-clause-replayed
returns-in_err-fed-clause-replayed g c =
    let fault = err_from_is_err_and c.from_residual-in_err-fed.result c.from_residual-in_err-fed.ensures.1 in
    let way = c.pieces.invariant.way in
    let read = reads_on c.feed-fed.result c.piece.result.now c.read.new.self.piece c.in_ok-read.field-0 c.feed-fed.new.self way
    c.in_ok-read.ensures.piece c.if-branch.true c.piece.ensures c.in_ok-read.ensures.short c.feed-fed.ensures.fed in
    let new = g.W.Write.contents (inner_of c.write.new.writer) in
    let sum = c.in_ok-read.ensures.reads (omega (c.pieces.invariant.counted, arith)) in
    rw (fault.1, fault.2)
    (halts (has_failed c.read.new.reader) (g.R.Read.remaining (inner_of c.args.reader.now))
    (g.R.Read.remaining (inner_of c.read.new.reader)) (g.W.Write.contents (inner_of c.args.writer.now)) new
    (unended_reads c.args.reader.now c.read.new.reader) (has_failed c.write.new.writer) OutOfMemory
    (broken_off (g.W.Write.contents (inner_of c.args.writer.now)) (g.W.Write.contents (inner_of c.pieces.writer)) new way.text
    c.feed-fed.new.self.answers.items way.written read c.in_ok-write.ensures.written)
    tt (unended_few c.args.reader.now c.read.new.reader most_reads (omega (c.pieces.invariant.counted, arith))))

pub pieces-preserved : goal.pieces-preserved
pieces-preserved g c = record {
  whole = search (c.in_ok-read.ensures.whole, c.pieces.invariant.whole);
  unended =
      unended_more (has_ended c.read.new.reader) (has_ended c.pieces.reader) c.in_ok-read.field-0 c.if-branch.true
      c.in_ok-read.ensures.ended ∙ c.pieces.invariant.unended;
  counted = let reads = c.in_ok-read.ensures.reads (omega (c.pieces.invariant.counted, arith)) in
      omega (c.pieces.invariant.counted, arith);
  gave =
      let given = g.R.Read.remaining (inner_of c.args.reader.now) in
      let before = g.R.Read.remaining (inner_of c.pieces.reader) in
      let after = g.R.Read.remaining (inner_of c.read.new.reader) in
      let reads = c.in_ok-read.ensures.reads (omega (c.pieces.invariant.counted, arith)) in
      let left = c.in_ok-read.ensures.left in
      gives_more given before after (reads_of c.pieces.reader) (reads_of c.read.new.reader) c.read.new.self.piece
      c.pieces.invariant.gave
      (met_piece before after c.read.new.self.piece c.in_ok-read.field-0 c.if-branch.true c.in_ok-read.ensures.piece)
      (omega arith);
  writes = c.in_ok-write.ensures.whole;
  way = goes_on c.feed-fed.result c.piece.result.now c.read.new.self.piece c.in_ok-read.field-0 c.feed-fed.new.self
      c.pieces.invariant.way c.in_ok-read.ensures.piece c.if-branch.true c.piece.ensures c.feed-fed.ensures.fed
      (ap is_err c.in_ok-fed.was) c.in_ok-write.ensures.written c.write.ensures.script c.write.ensures.kept
      c.in_ok-write.ensures.empty c.write.ensures.refused;
}

pub returns-clause-replayed : goal.returns-clause-replayed
returns-clause-replayed g c =
    let sum = c.in_ok-read.ensures.reads (omega (c.pieces.invariant.counted, arith)) in
    ends (g.R.Read.remaining (inner_of c.read.new.reader)) (g.W.Write.contents (inner_of c.end.new.writer))
    c.read.new.self.piece c.in_ok-read.field-0 (has_failed c.read.new.reader) (has_failed c.end.new.writer)
    (unended_reads c.args.reader.now c.read.new.reader)
    c.end.result c.pieces.invariant.way c.in_ok-read.ensures.piece c.if-branch.false c.end.ensures.ended
    (c.in_ok-read.ensures.whole ∙ c.pieces.invariant.whole)
    (unended_few c.args.reader.now c.read.new.reader most_reads (omega (c.pieces.invariant.counted, arith)))
    c.end.ensures.whole c.end.ensures.failed
