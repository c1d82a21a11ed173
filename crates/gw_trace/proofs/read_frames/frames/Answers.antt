use Rattle.std.proofs.Common.{◌≡◌, false, [], ◌++◌, Result, Ok, Err, inl, inr, refl, sym, ap, ◌∙◌, subst, arith, true≢false}
use Rattle.std.specs.Prelude.{is_err, OnOk}
use Rattle.std.specs.Io.KnownBytes.{Consumes}
use Rattle.std.proofs.lemmas.Result.{err_from_is_err_and}
use Rattle.gw_io.specs.Pieces.{most_reads}
use Rattle.gw_io.specs.Tries.{inner_of, has_failed, has_ended, reads_of, unended_reads}
use Rattle.gw_io.proofs.Callers.{consumed_nothing, consumed_more, consumed_kept, met_piece, met_end, gives_nothing, gives_more}
use Rattle.gw_io.proofs.Callers.{gives_kept, unended_more, unended_all}
use Rattle.gw_trace.proofs.Faults.{trace_is_unread}
use Rattle.gw_trace.proofs.Resuming.{nothing_read}
use Rattle.gw_trace.proofs.read_frames.frames.Goals as goal

pub pieces-init : goal.pieces-init
pieces-init g c = record {
  whole = c.requires.whole;
  unended = refl;
  counted = omega (c.requires.unread, c.new-pieces.ensures, arith);
  gave = gives_nothing (g.R.Read.remaining (inner_of c.args.reader.now)) (reads_of c.args.reader.now) c.requires.unread;
  given = record {
    octets = [];
    consumed = consumed_nothing (g.R.Read.remaining (inner_of c.args.reader.now));
    read = c.new-trace.ensures;
    given = c.new-frames.ensures.items ∙ sym nothing_read;
  };
}

pub returns-in_err-read-clause-refused : goal.returns-in_err-read-clause-refused
returns-in_err-read-clause-refused g c =
    let p = err_from_is_err_and c.from_residual.result c.from_residual.ensures.1 in
    rw (p.1, p.2) (elim c.in_err-read.ensures.fault [
      | inl failed ↦ inl failed
      | inr none ↦
          let sum = c.in_err-read.ensures.reads (omega (c.pieces.invariant.counted, arith)) in
          let fewer = c.in_err-read.ensures.fewer in
          let all : reads_of c.pieces.reader ≡ most_reads = omega (none, c.pieces.invariant.counted, arith) in
          let same : reads_of c.read.new.reader ≡ most_reads = omega (none, c.pieces.invariant.counted, arith) in
          inr (
            unended_all c.args.reader.now c.read.new.reader (c.in_err-read.ensures.unended ∙ c.pieces.invariant.unended) ∙ same,
            gives_kept (g.R.Read.remaining (inner_of c.args.reader.now)) (g.R.Read.remaining (inner_of c.pieces.reader))
                (g.R.Read.remaining (inner_of c.read.new.reader)) (reads_of c.pieces.reader) most_reads
                c.pieces.invariant.gave c.in_err-read.ensures.piece (sym all),
          )
    ])

pub returns-in_err-read-clause-failed : goal.returns-in_err-read-clause-failed
returns-in_err-read-clause-failed g c failed =
    let p = err_from_is_err_and c.from_residual.result c.from_residual.ensures.1 in
    p.1 ∙ ap Err p.2

pub returns-in_err-end-clause-refused : goal.returns-in_err-end-clause-refused
returns-in_err-end-clause-refused g c =
    let given = g.R.Read.remaining (inner_of c.args.reader.now) in
    let before = g.R.Read.remaining (inner_of c.pieces.reader) in
    let after = g.R.Read.remaining (inner_of c.read.new.reader) in
    let so_far = c.pieces.invariant.given in
    let fault = err_from_is_err_and c.from_residual-in_err-end.result c.from_residual-in_err-end.ensures.1 in
    let end = met_end before after c.read.new.self.piece c.in_ok-read.field-0 c.if-branch.false c.in_ok-read.ensures.piece in
    rw (fault.1, fault.2)
    (trace_is_unread given after (has_failed c.read.new.reader) (unended_reads c.args.reader.now c.read.new.reader)
    c.in_err-end.field-0.0 so_far.octets (consumed_kept given before after so_far.octets so_far.consumed end.0) end.1
    (c.in_err-end.ensures so_far.octets so_far.read))

-- what holds of a call that was not refused
fed : {A E P : Type 0} (r : Result A E) → is_err r ≡ false → OnOk r P → P
fed (Ok done) fine h = h
fed (Err e) fine h = absurd (true≢false fine)

pub pieces-preserved : goal.pieces-preserved
pieces-preserved g c =
    let given = g.R.Read.remaining (inner_of c.args.reader.now) in
    let before = g.R.Read.remaining (inner_of c.pieces.reader) in
    let after = g.R.Read.remaining (inner_of c.read.new.reader) in
    let reads = c.in_ok-read.ensures.reads (omega (c.pieces.invariant.counted, arith)) in
    let left = c.in_ok-read.ensures.left in
    let so_far = c.pieces.invariant.given in
    let piece = met_piece before after c.read.new.self.piece c.in_ok-read.field-0 c.if-branch.true c.in_ok-read.ensures.piece in
    record {
      whole = search (c.in_ok-read.ensures.whole, c.pieces.invariant.whole);
      unended =
          unended_more (has_ended c.read.new.reader) (has_ended c.pieces.reader) c.in_ok-read.field-0 c.if-branch.true
          c.in_ok-read.ensures.ended ∙ c.pieces.invariant.unended;
      counted = omega (c.pieces.invariant.counted, arith);
      gave =
          gives_more given before after (reads_of c.pieces.reader) (reads_of c.read.new.reader) c.read.new.self.piece
          c.pieces.invariant.gave piece (omega arith);
      given = record {
        octets = so_far.octets ++ c.piece.result.now;
        consumed = consumed_more given before after so_far.octets c.piece.result.now so_far.consumed
            (subst (Consumes before after) (sym c.piece.ensures) piece.0);
        read = fed c.feed_to.result (sym c.is_err.ensures.value ∙ c.if-is_err.false)
            (c.feed_to.ensures.read so_far.octets so_far.read);
        given = fed c.feed_to.result (sym c.is_err.ensures.value ∙ c.if-is_err.false)
            (c.feed_to.ensures.frames so_far.octets so_far.read so_far.given);
      };
    }
