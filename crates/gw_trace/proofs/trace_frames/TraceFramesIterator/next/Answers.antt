use Rattle.std.proofs.Common.{◌∙◌, true≢false, ◌++◌, IsTrue, append_assoc, arith, subst, sym}
use Rattle.gw_trace.specs.TraceFrames.{HasTaken, has_ended}
use Rattle.gw_trace.proofs.Taking.{one_fewer, with_others}
use Rattle.gw_trace.proofs.trace_frames.TraceFramesIterator.next.Goals as goal

pub pieces-smaller : goal.pieces-smaller
pieces-smaller g c =
    one_fewer (has_ended c.read_on.new.self) (has_ended c.pieces.self) c.read_on.new.self.pieces.left c.pieces.self.pieces.left
    c.pieces-test.ensures c.read_on.ensures.fewer

pub pieces-preserved : goal.pieces-preserved
pieces-preserved g c = record {
  read = λ before octets given h.
      let so_far = c.pieces.invariant.read before octets given h in
      let more = c.read_on.ensures.read before (octets ++ so_far.0) given
      (with_others g.R.Read.remaining before (octets ++ so_far.0) given c.pieces.self c.next.new.self
      c.in_default.ensures.items so_far.1) in (
        so_far.0 ++ more.0,
        subst (λ o. HasTaken g.R.Read.remaining before o given c.read_on.new.self) (append_assoc octets so_far.0 more.0) more.1,
      );
  left =
      let so_far = c.pieces.invariant.left in
      let most = c.read_on.ensures.most in
      let less = c.in_default.ensures.len in
      omega arith;
  stays = λ ended. absurd
      (true≢false (sym (subst (λ frames. IsTrue (has_ended frames)) (sym (c.pieces.invariant.stays ended)) ended)
      ∙ c.pieces-test.ensures));
}
