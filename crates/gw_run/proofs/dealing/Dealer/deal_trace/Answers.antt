use Rattle.std.proofs.Common.{◌∙◌, [], inr, arith, refl, subst, sym, List, ℕ, ◌++◌}
use Rattle.std.specs.Io.KnownBytes.{Consumes}
use Rattle.std.proofs.lemmas.Result.{IfErr-weaker}
use Rattle.gw_io.specs.Tries.{has_ended, has_failed, inner_of}
use Rattle.gw_io.proofs.Callers.{consumed_kept, consumed_more, consumed_nothing, met_end, met_piece, unended_more}
use Rattle.gw_run.specs.Dealing.{IsDealt}
use Rattle.gw_run.proofs.DealtShares.{nothing_read, rings_on, rings_same}
use Rattle.gw_run.proofs.DealtTraces.{ends_ill}
use Rattle.gw_run.proofs.dealing.Dealer.deal_trace.Goals as goal

pub pieces-init : goal.pieces-init
pieces-init g c = record {
  turn = c.requires.turn;
  rings = rings_same c.args.self.now.ports.items;
  whole = c.requires.whole;
  unended = refl;
  counted = omega (c.requires.unread, c.new-pieces.ensures, arith);
  given = (
    [],
    consumed_nothing (g.I.Read.remaining (inner_of c.args.reader.now)),
    c.new-trace.ensures,
    λ is. subst (λ (l : List (List ℕ)). IsDealt l c.args.self.now) (sym nothing_read) is,
  );
}

pub pieces-preserved : goal.pieces-preserved
pieces-preserved g c =
    let given = g.I.Read.remaining (inner_of c.args.reader.now) in
    let before = g.I.Read.remaining (inner_of c.pieces.reader) in
    let after = g.I.Read.remaining (inner_of c.read.new.reader) in
    let reads = c.in_ok-read.ensures.reads (omega (c.pieces.invariant.counted, arith)) in
    let left = c.in_ok-read.ensures.left in
    let so_far = c.pieces.invariant.given in
    let piece = met_piece before after c.read.new.self.piece c.in_ok-read.field-0 c.if-branch.true c.in_ok-read.ensures.piece in
    record {
      turn = c.deal_piece.ensures.turn;
      rings = rings_on _ _ _ c.pieces.invariant.rings c.deal_piece.ensures.rings;
      whole = search (c.in_ok-read.ensures.whole, c.pieces.invariant.whole);
      unended =
          unended_more (has_ended c.read.new.reader) (has_ended c.pieces.reader) c.in_ok-read.field-0 c.if-branch.true
          c.in_ok-read.ensures.ended ∙ c.pieces.invariant.unended;
      counted = omega (c.pieces.invariant.counted, arith);
      given = (
        so_far.0 ++ c.piece-piece.result.now,
        consumed_more given before after so_far.0 c.piece-piece.result.now so_far.1
            (subst (Consumes before after) (sym c.piece-piece.ensures) piece.0),
        c.in_ok-deal_piece.ensures.read so_far.0 so_far.2,
        λ is. c.in_ok-deal_piece.ensures.dealt so_far.0 so_far.2 (so_far.3 is),
      );
    }

pub returns-clause-refused : goal.returns-clause-refused
returns-clause-refused g c =
    let given = g.I.Read.remaining (inner_of c.args.reader.now) in
    let before = g.I.Read.remaining (inner_of c.pieces.reader) in
    let after = g.I.Read.remaining (inner_of c.read.new.reader) in
    let so_far = c.pieces.invariant.given in
    let end = met_end before after c.read.new.self.piece c.in_ok-read.field-0 c.if-branch.false c.in_ok-read.ensures.piece in
    IfErr-weaker c.end.result _ _ (λ why no. inr (inr no))
    (ends_ill given after (has_failed c.read.new.reader) so_far.0 c.end.result
    (record {
      consumed = consumed_kept given before after so_far.0 so_far.1 end.0;
      end = end.1;
      whole = search (c.in_ok-read.ensures.whole, c.pieces.invariant.whole);
    })
    (c.end.ensures so_far.0 so_far.2))
