use Rattle.std.proofs.Common.{◌≡◌, sym, ◌∙◌, ap, ◌<◌, length, arith}
use Rattle.gw_board.proofs.Adding.{adds_moves}
use Rattle.gw_board.proofs.history.Prefix.add.Goals as goal

-- The word, what was seen and the step are of one book, and the step keeps its rule.
pub compare_exchange-found-requires : goal.compare_exchange-found-requires
compare_exchange-found-requires c =
    let head = c.word.invariant in
    let offer = c.plain-offer.ensures in
    let pen = c.no_pen-pen.ensures in
    let seen = c.self.inside.seen in
    let same : seen.book ≡ c.word.inside.head.book =
    ap (λ k. k.board) c.self.view_is ∙ (sym c.requires.board ∙ sym c.word.view_is) in
    let room : c.self.inside.count < 65535 =
    omega (arith, ap (λ k. length k.batches) c.self.view_is, c.self.invariant.0, c.requires.few) in (
      ap (λ w. w.tracked) head,
      same,
      pen.0 ∙ same,
      offer.0,
      rw (ap (λ w. w.key) head, pen.1, offer.1, offer.3)
          (adds_moves seen.log _ c.self.inside.count (sym c.self.invariant.0) room),
    )
