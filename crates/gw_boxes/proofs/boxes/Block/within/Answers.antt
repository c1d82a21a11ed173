use Rattle.gw_boxes.proofs.Pieces.{within_both}
use Rattle.gw_boxes.proofs.boxes.Block.within.Goals as goal

pub returns : goal.returns
returns c =
    λ p. rw (c.within.ensures, c.within-2.ensures, c.within-3.ensures, c.within-4.ensures)
    (within_both p c.args.self.now c.args.other.now)
