use Rattle.std.proofs.Common.{◌∙◌}
use Rattle.gw_table.proofs.Universes.{frame_of_point}
use Rattle.gw_table.proofs.universe.Universe.frame_at.Goals as goal

pub returns : goal.returns
returns c =
    frame_of_point c.args.self.pdu1 c.args.self.page c.args.point c.empty_frame.result c.requires.page c.requires.inside
    c.empty_frame.ensures.record (c.empty_frame.ensures.word ∙ c.identifier_at.ensures)
