use Rattle.gw_board.proofs.Visits.{enters}
use Rattle.gw_board.proofs.count.CountReader.enter.Goals as goal

pub enter_as-requires : goal.enter_as-requires
enter_as-requires c = enters _ _
