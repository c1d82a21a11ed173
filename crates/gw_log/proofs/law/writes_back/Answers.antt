use Rattle.gw_log.proofs.ReadBack.{reads_and_writes}
use Rattle.gw_log.proofs.law.writes_back.Goals as goal

pub returns : goal.returns
returns c = reads_and_writes
