use Rattle.gw_log.proofs.RoundTrip.{writes_and_reads}
use Rattle.gw_log.proofs.law.reads_back.Goals as goal

pub returns : goal.returns
returns c = writes_and_reads
