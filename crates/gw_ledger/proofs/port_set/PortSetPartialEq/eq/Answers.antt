use Rattle.std.proofs.Common.{arith}
use Rattle.gw_ledger.specs.PortWord.{word_of-ports_of}
use Rattle.gw_ledger.proofs.port_set.PortSetPartialEq.eq.Goals as goal

pub returns : goal.returns
returns c = grind (arith, word_of-ports_of)
