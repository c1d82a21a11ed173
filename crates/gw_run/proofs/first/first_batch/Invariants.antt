use Rattle.gw_run.specs.Forwarding.{MeansAt}
use Rattle.gw_run.proofs.FirstBatch.{IsBegun, octets_of}
use Rattle.gw_run.proofs.first.first_batch.Given as goal

abbrev pub invariant-loop-port : goal.invariant-loop-port
invariant-loop-port g l = IsBegun (MeansAt l.sources (octets_of l.texts)) l.port l.first
