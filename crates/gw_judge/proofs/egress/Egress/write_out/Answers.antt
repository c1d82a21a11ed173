use Rattle.std.proofs.Common.{refl}
use Rattle.gw_io.specs.Tries.{inner_of, has_failed}
use Rattle.gw_judge.proofs.EgressParts.{flushes_egress, stays_egress}
use Rattle.gw_judge.proofs.egress.Egress.write_out.Goals as goal

pub returns-then-used_up-clause-reached : goal.returns-then-used_up-clause-reached
returns-then-used_up-clause-reached g c names batches octets text h =
    flushes_egress c.flush.result names batches octets text (g.W.Write.contents (inner_of c.args.writer.now))
    (g.W.Write.contents (inner_of c.flush.new.writer)) (has_failed c.flush.new.writer) c.args.self.now
    (record c.args.self.now { gathered = c.flush.new.self }) h refl refl c.flush.ensures.written

pub returns-else-used_up-clause-reached : goal.returns-else-used_up-clause-reached
returns-else-used_up-clause-reached g c names batches octets text h =
    stays_egress names batches octets text (g.W.Write.contents (inner_of c.args.writer.now)) c.args.self.now h
