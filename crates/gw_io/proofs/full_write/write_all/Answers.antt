use Rattle.std.proofs.Common.{arith, rules}
use Rattle.std.proofs.lemmas.Grind.{common_steps}
use Rattle.gw_io.specs.Tries.{inner_of}
use Rattle.gw_io.proofs.Callers.{rest_from}
use Rattle.gw_io.proofs.Texts.{more_written}
use Rattle.gw_io.proofs.full_write.write_all.Goals as goal

pub loop-at-preserved : goal.loop-at-preserved
loop-at-preserved g c = record {
  within = search rules;
  whole = grind (arith, common_steps);
  written = more_written (g.W.Write.contents (inner_of c.args.writer.now)) (g.W.Write.contents (inner_of c.loop-at.writer))
      (g.W.Write.contents (inner_of c.write.new.self)) c.loop-at.at c.in-Ok.n c.args.octets.now c.loop-at.invariant.written
      (rw (rest_from c.loop-at.at c.args.octets.now) at c.in-Ok.ensures.bytes);
}
