use Rattle.std.proofs.Common.{◌∙◌}
use Rattle.example_calling.specs.Threads.{taken_out}
use Rattle.example_calling.proofs.Forwarding.{sent_more}
use Rattle.example_calling.proofs.threads.take_out.Goals as goal

pub loop-preserved : goal.loop-preserved
loop-preserved g c =
    let inv = c.loop.invariant in
    let one = c.if-not-take_copy.ensures.taken in (
      sent_more (taken_out c.args.drain.port) c.loop.copies.items c.take_copy.new.copies.items c.loop.port c.take_copy.new.port
          one.0 inv.0 one.1 one.2,
      c.take_copy.ensures.end ∙ inv.1,
    )
