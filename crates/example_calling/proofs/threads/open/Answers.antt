use Rattle.example_calling.proofs.Forwarding.{open_refuses}
use Rattle.example_calling.proofs.threads.open.Goals as goal

pub returns-in-Err-clause-refused : goal.returns-in-Err-clause-refused
returns-in-Err-clause-refused g c =
    open_refuses c.args.first c.in_ok-parts.parts.operator c.in-Err.why c.in_ok-parts.ensures.made.published
    c.in-Err.ensures.refused
