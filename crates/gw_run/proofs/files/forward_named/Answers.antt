use Rattle.std.proofs.Common.{inl, map}
use Rattle.gw_run.proofs.files.forward_named.Goals as goal

pub returns : goal.returns
returns g c = inl (map (λ text. text.items) c.deref.result.now, c.forward.ensures)
