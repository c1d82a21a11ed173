use Rattle.std.proofs.Common.{◌≡◌, length}
use Rattle.rtrb.specs.Ring.{SameConsumer, received}
use Rattle.gw_run.proofs.batch.take_items.Given as goal

-- nothing was taken so far
abbrev pub invariant-loop : goal.invariant-loop
invariant-loop g l =
    SameConsumer l.fn.ring l.ring × (received l.ring ≡ received l.fn.ring) × (length l.items ≡ length l.fn.items)
