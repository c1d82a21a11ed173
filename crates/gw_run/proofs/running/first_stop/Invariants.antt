use Rattle.std.proofs.Common.{◌≡◌, ◌<◌, ℕ, Option, None, slice_index_or}
use Rattle.gw_ports.specs.declared.refusals.OfferRefusal.{OfferRefusal}
use Rattle.gw_run.proofs.running.first_stop.Given as goal

abbrev pub invariant-loop-port : goal.invariant-loop-port
invariant-loop-port l = (k : ℕ) (d : Option OfferRefusal) → k < l.port → slice_index_or l.stops k d ≡ None
