-- The numbers by which refusals are known outside.
use Rattle.std.specs.Prelude.{ℕ}
use Rattle.gw_ports.specs.declared.refusals.MakeRefusal.{MakeRefusal}
use Rattle.gw_ports.specs.declared.refusals.MakeRefusal.TheVariants.{OutOfMemory, Unavailable, NoLanes}
use Rattle.gw_ports.specs.declared.refusals.OfferRefusal.{OfferRefusal}
use Rattle.gw_ports.specs.declared.refusals.OfferRefusal.TheVariants.{FramesSpent, NoReading}

abbrev pub make_refusal_number : MakeRefusal → ℕ
make_refusal_number OutOfMemory = 71
make_refusal_number Unavailable = 80
make_refusal_number NoLanes = 83

abbrev pub offer_refusal_number : OfferRefusal → ℕ
offer_refusal_number FramesSpent = 76
offer_refusal_number NoReading = 77
