-- The numbers of the refusals.
use Rattle.std.specs.Prelude.{ℕ}
use Rattle.gw_core.specs.declared.event.EventRefusal.{EventRefusal}
use Rattle.gw_core.specs.declared.event.EventRefusal.TheVariants.{NoSuchPort, Busy, Idle, VersionsSpent, FramesSpent}
use Rattle.gw_core.specs.declared.refusal.RenewRefusal.{RenewRefusal}
use Rattle.gw_core.specs.declared.refusal.RenewRefusal.TheVariants as renewing

-- the number by which want of memory is told
abbrev pub out_of_memory_number : ℕ
out_of_memory_number = 71

-- the numbers by which refused events are told
abbrev pub refusal_number : EventRefusal → ℕ
refusal_number NoSuchPort = 72
refusal_number Busy = 73
refusal_number Idle = 74
refusal_number VersionsSpent = 75
refusal_number FramesSpent = 76

-- the numbers by which it is told why a gateway does not begin anew
abbrev pub renew_refusal_number : RenewRefusal → ℕ
renew_refusal_number renewing.Busy = 73
renew_refusal_number renewing.CopiesWait = 126
renew_refusal_number renewing.TooManyOwners = 100
