-- What C is told of a gateway that is to begin anew.
use Rattle.std.specs.Prelude.{◌≡◌, ℕ, List, Result, Ok, Err}
use Rattle.gw_core.specs.Start.{Heard}
use Rattle.gw_core.specs.Gateway.{Gateway}
use Rattle.gw_core.specs.Renewing.{Renews}
use Rattle.gw_core.specs.Refusals.{renew_refusal_number}
use Rattle.gw_core.specs.declared.event.Event.{Event}
use Rattle.gw_core.specs.declared.refusal.RenewRefusal.{RenewRefusal}

-- 0, or the number of the refusal
abbrev pub renew_number : Result (Unit {0}) RenewRefusal → ℕ
renew_number (Ok done) = 0
renew_number (Err why) = renew_refusal_number why

-- a gateway began anew after a history, or was refused, and C is told which
pub record RenewsTold (known : Heard) (history : List Event) (result : ℕ) (old new : Gateway) : Type 0 where
  pub answer : Result (Unit {0}) RenewRefusal
  pub said : result ≡ renew_number answer
  pub renews : Renews old known history answer new
  pub limits : new.limits ≡ old.limits
