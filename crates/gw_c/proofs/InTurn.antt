-- Copies that a port sends one after another, and one more.
use Rattle.std.proofs.Common.{ℕ, List, [], ◌∷◌, ◌++◌, refl, ap, subst}
use Rattle.gw_core.specs.Start.{Heard}
use Rattle.gw_core.specs.Gateway.{Gateway}
use Rattle.gw_core.specs.declared.event.Event.{Event}
use Rattle.gw_core.specs.declared.event.Event.TheVariants.{Send}
use Rattle.gw_c.specs.declared.sending.CCopy.{CCopy}
use Rattle.gw_c.specs.Sendings.{SendsCopy, SendsInTurn}

pub one_more : (known : Heard) (to from : ℕ) (copies : List CCopy) (told : CCopy) (old : Gateway) (history : List Event)
    (mid : Gateway) (between : List Event) (new : Gateway)
    → SendsInTurn known to copies old history mid between → SendsCopy known to from told mid between new
    → SendsInTurn known to (copies ++ told ∷ []) old history new (Send to from ∷ between)
one_more known to from [] told old history mid between new sends one =
    let here : SendsCopy known to from told old between new
    = subst (λ (g : Gateway). SendsCopy known to from told g between new) sends.0 one in
    let now : SendsCopy known to from told old history new
    = subst (λ (h : List Event). SendsCopy known to from told old h new) sends.1 here in
    (from, new, now, (refl, ap (λ (h : List Event). Send to from ∷ h) sends.1))
one_more known to from (first ∷ rest) told old history mid between new sends one = (
  sends.0,
  sends.1,
  sends.2,
  one_more known to from rest told sends.1 (Send to sends.0 ∷ history) mid between new sends.3 one,
)
