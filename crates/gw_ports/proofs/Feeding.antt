-- An ingress thread, after some of its frames.
use Rattle.std.proofs.Common.{◌≡◌, ℕ, ◌+◌, ◌-◌, ◌≤◌, List, [], length, min, All, IsTrue}
use Rattle.std.specs.Iterator.{Count, size}
use Rattle.gw_claims.specs.Holders.{HoldsAfter}
use Rattle.gw_ledger.specs.declared.outcome.Outcome.{Outcome}
use Rattle.gw_ports.specs.Ends.{Ingress, end_in}
use Rattle.gw_ports.specs.Offers.{IsPlaced}
use Rattle.gw_ports.specs.Running.{Offers}
use Rattle.gw_ports.specs.Sinks.{Handed, HasRoomFor}
use Rattle.gw_ports.specs.declared.running.feed.Feed.{Feed}
use Rattle.gw_ports.proofs.Runs.{heard_after}

-- the port offered these frames and handed on their outcomes; there is room for those of the others that it can take
pub record HasOffered {S O : Type 0} (remaining : S → Count) (takes : O → Outcome → O → Type 0) (room_of : O → Count)
    (feed : Feed S O) (frames : List (List ℕ)) (port : Ingress) (input : S) (outcomes : O) : Type 0 where
  pub claims : HoldsAfter port.claims (heard_after [] frames)
  pub list : List Outcome
  pub offers : Offers [] feed.port frames list port
  pub handed : Handed takes feed.outcomes list outcomes
  pub same : end_in port ≡ end_in feed.port
  pub most : port.frames ≡ feed.port.frames
  pub taken : port.ledger.taken ≡ length frames
  pub left : length frames + size (remaining input) ≤ size (remaining feed.input)
  pub room : HasRoomFor (room_of outcomes) (min (size (remaining feed.input)) feed.port.frames - length frames)
  pub all : IsTrue feed.waits → All IsPlaced list
