-- Policies that are replaced between two offers of a frame.
use Rattle.std.specs.Prelude.{◌≡◌, ℕ, ◌⊎◌, false, List, [], ◌∷◌, length, sum_by, All}
use mathlib.Core.List.{IsPrefix}
use Rattle.j1939_gateway.specs.BoardEnds.{Board, Publishing}
use Rattle.j1939_gateway.specs.Lists.{longer}
use Rattle.j1939_gateway.specs.BoardRefusals.{MayPublish, Refuses}
use Rattle.j1939_gateway.specs.ReplaceRefusal.{ReplaceRefusal}
use Rattle.j1939_gateway.specs.Bounds.{Bounds}
use Rattle.j1939_gateway.specs.Ledgers.{AreBalanced}
use Rattle.j1939_gateway.specs.Outcome.{Outcome}
use Rattle.j1939_gateway.specs.Batches.{Pair}
use Rattle.j1939_gateway.specs.PortEnds.{Ingress, Egress}
use Rattle.j1939_gateway.specs.Making.{AreNewEnds, AreOfOneGateway}
use Rattle.j1939_gateway.specs.Offers.{Offered}
use Rattle.j1939_gateway.specs.Reports.{IsJudged}
use Rattle.j1939_gateway.specs.OfferRefusal.TheVariants.{NoReading}
use Rattle.example_calling.specs.declared.fault.Fault.{Fault}
use Rattle.example_calling.specs.declared.fault.Fault.TheVariants.{NotMade, NotPublished, NotTaken, NotClosed}
use Rattle.example_calling.specs.declared.replacing.Replaced.{Replaced}

-- the limits of the gateway: three ports, and room for two copies in a lane, two batches and two frames at a port
abbrev pub bounds : Bounds
bounds = record { ports = 3; lane = 2; versions = 2; frames = 2 }

-- the operator of the gateway once these are published
abbrev pub operator_after : Board → List (List Pair) → Publishing
operator_after board batches = record {
  board = board;
  published = batches;
  ports = bounds.ports;
  versions = bounds.versions;
  stopped = false;
}

-- the parts of a new gateway
pub record IsNew (operator : Publishing) (ins : List Ingress) (outs : List Egress) : Type 0 where
  pub unpublished : operator ≡ operator_after operator.board []
  pub known : All (λ ingress. (ingress.board ≡ operator.board) × (ingress.known ≡ [])) ins
  pub ends : AreNewEnds bounds.ports bounds.frames bounds.lane ins outs
  pub one : AreOfOneGateway operator ins outs

-- the port that was told of the published batches
abbrev pub told_of : List (List Pair) → Ingress → Ingress
told_of published port = record port { known = longer port.known published }

-- a port that had heard these frames, newest first, was told what is published, and took a frame
pub record TakesTold (published : List (List Pair)) (heard : List (List ℕ)) (old : Ingress) (octets : List ℕ) (outcome : Outcome)
    (new : Ingress) : Type 0 where
  pub kept : IsPrefix old.known (longer old.known published)
  pub told : IsPrefix published (longer old.known published)
  pub offered : Offered heard (told_of published old) octets outcome new

-- the outcomes of a frame that was offered at port 0 once the first batch was published, and again once the second was: each was
-- judged by the first of the two, as many as its front counts, and the later one by both
pub record AreOutcomes (first second : List Pair) (octets : List ℕ) (before after : Outcome) : Type 0 where
  pub earlier : IsJudged bounds.ports 0 (first ∷ second ∷ []) [] octets before
  pub later : IsJudged bounds.ports 0 (first ∷ second ∷ []) (octets ∷ []) octets after
  pub newest : after.front ≡ 2

-- these are the outcomes, if the port knows no other batches
abbrev pub AreOutcomesAt : List Pair → List Pair → List ℕ → Outcome → Outcome → Ingress → Type 0
AreOutcomesAt first second octets before after port =
    IsPrefix port.known (first ∷ second ∷ []) → AreOutcomes first second octets before after

-- the outcomes of a frame that was offered before and after the second batch, and the report of the gateway
pub record IsReplaced (first second : List Pair) (octets : List ℕ) (replaced : Replaced) : Type 0 where
  pub judged : AreOutcomes first second octets replaced.before replaced.after
  pub published : replaced.report.front ≡ 2
  pub balances : AreBalanced replaced.report.ins.items replaced.report.outs.items
      (sum_by (λ lane. length lane.left.items) replaced.report.lanes.items)

-- why the operator did not publish the batch
pub record IsNotPublished (operator : Publishing) (batch : List Pair) (fault : Fault) : Type 0 where
  pub why : ReplaceRefusal
  pub after : Publishing
  pub fault_is : fault ≡ NotPublished why
  pub refuses : Refuses operator batch why after

-- what is refused: memory for the gateway, the first batch, the second behind it, a reading at an offer, or the close
abbrev pub IsReplacingFault : List Pair → List Pair → Fault → Type 0
IsReplacingFault first second (NotMade why) = Unit {0}
IsReplacingFault first second (NotPublished why) = (board : Board) × (after : Publishing)
    × (Refuses (operator_after board []) first why after
    ⊎ (MayPublish (operator_after board []) first × Refuses (operator_after board (first ∷ [])) second why after))
IsReplacingFault first second (NotTaken why) = why ≡ NoReading
IsReplacingFault first second (NotClosed why) = Unit {0}
IsReplacingFault first second _ = ⊥
