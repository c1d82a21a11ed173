-- A gateway whose ends are in threads of the caller's own.
use Rattle.std.specs.Prelude.{◌≡◌, ℕ, ◌⊎◌, ◌<◌, ◌≤◌, false, List, [], ◌∷◌, ◌++◌, length, fold, sum_by, vec_capacity, vec_len, All}
use Rattle.std.specs.Option.{option_map_or}
use Rattle.j1939_gateway.specs.BoardEnds.{Board, Publishing}
use Rattle.j1939_gateway.specs.Lists.{longer}
use Rattle.j1939_gateway.specs.BoardRefusals.{Refuses}
use Rattle.j1939_gateway.specs.Bounds.{Bounds}
use Rattle.j1939_gateway.specs.Ledgers.{AreBalanced, ledger_with}
use Rattle.j1939_gateway.specs.FrameCopy.{FrameCopy}
use Rattle.j1939_gateway.specs.LaneLeft.{LaneLeft}
use Rattle.j1939_gateway.specs.Batches.{Pair}
use Rattle.j1939_gateway.specs.PortEnds.{Ingress, Egress, end_in, end_out, lane_at}
use Rattle.j1939_gateway.specs.Making.{AreNewEnds, AreOfOneGateway, nothing_counted}
use Rattle.j1939_gateway.specs.PortRuns.{IsReady, Offers}
use Rattle.j1939_gateway.specs.Reports.{AreJudged, LosesOnFullLanes, copies_to}
use Rattle.j1939_gateway.specs.OfferRefusal.{OfferRefusal}
use Rattle.j1939_gateway.specs.OfferRefusal.TheVariants.{FramesSpent, NoReading}
use Rattle.example_calling.specs.declared.fault.Fault.{Fault}
use Rattle.example_calling.specs.declared.fault.Fault.TheVariants.{OutOfMemory, NotMade, NotPublished, NotTaken, NotClosed}
use Rattle.example_calling.specs.declared.fault.Fault.TheVariants.{NoThread}
use Rattle.example_calling.specs.declared.threads.Ends.{Ends}
use Rattle.example_calling.specs.declared.threads.Forwarded.{Forwarded}
use Rattle.example_calling.specs.declared.threads.Idle.{Idle}
use Rattle.example_calling.specs.declared.threads.Drain.{Drain}
use Rattle.example_calling.specs.declared.threads.Feed.{Feed}

-- the limits of the gateway: two ports, and room for four copies in a lane, two batches and eight frames at a port
abbrev pub two_ports : Bounds
two_ports = record { ports = 2; lane = 4; versions = 2; frames = 8 }

-- the operator of the gateway once these are published
abbrev pub operator_with : Board → List (List Pair) → Publishing
operator_with board batches = record {
  board = board;
  published = batches;
  ports = two_ports.ports;
  versions = two_ports.versions;
  stopped = false;
}

-- the parts of a new gateway of which these batches are published, and known to no port yet
pub record IsOpen (batches : List (List Pair)) (operator : Publishing) (ins : List Ingress) (outs : List Egress)
    : Type 0 where
  pub published : operator ≡ operator_with operator.board batches
  pub known : All (λ ingress. (ingress.board ≡ operator.board) × (ingress.known ≡ [])) ins
  pub ends : AreNewEnds two_ports.ports two_ports.frames two_ports.lane ins outs
  pub one : AreOfOneGateway operator ins outs

-- the parts, each on its own: port 0 was told what is published, and is to offer the frames
pub record AreApart (operator : Publishing) (ins : List Ingress) (outs : List Egress) (frames : List (List ℕ)) (ends : Ends)
    (idle : Idle) : Type 0 where
  pub operator_is : ends.operator ≡ operator
  pub untold : Ingress
  pub ins_are : ins ≡ untold ∷ idle.port_in ∷ []
  pub told : ends.feed.port ≡ record untold { known = longer untold.known operator.published }
  pub outs_are : outs ≡ idle.port_out ∷ ends.drain.port ∷ []
  pub frames_are : ends.feed.frames.items ≡ frames
  pub none_yet : (ends.feed.outcomes.items ≡ []) × (ends.drain.copies.items ≡ [])
  pub room : vec_len ends.feed.frames ≤ vec_capacity ends.feed.outcomes

-- the port took no frame, and there is room for the outcomes of all that it is to offer
pub record CanOffer (feed : Feed) : Type 0 where
  pub ready : IsReady feed.port
  pub none_yet : feed.outcomes.items ≡ []
  pub room : vec_len feed.frames ≤ vec_capacity feed.outcomes

-- what the threads begin with
abbrev pub CanStart : Ends → Type 0
CanStart ends = CanOffer ends.feed × (ends.drain.copies.items ≡ [])

-- all frames were offered one after another, and these are their outcomes
pub record HasOffered (before after : Feed) : Type 0 where
  pub offers : Offers [] before.port before.frames.items after.outcomes.items after.port
  pub same : end_in after.port ≡ end_in before.port

-- why the port refused the next of so many frames: more were offered than it may take, or the policies could not be read
abbrev pub RefusesNextOf : ℕ → ℕ → OfferRefusal → Type 0
RefusesNextOf frames most FramesSpent = most < frames
RefusesNextOf frames most NoReading = Unit {0}

abbrev pub IsOfferFault : Feed → Fault → Type 0
IsOfferFault feed (NotTaken why) = RefusesNextOf (length feed.frames.items) feed.port.frames why
IsOfferFault feed _ = ⊥

-- the copies that were taken from the lane of port 0
abbrev pub taken_out : Egress → List FrameCopy
taken_out egress = option_map_or (λ outlet. outlet.taken) (lane_at egress.lanes 0) []

-- the copies were taken from that lane, in order
pub record HasSent (before after : Drain) : Type 0 where
  pub sent : taken_out after.port ≡ taken_out before.port ++ after.copies.items
  pub same : end_out after.port ≡ end_out before.port

-- the operator once it published the batch
abbrev pub with_batch : Publishing → List Pair → Publishing
with_batch operator batch = record operator { published = operator.published ++ batch ∷ [] }

-- the batch was published, and frames were offered
pub record HaveMet (operator : Publishing) (feed : Feed) (batch : List Pair) (operator' : Publishing) (feed' : Feed)
    : Type 0 where
  pub published : operator' ≡ with_batch operator batch
  pub offered : HasOffered feed feed'

-- the same, and copies were taken out
pub record HaveRun (before : Ends) (batch : List Pair) (after : Ends) : Type 0 where
  pub met : HaveMet before.operator before.feed batch after.operator after.feed
  pub sent : HasSent before.drain after.drain

-- of the lanes, that from port 0 to port 1 and the other one: the copies that were placed on the first were taken out or are
-- left, in order, and none was placed on the other
abbrev pub AreLanes : List FrameCopy → List FrameCopy → List LaneLeft → Type 0
AreLanes placed copies (there ∷ back ∷ []) =
    (there.from ≡ 0) × (there.to ≡ 1) × (copies ++ there.left.items ≡ placed)
    × (back.from ≡ 1) × (back.to ≡ 0) × (back.left.items ≡ [])
AreLanes placed copies _ = ⊥

-- all frames were offered at port 0 and judged by the first batch, or by the first and the second. A copy was lost only where
-- those before it placed as many on the lane to port 1 as it has room for. Each copy that was placed there was taken out or is
-- left, once and in order
pub record IsForwarded (first second : List Pair) (frames : List (List ℕ)) (forwarded : Forwarded) : Type 0 where
  pub whole : length forwarded.outcomes.items ≡ length frames
  pub judged : AreJudged two_ports.ports 0 (first ∷ second ∷ []) frames forwarded.outcomes.items
  pub lost : LosesOnFullLanes two_ports.lane forwarded.outcomes.items
  pub counted : forwarded.report.ins.items
      ≡ fold ledger_with nothing_counted forwarded.outcomes.items ∷ nothing_counted ∷ []
  pub lanes : AreLanes (copies_to 0 1 frames forwarded.outcomes.items) forwarded.copies.items forwarded.report.lanes.items
  pub published : forwarded.report.front ≡ 2
  pub balances : AreBalanced forwarded.report.ins.items forwarded.report.outs.items
      (sum_by (λ lane. length lane.left.items) forwarded.report.lanes.items)

-- what is refused: memory for the gateway, or the first batch
abbrev pub IsOpenFault : List Pair → Fault → Type 0
IsOpenFault first (NotMade why) = Unit {0}
IsOpenFault first (NotPublished why) = (board : Board) × (after : Publishing) × Refuses (operator_with board []) first why after
IsOpenFault first _ = ⊥

-- what is refused: a thread, the batch, or a frame
abbrev pub IsRunFault : Publishing → Feed → List Pair → Fault → Type 0
IsRunFault operator feed batch NoThread = Unit {0}
IsRunFault operator feed batch (NotPublished why) = (after : Publishing) × Refuses operator batch why after
IsRunFault operator feed batch (NotTaken why) = IsOfferFault feed (NotTaken why)
IsRunFault operator feed batch _ = ⊥

-- what is refused: memory for the parts, or the close
abbrev pub IsClosingFault : Fault → Type 0
IsClosingFault OutOfMemory = Unit {0}
IsClosingFault (NotClosed why) = Unit {0}
IsClosingFault _ = ⊥

-- what is refused: memory, the first batch, the second behind it, a thread, a frame, or the close
abbrev pub IsForwardingFault : List Pair → List Pair → List (List ℕ) → Fault → Type 0
IsForwardingFault first second frames (NotMade why) = Unit {0}
IsForwardingFault first second frames OutOfMemory = Unit {0}
IsForwardingFault first second frames NoThread = Unit {0}
IsForwardingFault first second frames (NotClosed why) = Unit {0}
IsForwardingFault first second frames (NotTaken why) = RefusesNextOf (length frames) two_ports.frames why
IsForwardingFault first second frames (NotPublished why) = (board : Board) × (after : Publishing)
    × (Refuses (operator_with board []) first why after ⊎ Refuses (operator_with board (first ∷ [])) second why after)
IsForwardingFault first second frames _ = ⊥
