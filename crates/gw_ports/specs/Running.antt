-- What the threads of a run do.
use Rattle.std.specs.Prelude.{◌≡◌, ℕ, ◌+◌, ◌<◌, List, [], ◌∷◌, ◌++◌, length, take, slice_index, slice_index_or, Option, Some}
use Rattle.std.specs.Prelude.{None, option_to_list, Bool, IsTrue, MatchOption, All, ◌≤◌, map, min, Vec, vec_capacity, vec_len}
use Rattle.std.specs.declared.alloc.Global.{Global}
use Rattle.std.specs.Iterator.{Count, IsFinite, Yields, YieldsThen, size}
use Rattle.gw_board.specs.Ends.{Publishing}
use Rattle.gw_board.specs.Refusals.{Refuses}
use Rattle.gw_board.specs.declared.refusals.ReplaceRefusal.{ReplaceRefusal}
use Rattle.gw_ledger.specs.declared.outcome.FrameCopy.{FrameCopy}
use Rattle.gw_ledger.specs.declared.outcome.Outcome.{Outcome}
use Rattle.gw_claims.specs.Holders.{HoldsAfter}
use Rattle.gw_policy.specs.Batches.{Pair}
use Rattle.gw_ports.specs.Ends.{Ingress, Egress, end_in, end_out}
use Rattle.gw_ports.specs.Making.{nothing_counted}
use Rattle.gw_ports.specs.Offers.{IsPlaced, Offered}
use Rattle.gw_ports.specs.Reports.{sum_of_others}
use Rattle.gw_ports.specs.Sending.{Takes}
use Rattle.gw_ports.specs.Sinks.{Handed, HasRoomFor}
use Rattle.gw_ports.specs.declared.refusals.OfferRefusal.{OfferRefusal}
use Rattle.gw_ports.specs.declared.refusals.OfferRefusal.TheVariants.{FramesSpent}
use Rattle.gw_ports.specs.declared.running.feed.Done.{Done}
use Rattle.gw_ports.specs.declared.running.feed.Feed.{Feed}
use Rattle.gw_ports.specs.declared.running.feed.Intake.{Intake}
use Rattle.gw_ports.specs.declared.running.gathering.EgressPorts.{EgressPorts}
use Rattle.gw_ports.specs.declared.running.gathering.IngressPorts.{IngressPorts}
use Rattle.gw_ports.specs.declared.running.drain.Drain.{Drain}
use Rattle.gw_ports.specs.declared.running.drain.Drains.{Drains}
use Rattle.gw_ports.specs.declared.running.drain.Work.{Work}

-- the frames were offered one after another, each where the one before left the port, and these are their outcomes; `heard` is
-- what was heard before, newest first
abbrev pub Offers : List (List ℕ) → Ingress → List (List ℕ) → List Outcome → Ingress → Type 0
Offers heard old [] [] new = new ≡ old
Offers heard old [] (outcome ∷ outcomes) new = ⊥
Offers heard old (octets ∷ frames) [] new = ⊥
Offers heard old (octets ∷ frames) (outcome ∷ outcomes) new =
    (next : Ingress) × Offered heard old octets outcome next × Offers (octets ∷ heard) next frames outcomes new

-- the port has taken no frame
abbrev pub IsReady : Ingress → Type 0
IsReady ingress = HoldsAfter ingress.claims [] × (ingress.ledger ≡ nothing_counted)

-- ---- lists by port

-- a relation holds of each element and what stands at its place in the other list
abbrev pub Pairwise : {A B : Type 0} → (A → B → Type 0) → List A → List B → Type 0
Pairwise R [] [] = Unit {0}
Pairwise R [] (y ∷ ys) = ⊥
Pairwise R (x ∷ xs) [] = ⊥
Pairwise R (x ∷ xs) (y ∷ ys) = R x y × Pairwise R xs ys

-- ---- an ingress port

-- an ingress port that is to offer the frames of its input, and whether a copy waits for room
pub record Feeding (S : Type 0) : Type 0 where
  pub port : Ingress
  pub input : S
  pub waits : Bool

-- what it did: the outcomes of its frames, why it stopped before they were at an end, and what is left of its input
pub record Fed (S : Type 0) : Type 0 where
  pub port : Ingress
  pub outcomes : List Outcome
  pub stop : Option OfferRefusal
  pub rest : S

-- an input gave these frames and ended; or, where the port stopped, it gave one more
abbrev pub Gives : {S : Type 0} → (S → Option (List ℕ) → S → Type 0) → S → List (List ℕ) → Option OfferRefusal → S → Type 0
Gives steps input frames None rest = YieldsThen steps input frames None rest
Gives steps input frames (Some why) rest = (refused : List ℕ) × Yields steps input (frames ++ refused ∷ []) rest

-- the port offered the frames of its input, up to the one that was refused; where it waits no copy was lost
pub record IsDone {S : Type 0} (steps : S → Option (List ℕ) → S → Type 0) (feed : Feeding S) (done : Fed S) : Type 0 where
  pub frames : List (List ℕ)
  pub gave : Gives steps feed.input frames done.stop done.rest
  pub offers : Offers [] feed.port frames done.outcomes done.port
  pub same : end_in done.port ≡ end_in feed.port
  pub spent : done.stop ≡ Some FramesSpent → done.port.ledger.taken ≡ done.port.frames
  pub all : IsTrue feed.waits → All IsPlaced done.outcomes

-- ---- its thread

-- an ingress port that may offer the frames of its input: the input ends, and its sink has room for the outcome of each frame
-- that the port can take
pub record CanOffer {S O : Type 0} (can_next : S → Type 0) (remaining : S → Count) (room_of : O → Count) (feed : Feed S O)
    : Type 0 where
  pub input : can_next feed.input × IsFinite (remaining feed.input)
  pub room : HasRoomFor (room_of feed.outcomes) (min (size (remaining feed.input)) feed.port.frames)
  pub new : IsReady feed.port

-- each ingress port may, while batches are published, and there is room for the ports once they have and for the fronts
pub record CanFeed {S O : Type 0} (can_next : S → Type 0) (remaining : S → Count) (room_of : O → Count) (intake : Intake S O)
    : Type 0 where
  pub each : All (CanOffer can_next remaining room_of) intake.feeds.items
  pub gathered : (intake.done.items ≡ []) × (vec_len intake.feeds ≤ vec_capacity intake.done)
  pub fronts : intake.publishing.fronts.items ≡ []
  pub enough : vec_len intake.publishing.batches ≤ vec_capacity intake.publishing.fronts

-- what the threads of a run begin with: the ports may offer, and there is room for the egress ports
pub record CanRun {S O C : Type 0} (can_next : S → Type 0) (remaining : S → Count) (room_of : O → Count) (work : Work S O C)
    : Type 0 where
  pub feeds : CanFeed can_next remaining room_of work.intake
  pub gathered : (work.drained.items ≡ []) × (vec_len work.drains ≤ vec_capacity work.drained)

abbrev pub feeding_of : {S O : Type 0} → Feed S O → Feeding S
feeding_of feed = record { port = feed.port; input = feed.input; waits = feed.waits }

-- the thread did that, and handed the outcomes to its sink
pub record HasFed {S O : Type 0} (steps : S → Option (List ℕ) → S → Type 0) (takes : O → Outcome → O → Type 0) (feed : Feed S O)
    (done : Done S O) : Type 0 where
  pub outcomes : List Outcome
  pub did : IsDone steps (feeding_of feed)
      (record { port = done.port; outcomes = outcomes; stop = done.stop; rest = done.input })
  pub handed : Handed takes feed.outcomes outcomes done.outcomes

-- the inputs end, and the sink of each port has room for the outcome of each frame of its input that the port can take
abbrev pub CanFeedAll : {S O : Type 0} → (S → Type 0) → (S → Count) → (O → Count) → ℕ → List S → List O → Type 0
CanFeedAll {S} {O} can_next remaining room_of frames inputs outcomes = (k : ℕ) (d : S) (e : O) → k < length inputs
    → can_next (slice_index_or inputs k d) × IsFinite (remaining (slice_index_or inputs k d))
    × HasRoomFor (room_of (slice_index_or outcomes k e)) (min (size (remaining (slice_index_or inputs k d))) frames)

-- empty lists for each port of inputs of these sizes: room for the outcomes of its frames, of which it takes so many at most, and
-- for the copies that the other ports can enqueue for it
pub record AreRoomFor (frames : ℕ) (sizes : List ℕ) (outcomes : List (Vec Outcome Global)) (out : List (Vec FrameCopy Global))
    : Type 0 where
  pub empty : All (λ list. list.items ≡ []) outcomes × All (λ list. list.items ≡ []) out
  pub taken : map (λ list. vec_capacity list) outcomes ≡ map (λ size. min size frames) sizes
  pub copied : length out ≡ length sizes
  pub enough : (k : ℕ) → k < length sizes
      → sum_of_others k (map (λ size. min size frames) sizes) ≡ slice_index (map (λ list. vec_capacity list) out) k

-- ---- an egress port

-- what an egress port did: the copies that left there
pub record Drained : Type 0 where
  pub port : Egress
  pub copies : List FrameCopy

-- the port took copies out
pub record HasTaken (before : Egress) (after : Drained) : Type 0 where
  pub takes : Takes before after.copies after.port
  pub same : end_out after.port ≡ end_out before

-- the thread did that, and handed the copies to its sink
pub record HasDrained {C : Type 0} (takes : C → FrameCopy → C → Type 0) (before after : Drain C) : Type 0 where
  pub copies : List FrameCopy
  pub took : HasTaken before.port (record { port = after.port; copies = copies })
  pub handed : Handed takes before.out copies after.out

-- the ports of a thread, in order
abbrev pub drains_of : {C : Type 0} → Drains C → List (Drain C)
drains_of drains = option_to_list drains.before ++ drains.last ∷ []

-- each of them took copies out
abbrev pub AllHaveDrained : {C : Type 0} → (C → FrameCopy → C → Type 0) → Drains C → Drains C → Type 0
AllHaveDrained takes before after = Pairwise (HasDrained takes) (drains_of before) (drains_of after)

-- ---- what the threads did, by port

-- an empty list with room for so many items
abbrev pub IsRoomFor : {A : Type 0} → ℕ → Vec A Global → Type 0
IsRoomFor items list = (list.items ≡ []) × (items ≤ vec_capacity list)

abbrev pub HasRoomIn : {S O : Type 0} → ℕ → IngressPorts S O → Type 0
HasRoomIn count ports =
    IsRoomFor count ports.ports × IsRoomFor count ports.inputs × IsRoomFor count ports.outcomes × IsRoomFor count ports.stops

abbrev pub HasRoomOut : {C : Type 0} → ℕ → EgressPorts C → Type 0
HasRoomOut count ports = IsRoomFor count ports.ports × IsRoomFor count ports.out

-- ---- the operator

-- the operator with more batches published
abbrev pub with_batches : Publishing → List (List Pair) → Publishing
with_batches operator batches = record operator { published = operator.published ++ batches }

-- the operator published batches in order, each with the next front: all of them, or those before one that was refused
pub record Publishes (old : Publishing) (batches : List (List Pair)) (fronts : List ℕ) (refused : Option ReplaceRefusal)
    (new : Publishing) : Type 0 where
  pub same : (new.board ≡ old.board) × (new.ports ≡ old.ports)
  pub numbered : (k : ℕ) → k < length fronts → slice_index fronts k ≡ length old.published + k + 1
  pub published : MatchOption refused
      ((length fronts ≡ length batches) × (new ≡ with_batches old batches))
      (λ why. (length fronts < length batches)
      × Refuses (with_batches old (take (length fronts) batches)) (slice_index_or batches (length fronts) []) why new)
