-- What a run reports, in plain data: what became of each frame, and which batches were published. Lists by port have the ports
-- in ascending order, from 0 on; a list of batches, and one of frames, has the oldest first.
use Rattle.std.specs.Prelude.{◌≡◌, ℕ, ◌+◌, ◌<◌, ◌≤◌, List, [], ◌∷◌, fold, length, map, reverse, take, slice_index_or}
use Rattle.std.specs.Prelude.{Option, Some, None, IfSome, MatchOption, All, filter, flat_map, not, replicate, sum_by, ◌++◌, ◌==◌}
use Rattle.std.specs.Prelude.{count_by, false, if◌then◌else◌, IsTrue, slice_index, slice_set, sum, vec_capacity}
use Rattle.std.specs.List.{range_with_len}
use Rattle.std.specs.Iterator.{Yields, YieldsThen}
use Rattle.gw_board.specs.Refusals.{PortsBelow}
use Rattle.gw_board.specs.declared.refusals.ReplaceRefusal.{ReplaceRefusal}
use Rattle.gw_board.specs.declared.refusals.ReplaceRefusal.TheVariants.{NoSuchPort, VersionsSpent, Stopped, OutOfMemory}
use Rattle.gw_claims.specs.Claims.{is_local}
use Rattle.gw_ledger.specs.Bounds.{Bounds}
use Rattle.gw_ledger.specs.Ledgers.{AreBalanced, ledger_with}
use Rattle.gw_ledger.specs.Ports.{has_port, IsPartOf}
use Rattle.gw_ledger.specs.declared.ledger.OutLedger.{OutLedger}
use Rattle.gw_ledger.specs.declared.outcome.FrameCopy.{FrameCopy}
use Rattle.gw_ledger.specs.declared.outcome.Outcome.{Outcome}
use Rattle.gw_policy.specs.Allowed.{allowed_ports}
use Rattle.gw_policy.specs.Batches.{Pair}
use Rattle.gw_ports.specs.Making.{nothing_counted}
use Rattle.gw_ports.specs.Sending.{sent_with}
use Rattle.gw_ports.specs.declared.closing.Report.{Report}
use Rattle.gw_ports.specs.declared.refusals.OfferRefusal.{OfferRefusal}
use Rattle.gw_ports.specs.declared.refusals.OfferRefusal.TheVariants.{FramesSpent, NoReading}
use Rattle.gw_ports.specs.declared.running.RunReport.{RunReport}

-- what a run did: by port, what became of the frames, why the port stopped, and the copies that were taken out there; the number
-- of batches that were published after each batch, and why the next was refused; and what the gateway was at its end
pub record Ran : Type 0 where
  pub outcomes : List (List Outcome)
  pub stops : List (Option OfferRefusal)
  pub fronts : List ℕ
  pub refused : Option ReplaceRefusal
  pub out : List (List FrameCopy)
  pub report : Report

abbrev pub ran_of : RunReport → Ran
ran_of report = record {
  outcomes = map (λ outcomes. outcomes.items) report.outcomes.items;
  stops = report.stops.items;
  fronts = report.fronts.items;
  refused = report.refused;
  out = map (λ copies. copies.items) report.out.items;
  report = report.report;
}

-- of a port: the frames of its input, its outcomes, and why it stopped, if it did
abbrev pub frames_of : List (List (List ℕ)) → ℕ → List (List ℕ)
frames_of inputs port = slice_index_or inputs port []

abbrev pub outcomes_of : Ran → ℕ → List Outcome
outcomes_of ran port = slice_index_or ran.outcomes port []

abbrev pub stop_of : Ran → ℕ → Option OfferRefusal
stop_of ran port = slice_index_or ran.stops port None

-- the copies that were taken out at a port, and those of them that are from one ingress port
abbrev pub copies_of : Ran → ℕ → List FrameCopy
copies_of ran port = slice_index_or ran.out port []

abbrev pub from_port : ℕ → List FrameCopy → List FrameCopy
from_port ingress copies = filter (λ copy. copy.from == ingress) copies

-- the copies that the outcomes of a port's frames placed for an egress port, in order and each once
abbrev pub placed_copy : ℕ → ℕ → List ℕ → Outcome → List FrameCopy
placed_copy ingress egress octets outcome =
    if has_port egress outcome.placed then record { from = ingress; number = outcome.number; frame = octets } ∷ [] else []

abbrev pub copies_to : ℕ → ℕ → List (List ℕ) → List Outcome → List FrameCopy
copies_to ingress egress [] outcomes = []
copies_to ingress egress (octets ∷ frames) [] = []
copies_to ingress egress (octets ∷ frames) (outcome ∷ outcomes) =
    placed_copy ingress egress octets outcome ++ copies_to ingress egress frames outcomes

-- a frame was allowed to an egress port, and no copy of it was placed there
abbrev pub Loses : ℕ → Outcome → Type 0
Loses egress outcome = IsTrue (has_port egress outcome.allowed) × (has_port egress outcome.placed ≡ false)

-- the outcomes of a port lose a copy only where those before placed as many for the egress port as a lane has room for
abbrev pub LosesOnFullLanes : ℕ → List Outcome → Type 0
LosesOnFullLanes lane outcomes = (k egress : ℕ) (d : Outcome) → k < length outcomes
    → Loses egress (slice_index_or outcomes k d)
    → lane ≤ count_by (λ outcome. has_port egress outcome.placed) (take k outcomes)

-- of counts by port, the sum without that of one port
abbrev pub sum_of_others : ℕ → List ℕ → ℕ
sum_of_others port counts = sum (slice_set counts port 0)

-- at each port there was room for a copy of each frame that another port took, so no copy stayed on its lane for want of room
abbrev pub HasRoom : ℕ → RunReport → Type 0
HasRoom ports report = (egress : ℕ) → egress < ports
    → sum_of_others egress (map (λ outcomes. length outcomes.items) report.outcomes.items)
    ≤ slice_index (map (λ copies. vec_capacity copies) report.out.items) egress

-- the lanes of a gateway, by ingress port and then egress port: one from each port to each other
abbrev pub lanes_between : ℕ → List (ℕ × ℕ)
lanes_between ports = flat_map
    (λ ingress. map (λ egress. (ingress, egress)) (filter (λ egress. not (egress == ingress)) (range_with_len 0 ports)))
    (range_with_len 0 ports)

-- the counts of the copies that were taken out at a port
abbrev pub nothing_sent : OutLedger
nothing_sent = record { sent = replicate 16 0 }

abbrev pub and_sent : OutLedger → FrameCopy → OutLedger
and_sent ledger copy = sent_with ledger copy.from

abbrev pub sent_by : List FrameCopy → OutLedger
sent_by copies = fold and_sent nothing_sent copies

-- the batches that were published in a run: the first one, and those after it that have a front
abbrev pub batches_of : List Pair → List (List Pair) → Ran → List (List Pair)
batches_of first batches ran = first ∷ take (length ran.fronts) batches

-- the outcome of the frame that was taken at the port after `heard`, newest first: it was judged by the first `front` of the
-- published batches
pub record IsJudged (ports port : ℕ) (published : List (List Pair)) (heard : List (List ℕ)) (octets : List ℕ)
    (outcome : Outcome) : Type 0 where
  pub number : outcome.number ≡ length heard
  pub least : 1 ≤ outcome.front
  pub most : outcome.front ≤ length published
  pub local : outcome.local ≡ is_local heard octets
  pub allowed : outcome.allowed
      ≡ allowed_ports ports outcome.local (reverse (take outcome.front published)) port octets
  pub placed : IsPartOf outcome.placed outcome.allowed

-- the outcomes of a port are those of the first of its frames, each after those before it, and their fronts do not fall
pub record AreJudged (ports port : ℕ) (published : List (List Pair)) (frames : List (List ℕ)) (outcomes : List Outcome)
    : Type 0 where
  pub few : length outcomes ≤ length frames
  pub judged : (k : ℕ) (d : Outcome) → k < length outcomes
      → IsJudged ports port published (reverse (take k frames)) (slice_index_or frames k []) (slice_index_or outcomes k d)
  pub rising : (j k : ℕ) (d : Outcome) → j ≤ k → k < length outcomes
      → (slice_index_or outcomes j d).front ≤ (slice_index_or outcomes k d).front

-- a port has an outcome of each of its frames; or it stopped before the next one, by 76 after as many as may be taken
abbrev pub EndsAt : Bounds → List (List ℕ) → List Outcome → Option OfferRefusal → Type 0
EndsAt limits frames outcomes None = length outcomes ≡ length frames
EndsAt limits frames outcomes (Some FramesSpent) =
    (length outcomes < length frames) × (length outcomes ≡ limits.frames)
EndsAt limits frames outcomes (Some NoReading) = length outcomes < length frames

-- why a batch was refused after so many were published: the first cause that holds, and the batch comes back. 84 does not come,
-- since a run ends its batches with the first refused one
abbrev pub RefusesNext : Bounds → ℕ → List Pair → ReplaceRefusal → Type 0
RefusesNext limits published batch (NoSuchPort back) = (back ≡ batch) × (¬ PortsBelow limits.ports batch)
RefusesNext limits published batch (VersionsSpent back) =
    (back ≡ batch) × PortsBelow limits.ports batch × (published ≡ limits.versions)
RefusesNext limits published batch (Stopped back) = ⊥
RefusesNext limits published batch (OutOfMemory back) =
    IfSome back (λ same. same ≡ batch) × PortsBelow limits.ports batch × (published < limits.versions)

-- the report of a run whose ports were given these frames
pub record IsReport (limits : Bounds) (first : List Pair) (inputs : List (List (List ℕ))) (batches : List (List Pair)) (ran : Ran)
    : Type 0 where
  pub ports : (length ran.outcomes ≡ limits.ports) × (length ran.stops ≡ limits.ports)
  pub judged : (port : ℕ) → port < limits.ports
      → AreJudged limits.ports port (batches_of first batches ran) (frames_of inputs port) (outcomes_of ran port)
  pub lost : (port : ℕ) → port < limits.ports → LosesOnFullLanes limits.lane (outcomes_of ran port)
  pub stops : (port : ℕ) → port < limits.ports
      → EndsAt limits (frames_of inputs port) (outcomes_of ran port) (stop_of ran port)
  pub fronts : ran.fronts ≡ range_with_len 2 (length ran.fronts)
  pub published : MatchOption ran.refused
      (length ran.fronts ≡ length batches)
      (λ why. (length ran.fronts < length batches)
      × RefusesNext limits (1 + length ran.fronts) (slice_index_or batches (length ran.fronts) []) why)
  pub front : ran.report.front ≡ 1 + length ran.fronts
  pub counted : ran.report.ins.items ≡ map (fold ledger_with nothing_counted) ran.outcomes
  pub sent : ran.report.outs.items ≡ map sent_by ran.out
  pub lanes : map (λ lane. (lane.from, lane.to)) ran.report.lanes.items ≡ lanes_between limits.ports
  pub copies : All (λ lane. from_port lane.from (copies_of ran lane.to) ++ lane.left.items
      ≡ copies_to lane.from lane.to (frames_of inputs lane.from) (outcomes_of ran lane.from)) ran.report.lanes.items
  pub balances : AreBalanced ran.report.ins.items ran.report.outs.items
      (sum_by (λ lane. length lane.left.items) ran.report.lanes.items)

-- the frames that a port asked its iterator for, all that it had, or those up to the one that was refused, and what is left of it
abbrev pub AsksUpTo : {S : Type 0} → (S → Option (List ℕ) → S → Type 0) → S → Option OfferRefusal → List (List ℕ) → S → Type 0
AsksUpTo steps input None frames rest = YieldsThen steps input frames None rest
AsksUpTo steps input (Some why) frames rest = Yields steps input frames rest

-- the report of a run whose ports asked these iterators for their frames, and left these of them
pub record IsReportOf {S : Type 0} (steps : S → Option (List ℕ) → S → Type 0) (limits : Bounds) (first : List Pair)
    (inputs : List S) (batches : List (List Pair)) (rests : List S) (ran : Ran) : Type 0 where
  pub frames : List (List (List ℕ))
  pub asked : (port : ℕ) (d : S) → port < limits.ports
      → AsksUpTo steps (slice_index_or inputs port d) (stop_of ran port) (frames_of frames port) (slice_index_or rests port d)
  pub reported : IsReport limits first frames batches ran
