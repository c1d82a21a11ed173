-- How many frames of a run became what on each lane.
use Rattle.std.specs.Prelude.{◌≡◌, ◌<◌, ◌+◌, ◌-◌, ◌^◌, ℕ, Bool, not, ◌&&◌, List, [], ◌∷◌, ◌++◌, length, map, slice_get}
use Rattle.std.specs.Prelude.{slice_index, slice_index_or, All}
use Rattle.std.specs.Option.{option_map_or}
use Rattle.std.specs.List.{AllZip, count_by}
use Rattle.std.specs.Iterator.{Count, at_most}
use Rattle.gw_ledger.specs.Bounds.{Bounds}
use Rattle.gw_ledger.specs.Ports.{has_port}
use Rattle.gw_ledger.specs.declared.ledger.InLedger.{InLedger}
use Rattle.gw_ledger.specs.declared.ledger.OutLedger.{OutLedger}
use Rattle.gw_ledger.specs.declared.outcome.Outcome.{Outcome}
use Rattle.gw_policy.specs.Batches.{Pair}
use Rattle.gw_ports.specs.Making.{nothing_counted}
use Rattle.gw_ports.specs.Reports.{IsReport, Ran, lanes_between, nothing_sent}
use Rattle.gw_ports.specs.declared.closing.LaneLeft.{LaneLeft}
use Rattle.gw_ports.specs.declared.closing.Report.{Report}
use Rattle.gw_run.specs.declared.losses.Loss.{Loss}
use Rattle.gw_run.specs.declared.losses.Losses.{Losses}
use Rattle.gw_run.specs.declared.tally.Counted.{Counted}
use Rattle.gw_run.specs.declared.tally.Counted.TheVariants.{Judged, Passed, Placed, Lost}
use Rattle.gw_run.specs.declared.tally.LaneTally.{LaneTally}

-- the policy of an egress port judged a frame of another port, since it was not local; passed it; or passed it, and it was copied
-- there, or its copy was lost
abbrev pub is_counted : Counted → ℕ → Outcome → Bool
is_counted Judged to outcome = not outcome.local
is_counted Passed to outcome = has_port to outcome.allowed
is_counted Placed to outcome = has_port to outcome.placed
is_counted Lost to outcome = has_port to outcome.allowed && not (has_port to outcome.placed)

-- ---- tallies

abbrev pub lane_count : Counted → LaneTally → ℕ
lane_count Judged lane = lane.judged
lane_count Passed lane = lane.placed + lane.lost
lane_count Placed lane = lane.placed
lane_count Lost lane = lane.lost

-- by ingress port these are the outcomes, and this counts those of its port for its egress port
abbrev pub IsTally : List (List Outcome) → LaneTally → Type 0
IsTally lists lane =
    (what : Counted) → lane_count what lane ≡ count_by (is_counted what lane.to) (slice_index_or lists lane.from [])

-- one for each lane of so many ports
pub record AreTallies (ports : ℕ) (lists : List (List Outcome)) (lanes : List LaneTally) : Type 0 where
  pub order : map (λ lane. (lane.from, lane.to)) lanes ≡ lanes_between ports
  pub counts : All (IsTally lists) lanes

-- ---- losses

-- it counts those of these outcomes that lost a copy on the way to an egress port
pub record IsLoss (to : ℕ) (outcomes : List Outcome) (loss : Loss) : Type 0 where
  pub port : loss.to ≡ to
  pub copies : loss.copies ≡ count_by (is_counted Lost to) outcomes

-- for each of so many egress ports
pub record AreLosses (ports : ℕ) (outcomes : List Outcome) (losses : Losses) : Type 0 where
  pub frames : losses.frames ≡ length outcomes
  pub enough : length losses.ports.items ≡ ports
  pub each : (to : ℕ) (d : Loss) → to < ports → IsLoss to outcomes (slice_index_or losses.ports.items to d)

-- nothing for a port that is not there
abbrev pub losses_to : ℕ → Losses → ℕ
losses_to to losses = option_map_or (λ loss. loss.copies) (slice_get losses.ports.items to) 0

-- whatever the one counts, the other counts this outcome behind it
abbrev pub CountsOutcome : Losses → Outcome → Losses → Type 0
CountsOutcome old outcome new = (ports : ℕ) (outcomes : List Outcome) → AreLosses ports outcomes old
    → AreLosses ports (outcomes ++ outcome ∷ []) new

-- its numbers suffice for so many frames more
abbrev pub room_of : Losses → Count
room_of losses = at_most (2 ^ 64 - 1 - losses.frames)

-- ---- what a run tells

-- the gateway's report of a run after whose first batch none was published, and by ingress port the losses
abbrev pub IsToldOf : Bounds → List Pair → Ran → List Losses → Type 0
IsToldOf limits first ran losses = (frames : List (List (List ℕ))) × IsReport limits first frames [] ran
    × AllZip (AreLosses limits.ports) ran.outcomes losses

-- what a port counted
abbrev pub ledger_at : ℕ → List InLedger → InLedger
ledger_at from ledgers = slice_index_or ledgers from nothing_counted

-- of a lane: how many copies were sent from it, and how many were lost
abbrev pub sent_at : ℕ → ℕ → List OutLedger → ℕ
sent_at from to ledgers = slice_index (slice_index_or ledgers to nothing_sent).sent from

abbrev pub lost_at : ℕ → ℕ → List Losses → ℕ
lost_at from to losses = option_map_or (losses_to to) (slice_get losses from) 0

-- what the report and the losses say of a lane, as far as 64 bits have room for it
pub record IsSaidOf (report : Report) (losses : List Losses) (lane : LaneLeft) (tally : LaneTally) : Type 0 where
  pub from : tally.from ≡ lane.from
  pub to : tally.to ≡ lane.to
  pub few : (ledger_at lane.from report.ins.items).taken < 2 ^ 64
  pub judged : tally.judged ≡ (ledger_at lane.from report.ins.items).taken - (ledger_at lane.from report.ins.items).local
  pub placed : sent_at lane.from lane.to report.outs.items + length lane.left.items < 2 ^ 64
      → tally.placed ≡ sent_at lane.from lane.to report.outs.items + length lane.left.items
  pub lost : tally.lost ≡ lost_at lane.from lane.to losses
