-- The copies on the lanes, and what the ledgers count of them.
use Rattle.std.specs.Prelude.{◌≡◌, ℕ, ◌+◌, ◌<◌, ◌≤◌, false, ◌==◌, ◌&&◌, if◌then◌else◌, List, [], ◌∷◌, ◌++◌, length, map, sum_by}
use Rattle.std.specs.List.{range_with_len, AllPairs}
use Rattle.gw_ledger.specs.Bounds.{Bounds}
use Rattle.gw_ledger.specs.declared.ledger.InLedger.{InLedger}
use Rattle.gw_ledger.specs.declared.ledger.OutLedger.{OutLedger}
use Rattle.gw_ledger.specs.declared.outcome.FrameCopy.{FrameCopy}
use Rattle.gw_core.specs.Start.{Start}
use Rattle.gw_core.specs.PortHistory.{ingress_of, lane_after, placed_since, is_unfinished}
use Rattle.gw_core.specs.Events.{history_of, answer, waiting_after, sent_after, ledger_after}
use Rattle.gw_core.specs.declared.event.Event.{Event}
use Rattle.gw_core.specs.declared.event.Event.TheVariants.{Publish, Take, Step, Send}
use Rattle.gw_core.specs.declared.event.Answer.{Answer}
use Rattle.gw_core.specs.declared.event.Answer.TheVariants.{Sent}

-- the copies placed on a lane after accepted events, the oldest first
abbrev pub placed_after : Start → ℕ → ℕ → List Event → List FrameCopy
placed_after start p q done = (lane_after (ingress_of start.limits p) q (history_of start p done)).placed

-- the copy that an answer hands over
abbrev pub copy_in : Answer → List FrameCopy
copy_in (Sent copy) = copy ∷ []
copy_in _ = []

-- the copies that the answers of sendings handed over from a lane, the oldest first
abbrev pub sent_by : Start → ℕ → ℕ → Event → List Event → List FrameCopy
sent_by start p q (Send to from) before = if (from == p) && (to == q) then copy_in (answer start before (Send to from)) else []
sent_by start p q (Publish batch) before = []
sent_by start p q (Take r frame) before = []
sent_by start p q (Step r) before = []

-- all of them after accepted events
abbrev pub sent_copies : Start → ℕ → ℕ → List Event → List FrameCopy
sent_copies start p q [] = []
sent_copies start p q (e ∷ before) = sent_copies start p q before ++ sent_by start p q e before

-- what was sent on a lane and what waits there is what was placed, each frame once and in the order of taking
pub record LaneKeeps (start : Start) (p q : ℕ) (done : List Event) : Type 0 where
  pub copies : sent_copies start p q done ++ waiting_after start p q done ≡ placed_after start p q done
  pub count : length (sent_copies start p q done) ≡ sent_after start p q done
  pub ascending : AllPairs (λ (a : FrameCopy) (b : FrameCopy). a.number < b.number) (placed_after start p q done)
  pub room : length (waiting_after start p q done) ≤ start.limits.lane

-- the copies placed for a frame that is not finished
abbrev pub open_copies : Start → ℕ → List Event → ℕ
open_copies start p done =
    if is_unfinished (ingress_of start.limits p) (history_of start p done)
    then length (placed_since (ingress_of start.limits p) (history_of start p done))
    else 0

-- a sum over the ports
abbrev pub each_port : Bounds → (ℕ → ℕ) → ℕ
each_port limits f = sum_by f (range_with_len 0 limits.ports)

-- all copies placed are those sent and those that wait; each allowed copy of a finished frame was placed or lost
pub record Balances (start : Start) (done : List Event) : Type 0 where
  pub placed : each_port start.limits (λ p. (ledger_after start p done).placed + open_copies start p done)
      ≡ each_port start.limits (λ p. each_port start.limits
      (λ q. sent_after start p q done + length (waiting_after start p q done)))
  pub allowed : (p : ℕ) → (ledger_after start p done).allowed ≡ (ledger_after start p done).placed +
      (ledger_after start p done).lost

-- no port has an unfinished frame
abbrev pub IsSettled : Start → List Event → Type 0
IsSettled start done =
    (p : ℕ) → p < start.limits.ports → is_unfinished (ingress_of start.limits p) (history_of start p done) ≡ false

-- the copies that wait on all lanes
abbrev pub left_after : Start → List Event → ℕ
left_after start done = each_port start.limits (λ p. each_port start.limits (λ q. length (waiting_after start p q done)))

-- these are the ledgers of all ports, as they are read
pub record AreRead (start : Start) (done : List Event) (ins : List InLedger) (outs : List OutLedger) : Type 0 where
  pub taken : ins ≡ map (λ p. ledger_after start p done) (range_with_len 0 start.limits.ports)
  pub sent : map (λ (ledger : OutLedger). ledger.sent) outs
      ≡ map (λ q. map (λ p. sent_after start p q done) (range_with_len 0 16)) (range_with_len 0 start.limits.ports)
