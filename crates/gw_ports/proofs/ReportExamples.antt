-- Worked examples of what a run reports.
use Rattle.std.proofs.Common.{◌≡◌, ◌≤◌, ℕ, take, true, false, List, [], ◌∷◌, ◌++◌, Some, None, refl, arith}
use Rattle.std.proofs.Math.ListN.{replicate}
use Rattle.std.specs.List.{count_by, fold}
use Rattle.gw_board.specs.declared.refusals.ReplaceRefusal.TheVariants.{VersionsSpent}
use Rattle.gw_ledger.specs.Bounds.{Bounds}
use Rattle.gw_ledger.specs.Ledgers.{ledger_with}
use Rattle.gw_ledger.specs.Ports.{has_port}
use Rattle.gw_ledger.specs.declared.outcome.FrameCopy.{FrameCopy}
use Rattle.gw_ledger.specs.declared.outcome.Outcome.{Outcome}
use Rattle.gw_ports.specs.Making.{nothing_counted}
use Rattle.gw_ports.specs.Reports.{EndsAt, Loses, RefusesNext, copies_to, from_port, lanes_between, sent_by, sum_of_others}
use Rattle.gw_ports.specs.declared.refusals.OfferRefusal.TheVariants.{FramesSpent}

-- a frame that was allowed to two ports, of which one had a full lane; and a local one
abbrev copied : Outcome
copied = record { number = 0; front = 1; local = false; allowed = 1 ∷ 2 ∷ []; placed = 1 ∷ [] }

abbrev kept : Outcome
kept = record { number = 1; front = 2; local = true; allowed = []; placed = [] }

counts_of_two : fold ledger_with nothing_counted (copied ∷ kept ∷ [])
    ≡ record { taken = 2; local = 1; allowed = 2; placed = 1; lost = 1 }
counts_of_two = refl

abbrev limits : Bounds
limits = record { ports = 3; lane = 1; versions = 2; frames = 2 }

-- a second copy to port 1 is lost where a lane has room for one
abbrev late : Outcome
late = record { number = 2; front = 2; local = false; allowed = 1 ∷ []; placed = [] }

is_lost : Loses 1 late
is_lost = (refl, refl)

one_before : limits.lane ≤ count_by (λ outcome. has_port 1 outcome.placed) (take 2 (copied ∷ kept ∷ late ∷ []))
one_before = omega arith

-- where three ports took 2, 1 and 4 frames, as many copies can come out at port 1 as the two others took
room_at_1 : sum_of_others 1 (2 ∷ 1 ∷ 4 ∷ []) ≡ 6
room_at_1 = refl

abbrev frame : ℕ → List ℕ
frame ingress = 0x8C ∷ 0xF0 ∷ 0x04 ∷ ingress ∷ 0 ∷ 0 ∷ 0 ∷ 0 ∷ []

all_offered : EndsAt limits (frame 1 ∷ frame 2 ∷ []) (copied ∷ kept ∷ []) None
all_offered = refl

-- a third frame is refused with 76 where two may be taken
stopped_by_76 : EndsAt limits (frame 1 ∷ frame 2 ∷ frame 3 ∷ []) (copied ∷ kept ∷ []) (Some FramesSpent)
stopped_by_76 = (omega arith, refl)

-- a third batch is refused with 75 where two may be published
refused_by_75 : RefusesNext limits 2 [] (VersionsSpent [])
refused_by_75 = (refl, (λ k d below. absurd (omega arith)), refl)

-- the lanes of three ports, by ingress port and then egress port
lanes_of_three : lanes_between 3 ≡ (0, 1) ∷ (0, 2) ∷ (1, 0) ∷ (1, 2) ∷ (2, 0) ∷ (2, 1) ∷ []
lanes_of_three = refl

-- a record that ports 0 and 1 of three offer twice. Between the two a replacement lets port 2 have nothing more
abbrev twice : List (List ℕ)
twice = frame 0 ∷ frame 0 ∷ []

abbrev offered : ℕ → ℕ → List ℕ → Outcome
offered number front to = record { number = number; front = front; local = false; allowed = to; placed = to }

abbrev of_0 : List Outcome
of_0 = offered 0 1 (1 ∷ 2 ∷ []) ∷ offered 1 2 (1 ∷ []) ∷ []

abbrev of_1 : List Outcome
of_1 = offered 0 1 (0 ∷ 2 ∷ []) ∷ offered 1 2 (0 ∷ []) ∷ []

abbrev copy : ℕ → ℕ → FrameCopy
copy ingress number = record { from = ingress; number = number; frame = frame 0 }

from_0_to_1 : copies_to 0 1 twice of_0 ≡ copy 0 0 ∷ copy 0 1 ∷ []
from_0_to_1 = refl

from_0_to_2 : copies_to 0 2 twice of_0 ≡ copy 0 0 ∷ []
from_0_to_2 = refl

-- at port 2, where each of the others has one copy, whichever was taken out first
from_1_to_2 : from_port 1 (copy 0 0 ∷ copy 1 0 ∷ []) ++ [] ≡ copies_to 1 2 twice of_1
from_1_to_2 = refl

-- where the second copy is left on the lane
one_left : from_port 0 (copy 0 0 ∷ []) ++ copy 0 1 ∷ [] ≡ copies_to 0 1 twice of_0
one_left = refl

sent_from_0 : sent_by (copy 0 0 ∷ []) ≡ record { sent = 1 ∷ replicate 15 0 }
sent_from_0 = refl
