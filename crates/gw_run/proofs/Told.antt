-- What the report of a run and the losses of its ports say of each lane.
use Rattle.std.proofs.Common.{◌≡◌, ◌∙◌, ◌≢◌, ℕ, zero, suc, ◌+◌, ◌^◌, ◌<◌, ◌≤◌, Bool, true, false, cond, not, ◌&&◌, ◌==◌, List, []}
use Rattle.std.proofs.Common.{◌∷◌, ◌++◌, length, map, All, IsTrue, Some, ap, arith, get_or, refl, subst, sym, filter, flat_map}
use Rattle.std.proofs.Common.{fold, length-append, set, replicate}
use Rattle.std.proofs.lemmas.Bool.Decides.{nat_tests}
use Rattle.std.proofs.lemmas.List.{get_or-set_other, get_or-set_same, length-map, length-set, get_or-replicate, length-replicate}
use Rattle.std.proofs.lemmas.List.Elements.{All-append, All-cons, All-filter, All-head, All-map, All-tail}
use Rattle.std.proofs.lemmas.List.Sums.{count_by-le-length, sum_by-cons}
use Rattle.std.specs.List.{AllZip, count_by, range_with_len}
use Rattle.std.specs.Option.{option_map_or}
use Rattle.std.specs.Prelude.{slice_get}
use Rattle.gw_ledger.specs.Ledgers.{count_after, ledger_with}
use Rattle.gw_ledger.specs.Ports.{IsPartOf, has_port}
use Rattle.gw_ledger.specs.declared.ledger.InLedger.{InLedger}
use Rattle.gw_ledger.specs.declared.ledger.OutLedger.{OutLedger}
use Rattle.gw_ledger.specs.declared.outcome.FrameCopy.{FrameCopy}
use Rattle.gw_ledger.specs.declared.outcome.Outcome.{Outcome}
use Rattle.gw_ledger.specs.Bounds.{Bounds}
use Rattle.gw_policy.specs.Batches.{Pair}
use Rattle.gw_ports.specs.Reports.{and_sent, copies_to, from_port, lanes_between, Ran, frames_of, sent_by, nothing_sent}
use Rattle.gw_ports.specs.declared.closing.LaneLeft.{LaneLeft}
use Rattle.gw_ports.specs.declared.closing.Report.{Report}
use Rattle.gw_ports.specs.Making.{nothing_counted}
use Rattle.gw_ports.proofs.Callers.{there}
use Rattle.gw_run.specs.declared.tally.Counted.TheVariants.{Judged, Passed, Placed, Lost}
use Rattle.gw_run.specs.declared.losses.Loss.{Loss}
use Rattle.gw_run.specs.declared.losses.Losses.{Losses}
use Rattle.gw_run.specs.declared.tally.Counted.{Counted}
use Rattle.gw_run.specs.declared.tally.LaneTally.{LaneTally}
use Rattle.gw_run.specs.Tallies.{AreLosses, AreTallies, IsSaidOf, IsTally, IsToldOf, is_counted, lane_count, ledger_at, lost_at}
use Rattle.gw_run.specs.Tallies.{losses_to, sent_at}

-- ---- counts of outcomes

-- those that one test takes, and the others
pub counts_apart : {X : Type 0} (p : X → Bool) (xs : List X) → count_by p xs + count_by (λ x. not (p x)) xs ≡ length xs
counts_apart p [] = refl
counts_apart p (x ∷ xs) =
    let one = sum_by-cons (λ y. cond (p y) 1 0) x xs in
    let other = sum_by-cons (λ y. cond (not (p y)) 1 0) x xs in
    let either = each (p x) in
    let rest = counts_apart p xs in
    omega arith
  where
    each : (b : Bool) → cond b 1 0 + cond (not b) 1 0 ≡ 1
    each true = refl
    each false = refl

-- what is placed is passed, and the others that are passed are lost
pub passed_count : (to : ℕ) (outcomes : List Outcome) → All (λ o. IsPartOf o.placed o.allowed) outcomes
    → count_by (is_counted Passed to) outcomes
    ≡ count_by (is_counted Placed to) outcomes + count_by (is_counted Lost to) outcomes
passed_count to [] part = refl
passed_count to (o ∷ outcomes) part =
    let here = All-head (λ x. IsPartOf x.placed x.allowed) o outcomes part in
    let passed = sum_by-cons (λ x. cond (is_counted Passed to x) 1 0) o outcomes in
    let placed = sum_by-cons (λ x. cond (is_counted Placed to x) 1 0) o outcomes in
    let lost = sum_by-cons (λ x. cond (is_counted Lost to x) 1 0) o outcomes in
    let one = each (has_port to o.allowed) (has_port to o.placed) (here.ports to) in
    let rest = passed_count to outcomes (All-tail (λ x. IsPartOf x.placed x.allowed) o outcomes part) in
    omega arith
  where
    each : (allowed placed : Bool) → (IsTrue placed → IsTrue allowed)
        → cond allowed 1 0 ≡ cond placed 1 0 + cond (allowed && not placed) 1 0
    each true true within = refl
    each true false within = refl
    each false true within = absurd (cc (within refl))
    each false false within = refl

-- the copies that outcomes placed for an egress port
pub placed_count : (from to : ℕ) (frames : List (List ℕ)) (outcomes : List Outcome) → length outcomes ≤ length frames
    → length (copies_to from to frames outcomes) ≡ count_by (is_counted Placed to) outcomes
placed_count from to [] [] few = refl
placed_count from to (f ∷ frames) [] few = refl
placed_count from to [] (o ∷ outcomes) few = absurd (omega arith)
placed_count from to (octets ∷ frames) (outcome ∷ outcomes) few =
    let copy : FrameCopy = record { from = from; number = outcome.number; frame = octets } in
    let placed = sum_by-cons (λ o. cond (is_counted Placed to o) 1 0) outcome outcomes in
    let one = each copy (has_port to outcome.placed) in
    let rest = placed_count from to frames outcomes (omega arith) in
    length-append (cond (has_port to outcome.placed) (copy ∷ []) []) (copies_to from to frames outcomes)
    ∙ (omega arith)
  where
    each : (copy : FrameCopy) (b : Bool) → length (cond b (copy ∷ []) []) ≡ cond b 1 0
    each copy true = refl
    each copy false = refl

-- ---- ledgers

pub taken_count : (ledger : InLedger) (outcomes : List Outcome)
    → (fold ledger_with ledger outcomes).taken ≡ ledger.taken + length outcomes
taken_count ledger [] = omega arith
taken_count ledger (o ∷ outcomes) = taken_count (ledger_with ledger o) outcomes ∙ omega arith

pub local_count : (ledger : InLedger) (outcomes : List Outcome)
    → (fold ledger_with ledger outcomes).local ≡ ledger.local + count_by (λ o. o.local) outcomes
local_count ledger [] = omega arith
local_count ledger (o ∷ outcomes) =
    let more = sum_by-cons (λ x. cond x.local 1 0) o outcomes in
    local_count (ledger_with ledger o) outcomes ∙ omega arith

-- a copy of a port, in the list of its copies and in its count
one_listed : (from : ℕ) (copy : FrameCopy) (copies : List FrameCopy)
    → length (from_port from (copy ∷ copies)) ≡ cond (copy.from == from) 1 0 + length (from_port from copies)
one_listed from copy copies = each (copy.from == from)
  where
    each : (b : Bool) → length (cond b (copy ∷ from_port from copies) (from_port from copies))
        ≡ cond b 1 0 + length (from_port from copies)
    each true = omega arith
    each false = omega arith

one_sent : (from : ℕ) (ledger : OutLedger) (copy : FrameCopy) → from < length ledger.sent
    → get_or ledger.sent from 0 + cond (copy.from == from) 1 0 < 2 ^ 64
    → get_or (set ledger.sent copy.from (count_after (get_or ledger.sent copy.from 0))) from 0
    ≡ get_or ledger.sent from 0 + cond (copy.from == from) 1 0
one_sent from ledger copy below = each (copy.from == from) refl
  where
    each : (b : Bool) → (copy.from == from) ≡ b → get_or ledger.sent from 0 + cond b 1 0 < 2 ^ 64
        → get_or (set ledger.sent copy.from (count_after (get_or ledger.sent copy.from 0))) from 0
        ≡ get_or ledger.sent from 0 + cond b 1 0
    each true own room =
        let same : copy.from ≡ from = grind (arith, nat_tests, own) in
        subst (λ n. get_or (set ledger.sent n (count_after (get_or ledger.sent n 0))) from 0 ≡ get_or ledger.sent from 0 + 1)
        (sym same) (get_or-set_same ledger.sent from (count_after (get_or ledger.sent from 0)) 0 below ∙ omega arith)
    each false other room =
        let apart : from ≢ copy.from = grind (arith, nat_tests, other) in
        get_or-set_other ledger.sent copy.from from (count_after (get_or ledger.sent copy.from 0)) 0 apart ∙ omega arith

-- a count of copies sent, once more were
pub sent_count : (from : ℕ) (ledger : OutLedger) (copies : List FrameCopy) → from < length ledger.sent
    → get_or ledger.sent from 0 + length (from_port from copies) < 2 ^ 64
    → get_or (fold and_sent ledger copies).sent from 0 ≡ get_or ledger.sent from 0 + length (from_port from copies)
sent_count from ledger [] below small = omega arith
sent_count from ledger (copy ∷ copies) below small =
    let next = count_after (get_or ledger.sent copy.from 0) in
    let more : OutLedger = record { sent = set ledger.sent copy.from next } in
    let as_long = length-set ledger.sent copy.from next in
    let listed = one_listed from copy copies in
    let one = one_sent from ledger copy below (omega arith) in
    sent_count from more copies (omega arith) (omega arith) ∙ omega arith

-- ---- lanes

-- the ports of each lane are among the ports
lanes_within : (ports : ℕ) → All (λ (lane : ℕ × ℕ). (lane.0 < ports) × (lane.1 < ports)) (lanes_between ports)
lanes_within ports = rows (range_with_len 0 ports) (below 0 ports (omega arith))
  where
    below : (a n : ℕ) → a + n ≤ ports → All (λ port. port < ports) (range_with_len a n)
    below a zero most = λ k d inside. absurd (omega arith)
    below a (suc n) most =
        All-cons (λ port. port < ports) a (range_with_len (a + 1) n) (omega arith) (below (a + 1) n (omega arith))

    rows : (froms : List ℕ) → All (λ from. from < ports) froms → All (λ (lane : ℕ × ℕ). (lane.0 < ports) × (lane.1 < ports))
        (flat_map (λ from. map (λ to. (from, to)) (filter (λ to. not (to == from)) (range_with_len 0 ports))) froms)
    rows [] all = λ k d inside. absurd (omega arith)
    rows (from ∷ froms) all =
        let here = All-head (λ port. port < ports) from froms all in
        let tos = filter (λ to. not (to == from)) (range_with_len 0 ports) in
        All-append (λ (lane : ℕ × ℕ). (lane.0 < ports) × (lane.1 < ports)) _ _
        (All-map (λ (lane : ℕ × ℕ). (lane.0 < ports) × (lane.1 < ports)) (λ to. (from, to)) tos
        (λ k d inside. (
          here,
          All-filter (λ to. not (to == from)) (λ to. to < ports) (range_with_len 0 ports) (below 0 ports (omega arith)) k d
              inside,
        )))
        (rows froms (All-tail (λ port. port < ports) from froms all))

-- what stands at a place, or what stands for nothing
read_or : {X Y : Type 0} (f : X → Y) (xs : List X) (i : ℕ) (d : X) (b : Y) → f d ≡ b
    → option_map_or f (slice_get xs i) b ≡ f (get_or xs i d)
read_or f [] i d b none = sym none
read_or f (x ∷ xs) zero d b none = refl
read_or f (x ∷ xs) (suc i) d b none = read_or f xs i d b none

-- two maps that agree at each place
same_maps : {X Y Z : Type 0} (f : X → Z) (g : Y → Z) (xs : List X) (ys : List Y) → length xs ≡ length ys
    → ((k : ℕ) (d : X) (e : Y) → k < length xs → f (get_or xs k d) ≡ g (get_or ys k e)) → map f xs ≡ map g ys
same_maps f g [] [] size each = refl
same_maps f g [] (y ∷ ys) size each = absurd (omega arith)
same_maps f g (x ∷ xs) [] size each = absurd (omega arith)
same_maps f g (x ∷ xs) (y ∷ ys) size each =
    ap (λ z. z ∷ map f xs) (each zero x y (omega arith))
    ∙ ap (λ l. g y ∷ l) (same_maps f g xs ys (omega arith) (λ k d e below. each (suc k) d e (omega arith)))

-- what a map makes of it
mapped_at : {X Y : Type 0} (f : X → Y) (xs : List X) (i : ℕ) (d : X) → get_or (map f xs) i (f d) ≡ f (get_or xs i d)
mapped_at f [] i d = refl
mapped_at f (x ∷ xs) zero d = refl
mapped_at f (x ∷ xs) (suc i) d = mapped_at f xs i d

-- of two lists that a relation holds of, what stands at a place
zip_read : {X Y : Type 0} (R : X → Y → Type 0) (xs : List X) (ys : List Y) (i : ℕ) → AllZip R xs ys → i < length xs
    → (y : Y) × (slice_get ys i ≡ Some y) × ((d : X) → R (get_or xs i d) y)
zip_read R [] ys i zip below = absurd (omega arith)
zip_read R (x ∷ xs) [] i zip below = absurd zip
zip_read R (x ∷ xs) (y ∷ ys) zero zip below = (y, refl, λ d. zip.0)
zip_read R (x ∷ xs) (y ∷ ys) (suc i) zip below = zip_read R xs ys i zip.1 (omega arith)

-- how many copies were sent from a lane
sent_there : (from to : ℕ) (ledgers : List OutLedger) (out : List (List FrameCopy)) → from < 16 → ledgers ≡ map sent_by out
    → length (from_port from (get_or out to [])) < 2 ^ 64
    → sent_at from to ledgers ≡ length (from_port from (get_or out to []))
sent_there from to ledgers out below are small =
    ap (λ (l : List OutLedger). get_or (get_or l to nothing_sent).sent from 0) are
    ∙ ap (λ (ledger : OutLedger). get_or ledger.sent from 0) (mapped_at sent_by out to [])
    ∙ sent_count from nothing_sent (get_or out to []) below' (let zero_there = none in omega arith)
    ∙ (let zero_there = none in omega arith)
  where
    zeros : List ℕ
    zeros = replicate 16 0

    none : get_or zeros from 0 ≡ 0
    none = let nothing : ℕ = 0 in get_or-replicate 16 from nothing 0 below

    below' : from < length zeros
    below' = let nothing : ℕ = 0 in let size = length-replicate 16 nothing in omega arith

-- how many were lost on the way to one
lost_there : (ports from to : ℕ) (lists : List (List Outcome)) (losses : List Losses) → AllZip (AreLosses ports) lists losses
    → from < length lists → to < ports → lost_at from to losses ≡ count_by (is_counted Lost to) (get_or lists from [])
lost_there ports from to lists losses zip below inside =
    let at = zip_read (AreLosses ports) lists losses from zip below in
    let is = at.2 [] in
    let none : Loss = record { to = 0; copies = 0 } in
    ap (λ o. option_map_or (losses_to to) o 0) at.1 ∙ read_or (λ (loss : Loss). loss.copies) at.0.ports.items to none 0 refl
    ∙ (is.each to none inside).copies

-- a lane of a run, as its report and the losses of its ports say, has the counts of the outcomes
pub said_of_lane : (limits : Bounds) (first : List Pair) (ran : Ran) (losses : List Losses) (lane : LaneLeft) (tally : LaneTally)
    (k : ℕ) → limits.ports ≤ 16 → IsToldOf limits first ran losses → k < length ran.report.lanes.items
    → lane ≡ get_or ran.report.lanes.items k lane → IsSaidOf ran.report losses lane tally → IsTally ran.outcomes tally
said_of_lane limits first ran losses lane tally k few told inside there said =
    let from = lane.from in
    let to = lane.to in
    let frames = told.0 in
    let report = told.1 in
    let outcomes = get_or ran.outcomes from [] in
    let copies = from_port from (get_or ran.out to []) in
    let within = lane_ports limits.ports ran.report.lanes.items k lane inside there report.lanes in
    let size = report.ports.0 in
    let judged = report.judged from within.0 in
    let ledger : ledger_at from ran.report.ins.items ≡ fold ledger_with nothing_counted outcomes =
    ap (λ (l : List InLedger). get_or l from nothing_counted) report.counted
    ∙ mapped_at (fold ledger_with nothing_counted) ran.outcomes from [] in
    let taken = ap (λ (l : InLedger). l.taken) ledger ∙ taken_count nothing_counted outcomes in
    let local = ap (λ (l : InLedger). l.local) ledger ∙ local_count nothing_counted outcomes in
    let small = said.few in
    let apart = counts_apart (λ (o : Outcome). o.local) outcomes in
    let lost = said.lost ∙ lost_there limits.ports from to ran.outcomes losses told.2 (omega arith) within.1 in
    let passed = passed_count to outcomes (λ j d below. (judged.judged j d below).placed) in
    let most = count_by-le-length (is_counted Passed to) outcomes in
    let each : copies ++ lane.left.items ≡ copies_to from to (frames_of frames from) outcomes =
    subst
    (λ (l : LaneLeft). from_port l.from (get_or ran.out l.to []) ++ l.left.items
    ≡ copies_to l.from l.to (frames_of frames l.from) (get_or ran.outcomes l.from []))
    (sym there) (report.copies k lane inside) in
    let both : length copies + length lane.left.items ≡ count_by (is_counted Placed to) outcomes =
    sym (length-append copies lane.left.items) ∙ ap length each
    ∙ placed_count from to (frames_of frames from) outcomes judged.few in
    let sent = sent_there from to ran.report.outs.items ran.out (omega arith) report.sent (omega arith) in
    let placed = said.placed (omega arith) in
    let judged_is : tally.judged ≡ count_by (is_counted Judged to) outcomes = said.judged ∙ (omega arith) in
    subst (λ n. (what : Counted) → lane_count what tally ≡ count_by (is_counted what n) (get_or ran.outcomes tally.from []))
    (sym said.to)
    (subst (λ n. (what : Counted) → lane_count what tally ≡ count_by (is_counted what to) (get_or ran.outcomes n []))
    (sym said.from) (four tally to outcomes judged_is (omega arith) (omega arith) lost))
  where
    lane_ports : (ports : ℕ) (lanes : List LaneLeft) (k : ℕ) (lane : LaneLeft) → k < length lanes → lane ≡ get_or lanes k lane
        → map (λ (l : LaneLeft). (l.from, l.to)) lanes ≡ lanes_between ports → (lane.from < ports) × (lane.to < ports)
    lane_ports ports lanes k lane inside there are =
        let pair : LaneLeft → ℕ × ℕ = λ l. (l.from, l.to) in
        let many = length-map lanes pair ∙ refl in
        let same = ap length are in
        let here : get_or (lanes_between ports) k (pair lane) ≡ pair lane =
        ap (λ (l : List (ℕ × ℕ)). get_or l k (pair lane)) (sym are) ∙ mapped_at pair lanes k lane ∙ ap pair (sym there) in
        subst (λ (p : ℕ × ℕ). (p.0 < ports) × (p.1 < ports)) here (lanes_within ports k (pair lane) (omega arith))

    four : (tally : LaneTally) (to : ℕ) (outcomes : List Outcome) → tally.judged ≡ count_by (is_counted Judged to) outcomes
        → tally.placed + tally.lost ≡ count_by (is_counted Passed to) outcomes
        → tally.placed ≡ count_by (is_counted Placed to) outcomes → tally.lost ≡ count_by (is_counted Lost to) outcomes
        → (what : Counted) → lane_count what tally ≡ count_by (is_counted what to) outcomes
    four tally to outcomes judged passed placed lost Judged = judged
    four tally to outcomes judged passed placed lost Passed = passed
    four tally to outcomes judged passed placed lost Placed = placed
    four tally to outcomes judged passed placed lost Lost = lost

-- the tallies of all lanes
pub told_tallies : (limits : Bounds) (first : List Pair) (ran : Ran) (losses : List Losses) (report : Report)
    (tallies : List LaneTally) → limits.ports ≤ 16 → ran.report ≡ report → IsToldOf limits first ran losses
    → length tallies ≡ length report.lanes.items
    → ((k : ℕ) (d : LaneTally) (e : LaneLeft) → k < length tallies
    → IsSaidOf report losses (get_or report.lanes.items k e) (get_or tallies k d))
    → AreTallies limits.ports ran.outcomes tallies
told_tallies limits first ran losses report tallies few same told size each = record {
  order =
      same_maps (λ (tally : LaneTally). (tally.from, tally.to)) (λ (lane : LaneLeft). (lane.from, lane.to)) tallies
      report.lanes.items size
      (λ k d e below.
      let said = each k d e below in
      ap (λ from. (from, (get_or tallies k d).to)) said.from ∙ ap (λ to. ((get_or report.lanes.items k e).from, to)) said.to)
      ∙ ap (λ (r : Report). map (λ (lane : LaneLeft). (lane.from, lane.to)) r.lanes.items) (sym same) ∙ told.1.lanes;
  counts =
      λ k d below.
      let lane = there report.lanes.items k (omega arith) in
      said_of_lane limits first ran losses lane.0 (get_or tallies k d) k few told
      (let as_many = ap (λ (r : Report). length r.lanes.items) same in omega arith)
      (sym (lane.1 lane.0) ∙ ap (λ (r : Report). get_or r.lanes.items k lane.0) (sym same))
      (subst (λ (r : Report). IsSaidOf r losses lane.0 (get_or tallies k d)) (sym same)
      (subst (λ (l : LaneLeft). IsSaidOf report losses l (get_or tallies k d)) (lane.1 lane.0) (each k d lane.0 below)));
}
