-- How many copies were placed on all lanes of a port.
use Rattle.std.proofs.Common.{◌≡◌, ◌∙◌, ℕ, zero, suc, ◌+◌, ◌-◌, ◌≤◌, Bool, true, false, if◌then◌else◌, List, [], ◌∷◌, ◌++◌}
use Rattle.std.proofs.Common.{length, take, sum_by, Option, None, IsTrue, MatchBool, ap, subst, refl, arith}
use Rattle.std.proofs.Common.{length-append}
use Rattle.std.proofs.lemmas.List.{take_more, take_all}
use Rattle.std.proofs.lemmas.List.Sums.{sum_by-append}
use Rattle.gw_ledger.specs.Ports.{has_port, ports_below, IsPortSet}
use Rattle.gw_ledger.specs.declared.outcome.FrameCopy.{FrameCopy}
use Rattle.gw_lanes.specs.Ends.{Inlet}
use Rattle.gw_ports.specs.Ends.{lane_at, placed_on}
use Rattle.gw_ports.specs.Placing.{Appends, WasFull, PlacesCopies}

abbrev flag : Bool → ℕ
flag b = if b then 1 else 0

-- one copy more where it was placed, and else as many
one_lane : (placed : Bool) (P Q : Type 0) (copy : FrameCopy) (lane lane' : Option Inlet)
    → MatchBool placed (P × Appends lane copy lane') ((lane' ≡ lane) × Q) → placed_on lane' ≡ placed_on lane + flag placed
one_lane true P Q copy lane lane' m =
    let before = m.1.before in
    let a : placed_on lane ≡ length before.placed = ap placed_on m.1.was in
    let b : placed_on lane' ≡ length (before.placed ++ copy ∷ []) = ap placed_on m.1.is in
    let c = length-append before.placed (copy ∷ []) in
    omega arith
one_lane false P Q copy lane lane' m = let a = ap placed_on m.0 in omega arith

one_port : (n : ℕ) (test : ℕ → Bool) → length (ports_below (suc n) test) ≡ length (ports_below n test) + flag (test n)
unfolding ports_below
one_port n test = length-append (ports_below n test) (if test n then n ∷ [] else [])
    ∙ ap (λ k. length (ports_below n test) + k) (last (test n))
  where
    last : (b : Bool) → length (if b then n ∷ [] else []) ≡ flag b
    last true = refl
    last false = refl

no_ports : (test : ℕ → Bool) → length (ports_below 0 test) ≡ 0
unfolding ports_below
no_ports test = refl

upto : (n : ℕ) (test : ℕ → Bool) (lanes lanes' : List (Option Inlet)) → length lanes' ≡ length lanes → n ≤ length lanes
    → ((port : ℕ) → placed_on (lane_at lanes' port) ≡ placed_on (lane_at lanes port) + flag (test port))
    → sum_by placed_on (take n lanes') ≡ sum_by placed_on (take n lanes) + length (ports_below n test)
upto zero test lanes lanes' size le each = let z = no_ports test in omega arith
upto (suc n) test lanes lanes' size le each =
    let rest = upto n test lanes lanes' size (omega arith) each in
    let next : n + 1 ≡ suc n = omega arith in
    let a : take (suc n) lanes' ≡ take n lanes' ++ lane_at lanes' n ∷ [] =
    subst (λ k. take k lanes' ≡ take n lanes' ++ lane_at lanes' n ∷ []) next (take_more lanes' n None (omega arith)) in
    let b : take (suc n) lanes ≡ take n lanes ++ lane_at lanes n ∷ [] =
    subst (λ k. take k lanes ≡ take n lanes ++ lane_at lanes n ∷ []) next (take_more lanes n None (omega arith)) in
    let x = ap (λ l. sum_by placed_on l) a ∙ sum_by-append placed_on (take n lanes') (lane_at lanes' n ∷ []) in
    let y = ap (λ l. sum_by placed_on l) b ∙ sum_by-append placed_on (take n lanes) (lane_at lanes n ∷ []) in
    let p = one_port n test in
    let e = each n in
    omega arith

none_above : (n more : ℕ) (test : ℕ → Bool) → ((port : ℕ) → n ≤ port → test port ≡ false) → length (ports_below (more + n) test)
    ≡ length (ports_below n test)
none_above n zero test none = let e : 0 + n ≡ n = omega arith in ap (λ k. length (ports_below k test)) e
none_above n (suc more) test none =
    let rest = none_above n more test none in
    let p = one_port (more + n) test in
    let e : suc more + n ≡ suc (more + n) = omega arith in
    let q = ap (λ k. length (ports_below k test)) e in
    let f : flag (test (more + n)) ≡ 0 = ap flag (none (more + n) (omega arith)) in
    omega arith

-- as many copies more as ports on whose lanes the frame was placed
pub copies_placed : (allowed : List ℕ) (copy : FrameCopy) (placed : List ℕ) (lanes lanes' : List (Option Inlet))
    → PlacesCopies allowed copy placed lanes lanes' → IsPortSet placed → length lanes ≤ 16
    → ((port : ℕ) → length lanes ≤ port → has_port port placed ≡ false)
    → sum_by placed_on lanes' ≡ sum_by placed_on lanes + length placed
copies_placed allowed copy placed lanes lanes' done set few none =
    let n = length lanes in
    let test : ℕ → Bool = λ port. has_port port placed in
    let sum = upto n test lanes lanes' done.size (omega arith)
    (λ port. one_lane (has_port port placed) (IsTrue (has_port port allowed)) (IsTrue (has_port port allowed)
    → WasFull (lane_at lanes port)) copy (lane_at lanes port) (lane_at lanes' port) (done.ports port)) in
    let a : take n lanes ≡ lanes = take_all n lanes (omega arith) in
    let b : take n lanes' ≡ lanes' = take_all n lanes' (let s = done.size in omega arith) in
    let fill : (16 - n) + n ≡ 16 = omega arith in
    let len : length placed ≡ length (ports_below 16 test) = ap length set.in_order in
    let cut = none_above n (16 - n) test none in
    let full = ap (λ k. length (ports_below k test)) fill in
    let x = ap (λ l. sum_by placed_on l) a in
    let y = ap (λ l. sum_by placed_on l) b in
    omega arith
