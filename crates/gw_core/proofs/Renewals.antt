-- A gateway that begins anew.
use Rattle.std.proofs.Common.{◌≡◌, ℕ, zero, suc, ◌<◌, ◌≤◌, ◌||◌, ◌++◌, Bool, true, false, ltb, leb, List, [], ◌∷◌, length, map}
use Rattle.std.proofs.Common.{take, drop}
use Rattle.std.proofs.Common.{replicate, Option, Some, None, Ok, refl, sym, ap, subst, ◌∙◌, arith, slice_index_or}
use Rattle.std.specs.Prelude.{slice_get, slice_set}
use Rattle.std.specs.List.{list_any}
use Rattle.std.specs.Option.{is_some}
use Rattle.std.proofs.lemmas.Bool.{false≢true}
use Rattle.std.proofs.lemmas.Bool.Decides.{nat_tests}
use Rattle.std.proofs.lemmas.List.{length-map, length-replicate}
use Rattle.std.proofs.lemmas.Option.{slice_get_within}
use Rattle.gw_policy.specs.Filter.{Filter}
use Rattle.gw_policy.specs.Batches.{Pair, in_force}
use Rattle.gw_ledger.specs.Bounds.{Bounds}
use Rattle.gw_ledger.specs.declared.ledger.OutLedger.{OutLedger}
use Rattle.gw_ledger.specs.declared.outcome.FrameCopy.{FrameCopy}
use Rattle.gw_core.specs.LaneView.{LaneView}
use Rattle.gw_core.specs.Start.{Heard, begun}
use Rattle.gw_core.specs.PortHistory.{PortEvent, heard_before, ever_heard, Ingress, is_unfinished}
use Rattle.gw_core.specs.Events.{history_of, all_batches, reply, names_no_port}
use Rattle.gw_core.specs.Copies.{IsSettled}
use Rattle.gw_core.specs.Standing.{Worker, WorkerStands, ingress, lane_of}
use Rattle.gw_core.specs.Gateway.{Gateway, StandsAt}
use Rattle.gw_core.specs.Renewing.{IsDrained, all_heard, pair_if, policies_below, policies_in_force, holds_frame, holds_copy}
use Rattle.gw_core.specs.Renewing.{renewed}
use Rattle.gw_core.specs.declared.active.Active.{Active}
use Rattle.gw_core.specs.declared.active.PairIndex.{PairIndex}
use Rattle.gw_core.specs.declared.event.Event.{Event}
use Rattle.gw_core.specs.declared.event.Event.TheVariants.{Publish}
use Rattle.gw_core.specs.declared.event.Answer.TheVariants.{Published}
use Rattle.gw_core.proofs.Starts.{IsNew, begins, none_in_force, none_some}
use Rattle.gw_core.proofs.Takings.{busy, idle}
use Rattle.gw_core.proofs.Gateways.{lane_waits}
use Rattle.gw_core.proofs.GatewayForwards.{ingress_at}

-- one worker more counts from 0 again
pub one_renewed : (xs : List Worker) (i : ℕ) (w : Worker) → i < length xs
    → w ≡ slice_index_or (map renewed (take i xs) ++ drop i xs) i w
    → slice_set (map renewed (take i xs) ++ drop i xs) i (renewed w) ≡ map renewed (take (suc i) xs) ++ drop (suc i) xs
one_renewed [] i w lt e = absurd (omega arith)
one_renewed (x ∷ xs) zero w lt e = ap (λ (y : Worker). renewed y ∷ xs) e
one_renewed (x ∷ xs) (suc i) w lt e = ap (λ (ys : List Worker). renewed x ∷ ys) (one_renewed xs i w (omega arith) e)

-- an item below a list's length is there, also read with another value behind the end
there_at : {X : Type 0} (xs : List X) (i : ℕ) → i < length xs → (x : X) × (slice_get xs i ≡ Some x)
there_at [] i lt = absurd (omega arith)
there_at (x ∷ xs) zero lt = (x, refl)
there_at (x ∷ xs) (suc i) lt = there_at xs i (omega arith)

read_at : {X : Type 0} (xs : List X) (i : ℕ) (x d : X) → slice_get xs i ≡ Some x → slice_index_or xs i d ≡ x
read_at [] i x d e = cc
read_at (y ∷ xs) zero x d e = cc
read_at (y ∷ xs) (suc i) x d e = read_at xs i x d e

-- each item of a mapped list comes of one
mapped_at : {X Y : Type 0} (f : X → Y) (xs : List X) (i : ℕ) (y : Y) → slice_get (map f xs) i ≡ Some y
    → (x : X) × (slice_get xs i ≡ Some x) × (y ≡ f x)
mapped_at f [] i y e = absurd (cc)
mapped_at f (x ∷ xs) zero y e = (x, refl, cc)
mapped_at f (x ∷ xs) (suc i) y e = mapped_at f xs i y e

-- no item passes a test where none is found, and none is found where no item passes
not_either : (a b : Bool) → (a || b) ≡ false → (a ≡ false) × (b ≡ false)
not_either true b e = cc
not_either false b e = (refl, e)

none_passes : {X : Type 0} (test : X → Bool) (xs : List X) (i : ℕ) (x : X) → list_any test xs ≡ false → slice_get xs i ≡ Some x
    → test x ≡ false
none_passes test [] i x none e = cc
none_passes test (y ∷ xs) zero x none e =
    let same : y ≡ x = cc in subst (λ z. test z ≡ false) same (not_either (test y) (list_any test xs) none).0
none_passes test (y ∷ xs) (suc i) x none e = none_passes test xs i x (not_either (test y) (list_any test xs) none).1 e

none_found : {X : Type 0} (test : X → Bool) (xs : List X) → ((i : ℕ) (x : X) → slice_get xs i ≡ Some x → test x ≡ false)
    → list_any test xs ≡ false
none_found test [] each = refl
none_found test (x ∷ xs) each = rw (each 0 x refl) (none_found test xs (λ i y e. each (suc i) y e))

-- a list of length 0
is_empty : (xs : List FrameCopy) → ltb 0 (length xs) ≡ false → xs ≡ []
is_empty [] e = refl
is_empty (x ∷ xs) e = absurd (let lt : 0 < suc (length xs) = omega arith in grind (arith, nat_tests))

-- where no copy waits for a port of a worker, no lane has one
lane_empty : (w : Worker) (q : ℕ) → holds_copy w ≡ false → (lane_of w q).waiting ≡ []
lane_empty w q none = is_empty (lane_of w q).waiting (go w.lanes q none)
  where
    go : (lanes : List LaneView) (q : ℕ) → list_any (λ (lane : LaneView). ltb 0 (length lane.waiting)) lanes ≡ false
        → ltb 0 (length (slice_index_or lanes q (record { room = 0; waiting = [] })).waiting) ≡ false
    go [] q none = refl
    go (lane ∷ lanes) zero none = (not_either (ltb 0 (length lane.waiting)) _ none).0
    go (lane ∷ lanes) (suc q) none = go lanes q (not_either (ltb 0 (length lane.waiting)) _ none).1

-- a worker that counts from 0 again stands at the start of a history, with all that it ever heard
worker_renewed : (all : List (List Pair)) (w : Worker) (done : List PortEvent) → WorkerStands all w done → holds_copy w ≡ false
    → WorkerStands [] (renewed w) (heard_before (ever_heard done) ∷ [])
worker_renewed all w done s none = record {
  limits = s.limits;
  own = s.own;
  sound = record { filters = λ q filter e. none_some (in_force q []) filter (none_in_force q) e };
  taken = refl;
  few = omega arith;
  claims = s.claims;
  ledger = refl;
  counts = record { taken = refl; local = omega arith; allowed = omega arith; placed = omega arith; lost = omega arith };
  held = refl;
  many = s.many;
  lanes = λ q lt. s.lanes q lt ∙ ap (λ (x : List FrameCopy). record { room = w.limits.lane; waiting = x })
      (ap (λ (l : LaneView). l.waiting) (sym (s.lanes q lt)) ∙ lane_empty w q none);
}

-- each item of a list of one value is that
of_replicate : {X : Type 0} (n : ℕ) (v : X) (i : ℕ) (x : X) → slice_get (replicate n v) i ≡ Some x → x ≡ v
of_replicate zero v i x e = cc
of_replicate (suc n) v zero x e = cc
of_replicate (suc n) v (suc i) x e = of_replicate n v i x e

-- a gateway that forgot all events
pub forgets : (c : Gateway) (batches : List (List Pair)) (latest : List (Option PairIndex)) (workers : List Worker)
    (outs : List OutLedger) (turns : List ℕ) (zero_sent : OutLedger) (n : ℕ) → list_any holds_copy c.workers ≡ false
    → batches ≡ [] → latest ≡ replicate 16 None
    → workers ≡ map renewed c.workers
    → outs ≡ replicate n zero_sent → n ≡ length c.outs → zero_sent.sent ≡ replicate 16 0
    → (known : Heard) (done : List Event) → StandsAt c known done
    → StandsAt (record { limits = c.limits; batches = batches; latest = latest; workers = workers; outs = outs; turns = turns })
    (all_heard (begun c.limits known) done) []
forgets c batches latest workers outs turns zero_sent n none no_batches no_policies renewing filled many zeros known done s =
    begins _ (all_heard (begun c.limits known) done) s.limits no_batches no_policies
    (ap length renewing ∙ length-map c.workers renewed ∙ s.ports) (ap length filled ∙ length-replicate n zero_sent ∙ many
    ∙ s.senders) each
    (λ q o get. ap (λ (x : OutLedger). x.sent) (of_replicate n zero_sent q o
    (ap (λ (l : List OutLedger). slice_get l q) (sym filled) ∙ get)) ∙ zeros)
  where
    each : (p : ℕ) (w : Worker) → slice_get workers p ≡ Some w
        → IsNew c.limits (all_heard (begun c.limits known) done) p w
    each p w get =
        let of = mapped_at renewed c.workers p w (ap (λ (l : List Worker). slice_get l p) (sym renewing) ∙ get) in
        let v = of.0 in
        let at = s.workers p v of.1 in
        subst (λ (x : Worker). IsNew c.limits (all_heard (begun c.limits known) done) p x) (sym of.2) (
          at.limits,
          at.own,
          worker_renewed c.batches v (history_of (begun c.limits known) p done) at.stands
              (none_passes holds_copy c.workers p v none of.1),
        )

-- no worker holds a frame exactly where no frame is unfinished
pub settled : (c : Gateway) (known : Heard) (done : List Event) → StandsAt c known done → list_any holds_frame c.workers ≡ false
    → IsSettled (begun c.limits known) done
settled c known done s none p lt =
    let w = there_at c.workers p (let many = s.ports in omega arith) in
    let at = s.workers p w.0 w.1 in
    subst (λ (i : Ingress). is_unfinished i (history_of (begun c.limits known) p done) ≡ false)
    (ingress_at c known done p w.0 at)
    (go w.0 at.stands w.0.active refl (none_passes holds_frame c.workers p w.0 none w.1))
  where
    go : (w : Worker) → WorkerStands c.batches w (history_of (begun c.limits known) p done) → (a : Option Active) → w.active ≡ a
        → is_some a ≡ false → is_unfinished (ingress w) (history_of (begun c.limits known) p done) ≡ false
    go w stands None is e = idle c.batches w _ stands is
    go w stands (Some a) is e = cc

pub unsettled : (c : Gateway) (known : Heard) (done : List Event) → StandsAt c known done → list_any holds_frame c.workers ≡ true
    → IsSettled (begun c.limits known) done → ⊥
unsettled c known done s found settled = false≢true (sym (none_found holds_frame c.workers each) ∙ found)
  where
    each : (p : ℕ) (w : Worker) → slice_get c.workers p ≡ Some w → holds_frame w ≡ false
    each p w get =
        let at = s.workers p w get in
        let lt = slice_get_within c.workers p w get in
        go w.active refl at.stands (subst (λ (i : Ingress). is_unfinished i (history_of (begun c.limits known) p done) ≡ false)
        (sym (ingress_at c known done p w at)) (settled p (let many = s.ports in omega arith)))
      where
        go : (a : Option Active) → w.active ≡ a → WorkerStands c.batches w (history_of (begun c.limits known) p done)
            → is_unfinished (ingress w) (history_of (begun c.limits known) p done) ≡ false → is_some a ≡ false
        go None is stands free = refl
        go (Some a) is stands free = absurd (false≢true (sym free ∙ busy c.batches w _ a stands is))

-- no worker has a copy on a lane exactly where none waits
pub drained : (c : Gateway) (known : Heard) (done : List Event) → StandsAt c known done → list_any holds_copy c.workers ≡ false
    → IsDrained (begun c.limits known) done
drained c known done s none from to own lt =
    let w = there_at c.workers from (let many = s.ports in omega arith) in
    sym (lane_waits c known done to from w.0 s w.1 lt) ∙ lane_empty w.0 to (none_passes holds_copy c.workers from w.0 none w.1)

pub undrained : (c : Gateway) (known : Heard) (done : List Event) → StandsAt c known done → list_any holds_copy c.workers ≡ true
    → IsDrained (begun c.limits known) done → ⊥
undrained c known done s found drained = false≢true (sym (none_found holds_copy c.workers each) ∙ found)
  where
    each : (p : ℕ) (w : Worker) → slice_get c.workers p ≡ Some w → holds_copy w ≡ false
    each p w get = none_found (λ (lane : LaneView). ltb 0 (length lane.waiting)) w.lanes (λ q lane here.
        let at = s.workers p w get in
        let own = slice_get_within c.workers p w get in
        let lt = slice_get_within w.lanes q lane here in
        let within : q < c.limits.ports = let many = at.stands.many in let same = ap (λ
        (l : Bounds). l.ports) at.limits in omega arith in
        let empty : lane.waiting ≡ [] = ap (λ (l : LaneView). l.waiting)
        (sym (read_at w.lanes q lane (record { room = 0; waiting = [] }) here))
        ∙ lane_waits c known done q p w s get within ∙ drained p q (let many = s.ports in omega arith) within in
        rw empty refl)

-- the policies in force name ports that are there
no_port_of : (ports : ℕ) (a b : List Pair) → names_no_port ports a ≡ false → names_no_port ports b ≡ false
    → names_no_port ports (a ++ b) ≡ false
no_port_of ports [] b e f = f
no_port_of ports (pair ∷ a) b e f =
    let both = not_either (leb ports pair.port) (names_no_port ports a) e in rw (both.0) (no_port_of ports a b both.1 f)

names_ports : (published : List (List Pair)) (ports n : ℕ) → n ≤ ports → names_no_port ports (policies_below published n) ≡ false
names_ports published ports zero le = refl
names_ports published ports (suc n) le =
    no_port_of ports (policies_below published n) _ (names_ports published ports n (omega arith)) (one (in_force n published))
  where
    one : (policy : Option Filter) → names_no_port ports (pair_if n policy) ≡ false
    one None = refl
    one (Some filter) = let e : leb ports n ≡ false = grind (arith, nat_tests) in rw e refl

-- so their batch is the first of a gateway
pub first_batch : (c : Gateway) (known next : Heard) (done : List Event) → StandsAt c known done
    → reply (begun c.limits next) [] (Publish (policies_in_force (begun c.limits known) done)) ≡ Ok (Published 1)
first_batch c known next done s =
    let there = names_ports (all_batches done) c.limits.ports c.limits.ports (omega arith) in
    let room : leb c.limits.versions 0 ≡ false = let least = s.limits.least_versions in grind (arith, nat_tests) in
    rw (there, room) refl
