-- The next copy of a port, in the circle of ports.
use Rattle.std.proofs.Common.{◌≡◌, ◌≢◌, ℕ, suc, ◌+◌, ◌-◌, ◌<◌, ◌≤◌, Bool, true, false, leb, List, [], ◌∷◌, ◌++◌, length, drop}
use Rattle.std.proofs.Common.{min}
use Rattle.std.proofs.Common.{Option, Some, None, Result, Ok, refl, sym, ap, subst, ◌∙◌, arith, slice_index_or, ⊎_elim}
use Rattle.std.specs.Prelude.{slice_get, slice_index, slice_set, option_to_list}
use Rattle.std.proofs.lemmas.Bool.{cases_eq}
use Rattle.std.proofs.lemmas.Bool.Decides.{nat_tests}
use Rattle.std.proofs.lemmas.Option.{slice_get_read}
use Rattle.gw_ledger.specs.declared.outcome.FrameCopy.{FrameCopy}
use Rattle.gw_core.specs.Start.{Start, Heard, begun}
use Rattle.gw_core.specs.Events.{accepted, reply, first_waiting, waiting_after}
use Rattle.gw_core.specs.Standing.{Worker, lane_of}
use Rattle.gw_core.specs.Gateway.{Gateway, Stands, StandsAt, CoreAnswers}
use Rattle.gw_core.specs.Circle.{before, Waits, IsNextSource, FindsSource, PeeksNext, SendsNext, NoneWaits, IsFirst}
use Rattle.gw_core.specs.Circle.{FindsFirst}
use Rattle.gw_core.specs.declared.event.Event.{Event}
use Rattle.gw_core.specs.declared.event.Event.TheVariants.{Send}
use Rattle.gw_core.specs.declared.event.Answer.{Answer}
use Rattle.gw_core.specs.declared.event.Answer.TheVariants.{Sent}
use Rattle.gw_core.specs.declared.event.EventRefusal.{EventRefusal}
use Rattle.gw_core.proofs.Gateways.{lane_waits}
use Rattle.gw_core.proofs.GatewaySendings.{send_allowed}
use Rattle.gw_core.proofs.Sendings.{answers_send, none_wait}

-- one more port at which no copy waits
pub none_more : (start : Start) (done : List Event) (to begin end : ℕ) → NoneWaits start done to begin end
    → (Waits start done to end → ⊥) → NoneWaits start done to begin (end + 1)
none_more start done to begin end none not_here from least below waits = ⊎_elim
    (λ (same : from ≡ end). not_here (subst (Waits start done to) same waits))
    (λ (other : from ≡ end → ⊥). none from least (let ne : from ≢ end = other in omega arith) waits)
    (cases_eq from end)

-- a port from the turn on stands before those below the turn
before_up : (ports turn port : ℕ) → turn ≤ port → before ports turn port ≡ port - turn
before_up ports turn port le = let e : leb turn port ≡ true = grind (arith, nat_tests) in rw e refl

before_down : (ports turn port : ℕ) → port < turn → before ports turn port ≡ (ports - turn) + port
before_down ports turn port lt = let e : leb turn port ≡ false = grind (arith, nat_tests) in rw e refl

-- the first from the turn on is the next
pub next_up : (start : Start) (done : List Event) (turn to from : ℕ) → IsFirst start done to turn start.limits.ports from
    → IsNextSource start done turn to from
next_up start done turn to from f = record {
  waits = f.waits;
  first = λ other waits. by other waits (leb turn other) refl;
}
  where
    here : before start.limits.ports turn from ≡ from - turn
    here = before_up start.limits.ports turn from f.within.0

    by : (other : ℕ) → Waits start done to other → (b : Bool) → leb turn other ≡ b
        → before start.limits.ports turn from ≤ before start.limits.ports turn other
    by other waits false e =
        let lt : other < turn = grind (arith, nat_tests) in
        let there = before_down start.limits.ports turn other lt in
        let below = f.within.1 in
        omega (arith, here)
    by other waits true e =
        let le : turn ≤ other = grind (arith, nat_tests) in
        let there = before_up start.limits.ports turn other le in
        let last : from ≤ other = later other le waits (leb from other) refl in
        omega (arith, here)
      where
        later : (other : ℕ) → turn ≤ other → Waits start done to other → (b : Bool) → leb from other ≡ b → from ≤ other
        later other le waits true e = grind (arith, nat_tests)
        later other le waits false e = absurd (f.none other le (grind (arith, nat_tests)) waits)

-- where none waits there, the first below the turn is
pub next_down : (start : Start) (done : List Event) (turn to from : ℕ) → NoneWaits start done to turn start.limits.ports
    → IsFirst start done to 0 (min start.limits.ports turn) from → IsNextSource start done turn to from
next_down start done turn to from none f = record {
  waits = f.waits;
  first = λ other waits. by other waits (leb turn other) refl;
}
  where
    lt : from < turn
    lt = let below = f.within.1 in omega arith

    here : before start.limits.ports turn from ≡ (start.limits.ports - turn) + from
    here = before_down start.limits.ports turn from lt

    by : (other : ℕ) → Waits start done to other → (b : Bool) → leb turn other ≡ b
        → before start.limits.ports turn from ≤ before start.limits.ports turn other
    by other waits true e = absurd (none other (grind (arith, nat_tests)) waits.there waits)
    by other waits false e =
        let below : other < turn = grind (arith, nat_tests) in
        let there = before_down start.limits.ports turn other below in
        let last : from ≤ other = later other waits (leb from other) refl in
        omega (arith, here)
      where
        later : (other : ℕ) → Waits start done to other → (b : Bool) → leb from other ≡ b → from ≤ other
        later other waits true e = grind (arith, nat_tests)
        later other waits false e = absurd (f.none other (omega arith) (grind (arith, nat_tests)) waits)

-- and where none waits there either, none does
pub none_at_all : (start : Start) (done : List Event) (turn to : ℕ) → NoneWaits start done to turn start.limits.ports
    → NoneWaits start done to 0 (min start.limits.ports turn) → (from : ℕ) → Waits start done to from → ⊥
none_at_all start done turn to up down from waits = by (leb turn from) refl
  where
    by : (b : Bool) → leb turn from ≡ b → ⊥
    by true e = up from (grind (arith, nat_tests)) waits.there waits
    by false e =
        let lt : from < turn = grind (arith, nat_tests) in
        let there = waits.there in
        down from (omega arith) (omega arith) waits

-- a sending from a port where copies wait answers the first of them
pub sends_first : (c : Gateway) (known : Heard) (history : List Event) (to from : ℕ) (w : Worker) (given : Option FrameCopy)
    → Stands c known history
    → to < c.limits.ports → Waits (begun c.limits known) (accepted (begun c.limits known) history) to from
    → slice_get c.workers from ≡ Some w
    → (lane_of w to).waiting ≡ option_to_list given ++ drop 1 (lane_of w to).waiting
    → (copy : FrameCopy) × (given ≡ Some copy) × (reply (begun c.limits known) history (Send to from) ≡ Ok (Sent copy))
sends_first c known history to from w given s lt waits at first = go given first
  where
    done : List Event
    done = accepted (begun c.limits known) history

    is : (lane_of w to).waiting ≡ waiting_after (begun c.limits known) from to done
    is = lane_waits c known done to from w s at lt

    go : (given : Option FrameCopy) → (lane_of w to).waiting ≡ option_to_list given ++ drop 1 (lane_of w to).waiting
        → (copy : FrameCopy) × (given ≡ Some copy) × (reply (begun c.limits known) history (Send to from) ≡ Ok (Sent copy))
    go None first =
        let none : length (lane_of w to).waiting ≡ 0 = none_wait (lane_of w to).waiting first in
        let some = waits.some in
        let same = ap length is in
        absurd (omega arith)
    go (Some copy) first =
        let allowed = send_allowed (begun c.limits known) done to from lt waits.there waits.other in
        let sent : Sent copy ≡ first_waiting (waiting_after (begun c.limits known) from to done) =
        answers_send (lane_of w to).waiting (Some copy) first ∙ ap first_waiting is in
        (copy, refl, rw allowed (ap (λ (a : Answer). Ok a) (sym sent)))

-- what is found at a worker is the next copy
pub peeks : (c : Gateway) (known : Heard) (history : List Event) (i to from : ℕ) (w : Worker) (given : Option FrameCopy)
    → Stands c known history
    → i ≡ from → w ≡ slice_index_or c.workers i w
    → to < c.limits.ports → FindsSource c known history to (Some from)
    → (lane_of w to).waiting ≡ option_to_list given ++ drop 1 (lane_of w to).waiting
    → PeeksNext c known history to (Ok given)
peeks c known history i to from w given s at read lt source first =
    let there = source.waits.there in
    let get = slice_get_read c.workers c.limits.ports from w (sym s.ports) there
    (read ∙ ap (λ n. slice_index_or c.workers n w) at) in
    let sent = sends_first c known history to from w given s lt source.waits get first in
    subst (λ (g : Option FrameCopy). PeeksNext c known history to (Ok g)) (sym sent.1)
    (lt, (from, record { source = source; sent = sent.2 }))

-- a gateway stands whatever its turns
pub turned : (c : Gateway) (known : Heard) (done : List Event) (turns : List ℕ) → StandsAt c known done
    → StandsAt (record c { turns = turns }) known done
turned c known done turns s = record {
  limits = s.limits;
  events = s.events;
  batches = s.batches;
  few = s.few;
  sound = s.sound;
  latest = s.latest;
  ports = s.ports;
  workers = λ p w get. let h = s.workers p w get in record { limits = h.limits; own = h.own; stands = h.stands };
  senders = s.senders;
  outs = s.outs;
}

-- what a sending from the next port answers is the next copy
pub sends_next : (old sent : Gateway) (known : Heard) (history : List Event) (to from : ℕ) (turns : List ℕ) (given : Answer)
    (copy : FrameCopy)
    → to < old.limits.ports
    → FindsSource old known history to (Some from) → CoreAnswers old (Send to from) (Ok given) sent known history
    → given ≡ Sent copy
    → turns ≡ slice_set old.turns to (suc from)
    → SendsNext old known history to (Ok (Some copy)) (record sent { turns = turns })
sends_next old sent known history to from turns given copy lt source told is set = (
  lt,
  (
    from,
    record { source = source; sent = sym told.0 ∙ ap (λ (a : Answer). Ok a) is },
    turned sent known (accepted (begun sent.limits known) (Send to from ∷ history)) turns told.1,
    set,
  ),
)

-- a sending from the next port answers a copy
pub sends_some : (old sent : Gateway) (known : Heard) (history : List Event) (to from : ℕ) (given : Answer)
    → to < old.limits.ports
    → FindsSource old known history to (Some from) → CoreAnswers old (Send to from) (Ok given) sent known history
    → ((copy : FrameCopy) → given ≡ Sent copy → ⊥) → ⊥
sends_some old sent known history to from given lt source told other =
    let start = begun old.limits known in
    let waits = source.waits in
    let allowed = send_allowed start (accepted start history) to from lt waits.there waits.other in
    let copies = waiting_after start from to (accepted start history) in
    go copies waits.some (same (reply start history (Send to from)) given (first_waiting copies) (sym told.0) (rw allowed refl))
  where
    same : (r : Result Answer EventRefusal) (x y : Answer) → r ≡ Ok x → r ≡ Ok y → x ≡ y
    same r x y e f = cc

    go : (xs : List FrameCopy) → 0 < length xs → given ≡ first_waiting xs → ⊥
    go [] some e = absurd (omega arith)
    go (copy ∷ rest) some e = other copy e

-- what is found from the turn on, and below it, is the source
pub source_up : (start : Start) (done : List Event) (turn begin end to from : ℕ) → begin ≡ turn → end ≡ start.limits.ports
    → IsFirst start done to begin end from → IsNextSource start done turn to from
source_up start done turn begin end to from b e f =
    next_up start done turn to from
    (subst (λ x. IsFirst start done to turn x from) e (subst (λ x. IsFirst start done to x end from) b f))

pub source_down : (c : Gateway) (known : Heard) (history : List Event) (begin end least to : ℕ) (found : Option ℕ)
    → Stands c known history
    → begin ≡ slice_index c.turns to → end ≡ c.limits.ports → least ≡ min end begin
    → NoneWaits (begun c.limits known) (accepted (begun c.limits known) history) to begin end
    → FindsFirst (begun c.limits known) (accepted (begun c.limits known) history) to 0 least found
    → FindsSource c known history to found
source_down c known history begin end least to found s b e l none first = go found
    (subst (λ x. FindsFirst (begun c.limits known) done to 0 x found) below first)
  where
    done : List Event
    done = accepted (begun c.limits known) history

    turn : ℕ
    turn = slice_index c.turns to

    up : NoneWaits (begun c.limits known) done to turn c.limits.ports
    up = subst (λ x. NoneWaits (begun c.limits known) done to turn x) e (subst (λ x. NoneWaits
        (begun c.limits known) done to x end) b none)

    below : least ≡ min c.limits.ports turn
    below = l ∙ ap (λ x. min x begin) e ∙ ap (λ x. min c.limits.ports x) b

    go : (found : Option ℕ) → FindsFirst (begun c.limits known) done to 0 (min c.limits.ports turn) found
        → FindsSource c known history to found
    go None down = none_at_all (begun c.limits known) done turn to up down
    go (Some from) f = next_down (begun c.limits known) done turn to from up f
