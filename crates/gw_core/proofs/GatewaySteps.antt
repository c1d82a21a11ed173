-- A gateway stands after one more step.
use Rattle.std.proofs.Common.{inl, inr, ◌⊎◌, ◌^◌, ◌≡◌, ◌≢◌, ℕ}
use Rattle.std.proofs.Common.{◌-◌, ◌<◌, ◌≤◌, Bool, true, false, cond, eqb, leb, List, ◌∷◌}
use Rattle.std.proofs.Common.{Some, None, Result, Ok, Err, refl, sym, ap, subst, ◌∙◌, arith, slice_index_or, min}
use Rattle.std.specs.Prelude.{OnErr, slice_get, slice_set}
use Rattle.std.proofs.lemmas.Bool.Decides.{nat_tests}
use Rattle.std.specs.List.{cons_option}
use Rattle.std.proofs.lemmas.Option.{slice_get_read}
use Rattle.std.proofs.lemmas.Bool.{cases_eq}
use Rattle.std.proofs.lemmas.List.Elements.{All-cons}
use Rattle.gw_policy.specs.Batches.{Pair}
use Rattle.gw_ledger.specs.Bounds.{Bounds}
use Rattle.gw_core.specs.Start.{Start, Heard, begun}
use Rattle.gw_core.specs.PortHistory.{PortEvent, step_made, Ingress, ingress_of}
use Rattle.gw_core.specs.PortHistory.{lane_after}
use Rattle.gw_core.specs.Events.{history_of, accepted, step_refusal, sent_after, answer, step_answer}
use Rattle.gw_core.specs.declared.event.Event.{Event}
use Rattle.gw_core.specs.declared.event.Event.TheVariants.{Step}
use Rattle.gw_core.specs.declared.event.Answer.{Answer}
use Rattle.gw_core.specs.declared.event.EventRefusal.{EventRefusal}
use Rattle.gw_core.specs.declared.event.EventRefusal.TheVariants.{NoSuchPort}
use Rattle.gw_core.specs.Standing.{Worker, WorkerStands, ingress, AnswersStep}
use Rattle.gw_core.specs.Headline.{IsEvent}
use Rattle.gw_core.specs.Gateway.{Gateway, IsGateway, StandsAt, Stands, WorkerAt, CoreAnswers}
use Rattle.gw_core.proofs.Gateways.{get_set_same, get_set_other, length_set, same_some, accepts, refuses, set_same, with_worker}

-- the history of a port after an event of it, and of another
pub history_here : (p : ℕ) (start : Start) (done : List Event)
    → history_of start p (Step p ∷ done) ≡ step_made ∷ history_of start p done
history_here p start done = let e : eqb p p ≡ true = grind (arith, nat_tests) in rw e

pub history_there : (p q : ℕ) (start : Start) (done : List Event) → p ≢ q
    → history_of start p (Step q ∷ done) ≡ history_of start p done
history_there p q start done ne = let e : eqb p q ≡ false = grind (arith, nat_tests) in rw e

-- a step of a port's worker sends nothing
pub sent_same : (start : Start) (p q r : ℕ) (done : List Event)
    → sent_after start p q (Step r ∷ done) ≡ sent_after start p q done
sent_same start p q r done = go (eqb p r)
  where
    go : (b : Bool) → (lane_after (ingress_of start.limits p) q (cons_option (cond b (Some step_made) None)
        (history_of start p done))).sent
        ≡ sent_after start p q done
    go true = refl
    go false = refl

-- a worker made a step
pub stands_step : (c : Gateway) (known : Heard) (done : List Event) (p : ℕ) (w w2 : Worker) (answer : Answer)
    → StandsAt c known done → slice_get c.workers p ≡ Some w
    → AnswersStep c.batches w (Ok answer) w2 (history_of (begun c.limits known) p done)
    → w2.limits ≡ w.limits → w2.own ≡ w.own
    → StandsAt (record c { workers = slice_set c.workers p w2 }) known (Step p ∷ done)
stands_step c known done p w w2 answer s at answers limits own = record {
  limits = s.limits;
  events = All-cons IsEvent (Step p) done tt s.events;
  batches = s.batches;
  few = s.few;
  sound = s.sound;
  latest = s.latest;
  ports = length_set c.workers p w2 ∙ s.ports;
  workers = λ q v get. by_port q v (cases_eq p q) get;
  senders = s.senders;
  outs = λ q o get. (
    (s.outs q o get).0,
    λ r. (s.outs q o get).1 r ∙ ap (λ n. min n (2 ^ 64 - 1))
        (sym (sent_same (begun c.limits known) r q p done)),
  );
}
  where
    here : WorkerAt c known done p w
    here = s.workers p w at

    by_port : (q : ℕ) (v : Worker) → (p ≡ q) ⊎ (p ≡ q → ⊥) → slice_get (slice_set c.workers p w2) q ≡ Some v
        → WorkerAt (record c { workers = slice_set c.workers p w2 }) known (Step p ∷ done) q v
    by_port q v (inl same) get =
        let is : w2 ≡ v = same_some w2 v
        (sym (get_set_same c.workers p w2 w at) ∙ ap (slice_get (slice_set c.workers p w2)) same ∙ get) in
        let stands : WorkerStands c.batches w2 (history_of (begun c.limits known) p (Step p ∷ done)) = subst
        (WorkerStands c.batches w2)
        (sym (history_here p (begun c.limits known) done)) answers.2 in
        subst (λ n. WorkerAt (record c { workers = slice_set c.workers p w2 }) known (Step p ∷ done) n v) same
        (subst (λ (x : Worker). WorkerAt (record c { workers = slice_set c.workers p w2 }) known (Step p ∷ done) p x) is
        (record { limits = limits ∙ here.limits; own = own ∙ here.own; stands = stands }))
    by_port q v (inr other) get =
        let old = s.workers q v (sym (get_set_other c.workers p q w2 other) ∙ get) in
        record {
          limits = old.limits;
          own = old.own;
          stands = subst (WorkerStands c.batches v)
              (sym (history_there q p (begun c.limits known) done (λ e. other (sym e)))) old.stands;
        }

-- a step at a port that is not there is refused
pub step_no_port : (c : Gateway) (known : Heard) (history : List Event) (p : ℕ) → Stands c known history → c.limits.ports ≤ p
    → CoreAnswers c (Step p) (Err NoSuchPort) c known history
step_no_port c known history p s past =
    let e : leb c.limits.ports p ≡ true = grind (arith, nat_tests) in
    refuses c known history (Step p) NoSuchPort (rw e) s

-- the worker of a port that is there answers a step, or is idle
pub step_answers : (c : Gateway) (known : Heard) (history : List Event) (p : ℕ) (w w2 : Worker) (given : Answer)
    → Stands c known history → p < c.limits.ports → slice_get c.workers p ≡ Some w
    → ((done : List PortEvent) → WorkerStands c.batches w done → AnswersStep c.batches w (Ok given) w2 done)
    → w2.limits ≡ w.limits → w2.own ≡ w.own
    → CoreAnswers c (Step p) (Ok given) (record c { workers = slice_set c.workers p w2 }) known history
step_answers c known history p w w2 given s within at answers limits own =
    let done = accepted (begun c.limits known) history in
    let here = s.workers p w at in
    let told = answers (history_of (begun c.limits known) p done) here.stands in
    let e : leb c.limits.ports p ≡ false = grind (arith, nat_tests) in
    let same : ingress w ≡ ingress_of c.limits p = ap (λ (l : Bounds). ingress_of l w.own) here.limits
    ∙ ap (ingress_of c.limits) here.own in
    accepts c (record c { workers = slice_set c.workers p w2 }) known history (Step p) given
    (rw e (subst (λ (x : Ingress). step_refusal x (history_of (begun c.limits known) p done) ≡ None) same told.0))
    (subst (λ (x : Ingress). given ≡ step_answer x (history_of (begun c.limits known) p done)) same told.1)
    refl
    (stands_step c known done p w w2 given s at told limits own)

-- and where it refuses one nothing changes
pub step_refused : (c : Gateway) (known : Heard) (history : List Event) (p : ℕ) (w w2 : Worker) (refused : EventRefusal)
    → Stands c known history → p < c.limits.ports → slice_get c.workers p ≡ Some w
    → ((done : List PortEvent) → WorkerStands c.batches w done → AnswersStep c.batches w (Err refused) w2 done)
    → CoreAnswers c (Step p) (Err refused) c known history
step_refused c known history p w w2 refused s within at answers =
    let done = accepted (begun c.limits known) history in
    let here = s.workers p w at in
    let told = answers (history_of (begun c.limits known) p done) here.stands in
    let e : leb c.limits.ports p ≡ false = grind (arith, nat_tests) in
    let same : ingress w ≡ ingress_of c.limits p = ap (λ (l : Bounds). ingress_of l w.own) here.limits
    ∙ ap (ingress_of c.limits) here.own in
    refuses c known history (Step p) refused
    (rw e (subst (λ (x : Ingress). step_refusal x (history_of (begun c.limits known) p done) ≡ Some refused) same told.0)) s

-- what a worker makes of a step, whatever its history
abbrev pub Makes : List (List Pair) → Worker → Result Answer EventRefusal → Worker → Type 0
Makes all w given w2 = (done : List PortEvent) → WorkerStands all w done → AnswersStep all w given w2 done

-- a worker that refuses a step stays, and so does the gateway
unchanged : (c : Gateway) (known : Heard) (done : List Event) (i : ℕ) (w w2 : Worker) (refused : EventRefusal)
    → StandsAt c known done
    → slice_get c.workers i ≡ Some w
    → Makes c.batches w (Err refused) w2 → with_worker c i w2 ≡ c
unchanged c known done i w w2 refused s at makes =
    let told = makes (history_of (begun c.limits known) i done) (s.workers i w at).stands in
    ap (λ (xs : List Worker). record c { workers = xs })
    (ap (λ (x : Worker). slice_set c.workers i x) told.1 ∙ set_same c.workers i w at)

-- the two cases as one: the answer of the worker, or its refusal
by_given : (c : Gateway) (p : ℕ) (w w2 : Worker) (given : Result Answer EventRefusal) → p < c.limits.ports
    → Makes c.batches w given w2 → w2.limits ≡ w.limits → w2.own ≡ w.own
    → (known : Heard) (history : List Event) → Stands c known history → slice_get c.workers p ≡ Some w
    → CoreAnswers c (Step p) given (with_worker c p w2) known history
by_given c p w w2 (Ok answer) within makes limits own known history s at = step_answers c known history p w w2 answer s within
    at makes
    limits own
by_given c p w w2 (Err refused) within makes limits own known history s at =
    subst (λ (x : Gateway). CoreAnswers c (Step p) (Err refused) x known history)
    (sym (unchanged c known (accepted (begun c.limits known) history) p w w2 refused s at makes))
    (step_refused c known history p w w2 refused s within at makes)

-- what a step answers, as the machine finds its worker
pub core_step : (c : Gateway) (all : List (List Pair)) (i p : ℕ) (w w2 : Worker) (given : Result Answer EventRefusal)
    → all ≡ c.batches → i ≡ p → p < c.limits.ports → w ≡ slice_index_or c.workers i w
    → Makes all w given w2 → w2.limits ≡ w.limits → w2.own ≡ w.own
    → (known : Heard) (history : List Event) → Stands c known history
    → CoreAnswers c (Step p) given (with_worker c i w2) known history
core_step c all i p w w2 given same at within read makes limits own known history s =
    subst (λ n. CoreAnswers c (Step p) given (with_worker c n w2) known history) (sym at)
    (by_given c p w w2 given within (subst (λ x. Makes x w given w2) same makes) limits own known history s
    (slice_get_read c.workers c.limits.ports p w (sym s.ports) within (read ∙ ap (λ n. slice_index_or c.workers n w) at)))

-- some history leads to the gateway after it too
stays_gateway : (c : Gateway) (p : ℕ) (w w2 : Worker) (given : Result Answer EventRefusal) → Makes c.batches w given w2
    → w2.limits ≡ w.limits → w2.own ≡ w.own
    → (known : Heard) (done : List Event) → StandsAt c known done → slice_get c.workers p ≡ Some w
    → IsGateway (with_worker c p w2)
stays_gateway c p w w2 (Ok answer) makes limits own known done s at = (
  known,
  Step p ∷ done,
  stands_step c known done p w w2 answer s at (makes (history_of (begun c.limits known) p done)
      (s.workers p w at).stands) limits own,
)
stays_gateway c p w w2 (Err refused) makes limits own known done s at =
    (known, done, subst (λ (x : Gateway). StandsAt x known done) (sym (unchanged c known done p w w2 refused s at makes)) s)

pub core_step_stays : (c : Gateway) (all : List (List Pair)) (i : ℕ) (w w2 : Worker) (given : Result Answer EventRefusal)
    → all ≡ c.batches → i < c.limits.ports → w ≡ slice_index_or c.workers i w
    → Makes all w given w2 → w2.limits ≡ w.limits → w2.own ≡ w.own → IsGateway c → IsGateway (with_worker c i w2)
core_step_stays c all i w w2 given same within read makes limits own g =
    stays_gateway c i w w2 given (subst (λ x. Makes x w given w2) same makes) limits own g.0 g.1 g.2
    (slice_get_read c.workers c.limits.ports i w (sym g.2.ports) within read)

-- where the worker refuses a step the gateway is as it was
pub core_step_same : (c : Gateway) (all : List (List Pair)) (i : ℕ) (w w2 : Worker) (given : Result Answer EventRefusal)
    → all ≡ c.batches → i < c.limits.ports
    → w ≡ slice_index_or c.workers i w
    → Makes all w given w2 → IsGateway c → OnErr given (with_worker c i w2 ≡ c)
core_step_same c all i w w2 (Ok answer) same within read makes g = tt
core_step_same c all i w w2 (Err refused) same within read makes g =
    unchanged c g.0 g.1 i w w2 refused g.2 (slice_get_read c.workers c.limits.ports i w (sym g.2.ports) within read)
    (subst (λ x. Makes x w (Err refused) w2) same makes)
