-- A gateway stands after one more frame.
use Rattle.std.proofs.Common.{◌≡◌, ◌≢◌, ℕ}
use Rattle.std.proofs.Common.{◌<◌, Bool, true, false, cond, eqb, leb, List, ◌∷◌, length, Option}
use Rattle.std.proofs.Common.{Some, None, Result, Ok, Err, refl, sym, ap, subst, ◌∙◌, arith, slice_index_or}
use Rattle.std.specs.Prelude.{slice_get, slice_set, OnErr}
use Rattle.std.proofs.lemmas.Bool.Decides.{nat_tests}
use Rattle.std.specs.List.{cons_option}
use Rattle.std.proofs.lemmas.Option.{slice_get_read}
use Rattle.gw_frame.specs.Record.{IsRecord}
use Rattle.gw_policy.specs.Batches.{Pair}
use Rattle.gw_ledger.specs.Bounds.{Bounds}
use Rattle.gw_core.specs.Start.{Start, Heard, begun}
use Rattle.gw_core.specs.PortHistory.{PortEvent, frame_taken, ingress_of}
use Rattle.gw_core.specs.PortHistory.{batches, lane_after}
use Rattle.gw_core.specs.Events.{history_of, accepted, sent_after, answer}
use Rattle.gw_core.specs.Events.{at_port, take_refusal}
use Rattle.gw_core.specs.declared.event.Event.{Event}
use Rattle.gw_core.specs.declared.event.Event.TheVariants.{Take}
use Rattle.gw_core.specs.declared.event.Answer.{Answer}
use Rattle.gw_core.specs.declared.event.EventRefusal.{EventRefusal}
use Rattle.gw_core.specs.Standing.{Worker, WorkerStands, AnswersTake, AreFound}
use Rattle.gw_core.specs.declared.active.PairIndex.{PairIndex}
use Rattle.gw_core.specs.Headline.{IsEvent}
use Rattle.gw_core.specs.Gateway.{Gateway, IsGateway, StandsAt, Stands, CoreAnswers}
use Rattle.gw_core.proofs.Gateways.{front_of, accepts, refuses, set_same, with_worker, batches_of_port, stands_at}

-- a taking is an event of its own port alone, and sends nothing
pub take_here : (p : ℕ) (frame : List ℕ) → at_port p (Take p frame) ≡ Some (frame_taken frame)
take_here p frame = let e : eqb p p ≡ true = grind (arith, nat_tests) in rw e

pub take_there : (p q : ℕ) (frame : List ℕ) → q ≢ p → at_port q (Take p frame) ≡ None
take_there p q frame ne = let e : eqb q p ≡ false = grind (arith, nat_tests) in rw e

pub take_sent : (start : Start) (r q p : ℕ) (frame : List ℕ) (done : List Event)
    → sent_after start r q (Take p frame ∷ done) ≡ sent_after start r q done
take_sent start r q p frame done = go (eqb r p)
  where
    go : (b : Bool) → (lane_after (ingress_of start.limits r) q
        (cons_option (cond b (Some (frame_taken frame)) None) (history_of start r done))).sent ≡ sent_after start r q done
    go true = refl
    go false = refl

-- a worker is offered a frame
abbrev pub TakesAs : Worker → Result Answer EventRefusal → Worker → List ℕ → List (Option PairIndex) → ℕ → Type 0
TakesAs w given w2 frame latest front = (all : List (List Pair)) (done : List PortEvent) → WorkerStands all w done
    → AreFound all latest (batches done) → front ≡ length (batches done)
    → AnswersTake all w given w2 done frame

-- the taking of a record at a port that is there is an event
pub taken_event : (c : Gateway) (known : Heard) (done : List Event) (p : ℕ) (frame : List ℕ) → StandsAt c known done
    → p < c.limits.ports
    → IsRecord frame
    → IsEvent (Take p frame)
taken_event c known done p frame s within is_record = let most = s.limits.most_ports in (is_record, omega arith)

-- what the worker answers for the history of its port, and what the gateway answers for its own
told_take : (c : Gateway) (p : ℕ) (w w2 : Worker) (given : Result Answer EventRefusal) (frame : List ℕ) (front : ℕ)
    → TakesAs w given w2 frame c.latest front → front ≡ length c.batches
    → (known : Heard) (done : List Event) → StandsAt c known done → slice_get c.workers p ≡ Some w
    → AnswersTake c.batches w given w2 (history_of (begun c.limits known) p done) frame
told_take c p w w2 given frame front makes fronts known done s at =
    makes c.batches (history_of (begun c.limits known) p done) (s.workers p w at).stands
    (subst (AreFound c.batches c.latest) (sym (batches_of_port p (begun c.limits known) done)) s.latest)
    (fronts ∙ sym (front_of c known done s) ∙ ap length (sym (batches_of_port p (begun c.limits known) done)))

taken_by : (c : Gateway) (p : ℕ) (w w2 : Worker) (given : Result Answer EventRefusal) (frame : List ℕ) (front : ℕ)
    → p < c.limits.ports → IsRecord frame → TakesAs w given w2 frame c.latest front
    → front ≡ length c.batches → w2.limits ≡ w.limits → w2.own ≡ w.own → (known : Heard) (history : List Event)
    → Stands c known history
    → slice_get c.workers p ≡ Some w
    → CoreAnswers c (Take p frame) given (with_worker c p w2) known history
taken_by c p w w2 (Ok answer) frame front within is_record makes fronts limits own known history s at =
    let done = accepted (begun c.limits known) history in
    let here = s.workers p w at in
    let told = told_take c p w w2 (Ok answer) frame front makes fronts known done s at in
    let e : leb c.limits.ports p ≡ false = grind (arith, nat_tests) in
    let allowed : take_refusal c.limits (ingress_of c.limits p) (history_of (begun c.limits known) p done) ≡ None =
    subst (λ n. take_refusal c.limits (ingress_of c.limits n) (history_of (begun c.limits known) p done) ≡ None) here.own
    (subst (λ (l : Bounds). take_refusal l (ingress_of l w.own) (history_of
    (begun c.limits known) p done) ≡ None) here.limits told.0) in
    accepts c (with_worker c p w2) known history (Take p frame) answer (rw e allowed) told.1 refl
    (stands_at c known done (Take p frame) (frame_taken frame) p w w2 (taken_event c known done p frame s within is_record) refl
    (take_here p frame) (λ q ne. take_there p q frame ne)
    (λ r q. take_sent (begun c.limits known) r q p frame done) s at told.2 limits own)
taken_by c p w w2 (Err why) frame front within is_record makes fronts limits own known history s at =
    let done = accepted (begun c.limits known) history in
    let here = s.workers p w at in
    let told = told_take c p w w2 (Err why) frame front makes fronts known done s at in
    let e : leb c.limits.ports p ≡ false = grind (arith, nat_tests) in
    let refused : take_refusal c.limits (ingress_of c.limits p) (history_of (begun c.limits known) p done) ≡ Some why =
    subst (λ n. take_refusal c.limits (ingress_of c.limits n) (history_of (begun c.limits known) p done) ≡ Some why) here.own
    (subst (λ (l : Bounds). take_refusal l (ingress_of l w.own) (history_of
    (begun c.limits known) p done) ≡ Some why) here.limits told.0) in
    subst (λ (x : Gateway). CoreAnswers c (Take p frame) (Err why) x known history) (sym (as_it_was c p w w2 at told.1))
    (refuses c known history (Take p frame) why (rw e refused) s)
  where
    as_it_was : (c : Gateway) (p : ℕ) (w w2 : Worker) → slice_get c.workers p ≡ Some w → w2 ≡ w → with_worker c p w2 ≡ c
    as_it_was c p w w2 at same = ap (λ (xs : List Worker). record c { workers = xs })
        (ap (λ (x : Worker). slice_set c.workers p x) same ∙ set_same c.workers p w at)

-- what a taking answers, as the machine finds its worker
pub core_take : (c : Gateway) (i p : ℕ) (w w2 : Worker) (given : Result Answer EventRefusal) (frame : List ℕ) (front : ℕ) → i ≡ p
    → p < c.limits.ports → IsRecord frame → w ≡ slice_index_or c.workers i w
    → TakesAs w given w2 frame c.latest front → front ≡ length c.batches → w2.limits ≡ w.limits → w2.own ≡ w.own
    → (known : Heard) (history : List Event) → Stands c known history
    → CoreAnswers c (Take p frame) given (with_worker c i w2) known history
core_take c i p w w2 given frame front at within is_record read makes fronts limits own known history s =
    subst (λ n. CoreAnswers c (Take p frame) given (with_worker c n w2) known history) (sym at)
    (taken_by c p w w2 given frame front within is_record makes fronts limits own known history s
    (slice_get_read c.workers c.limits.ports p w (sym s.ports) within (read ∙ ap (λ n. slice_index_or c.workers n w) at)))

-- some history leads to the gateway after it, which is the same where it is refused
pub core_take_stays : (c : Gateway) (i : ℕ) (w w2 : Worker) (given : Result Answer EventRefusal) (frame : List ℕ) (front : ℕ)
    → i < c.limits.ports → IsRecord frame → w ≡ slice_index_or c.workers i w
    → TakesAs w given w2 frame c.latest front → front ≡ length c.batches → w2.limits ≡ w.limits → w2.own ≡ w.own → IsGateway c
    → IsGateway (with_worker c i w2) × OnErr given (with_worker c i w2 ≡ c)
core_take_stays c i w w2 given frame front within is_record read makes fronts limits own g = go given
    (told_take c i w w2 given frame front makes fronts g.0 g.1 g.2 at)
  where
    at : slice_get c.workers i ≡ Some w
    at = slice_get_read c.workers c.limits.ports i w (sym g.2.ports) within read

    go : (r : Result Answer EventRefusal) → AnswersTake c.batches w r w2 (history_of (begun c.limits g.0) i g.1) frame
        → IsGateway (with_worker c i w2) × OnErr r (with_worker c i w2 ≡ c)
    go (Ok answer) told = (
      (
        g.0,
        Take i frame ∷ g.1,
        stands_at c g.0 g.1 (Take i frame) (frame_taken frame) i w w2 (taken_event c g.0 g.1 i frame g.2 within is_record) refl
            (take_here i frame) (λ q ne. take_there i q frame ne)
            (λ r q. take_sent (begun c.limits g.0) r q i frame g.1) g.2 at told.2 limits own,
      ),
      tt,
    )
    go (Err why) told =
        let e : with_worker c i w2 ≡ c = ap (λ (xs : List Worker). record c { workers = xs })
        (ap (λ (x : Worker). slice_set c.workers i x) told.1 ∙ set_same c.workers i w at) in
        ((g.0, g.1, subst (λ (x : Gateway). StandsAt x g.0 g.1) (sym e) g.2), e)
