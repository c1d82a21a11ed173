-- A gateway that forwards a frame in one call.
use Rattle.std.proofs.Common.{◌≡◌, ◌≢◌, ℕ, zero, suc, ◌-◌, ◌^◌, ◌<◌, ◌≤◌, true, false, leb, List, ◌∷◌}
use Rattle.std.proofs.Common.{length, Option, Some, None, Result, Ok, Err, refl, sym, ap, subst, ◌∙◌, arith, min}
use Rattle.std.proofs.Common.{slice_index_or, reverse, inl, inr, ◌⊎◌}
use Rattle.std.specs.Prelude.{slice_get, slice_set, OnErr, IfOk}
use Rattle.std.specs.List.{cons_option, All}
use Rattle.std.proofs.lemmas.Bool.Decides.{nat_tests}
use Rattle.std.proofs.lemmas.Bool.{cases_eq, false≢true}
use Rattle.std.proofs.lemmas.List.Elements.{All-cons}
use Rattle.std.proofs.lemmas.Option.{slice_get_read}
use Rattle.gw_frame.specs.Record.{IsRecord}
use Rattle.gw_policy.specs.Batches.{Pair}
use Rattle.gw_ledger.specs.Bounds.{Bounds}
use Rattle.gw_ledger.specs.declared.outcome.Outcome.{Outcome}
use Rattle.gw_core.specs.Start.{Start, Heard, begun}
use Rattle.gw_core.specs.PortHistory.{PortEvent, step_made, Ingress, ingress_of, is_unfinished, batches}
use Rattle.gw_core.specs.Events.{history_of, all_batches, accepted, keep_accepted, refusal, reply, answer, judged, take_refusal}
use Rattle.gw_core.specs.Events.{sent_after}
use Rattle.gw_core.specs.Standing.{Worker, WorkerStands, ingress, AreFound, AreSound}
use Rattle.gw_core.specs.Headline.{IsEvent, WasForwarded}
use Rattle.gw_core.specs.Gateway.{Gateway, IsGateway, StandsAt, Stands, WorkerAt}
use Rattle.gw_core.specs.Safety.{StepsInside}
use Rattle.gw_core.specs.Forwarding.{forwarded, LastTells, IsForwarded, CoreForwards, ForwardsFrame, port_forwarded, LastAnswers}
use Rattle.gw_core.specs.Forwarding.{PortForwards, AnswersForward, CanForward}
use Rattle.gw_core.specs.declared.active.PairIndex.{PairIndex}
use Rattle.gw_core.specs.declared.event.Event.{Event}
use Rattle.gw_core.specs.declared.event.Event.TheVariants.{Take, Step}
use Rattle.gw_core.specs.declared.event.Answer.{Answer}
use Rattle.gw_core.specs.declared.event.EventRefusal.{EventRefusal}
use Rattle.gw_core.specs.declared.event.EventRefusal.TheVariants.{NoSuchPort}
use Rattle.gw_core.proofs.Answered.{FinishedLaw, SafetyLaw}
use Rattle.gw_core.proofs.Gateways.{get_set_same, get_set_other, length_set, same_some, set_same, with_worker, batches_of_port}
use Rattle.gw_core.proofs.Gateways.{front_of}
use Rattle.gw_core.proofs.GatewaySteps.{history_here, history_there, sent_same}
use Rattle.gw_core.proofs.GatewayTakings.{take_here, take_there, take_sent, taken_event}

-- the history of the port, and that of another
history_forwarded : (n p : ℕ) (frame : List ℕ) (start : Start) (done : List Event)
    → history_of start p (forwarded n p frame done) ≡ port_forwarded n frame (history_of start p done)
history_forwarded zero p frame start done = ap (λ (o : Option PortEvent). cons_option o (history_of start p done))
    (take_here p frame)
history_forwarded (suc n) p frame start done = history_here p start (forwarded n p frame done)
    ∙ ap (λ (own : List PortEvent). step_made ∷ own) (history_forwarded n p frame start done)

history_elsewhere : (n p q : ℕ) (frame : List ℕ) (start : Start) (done : List Event) → q ≢ p
    → history_of start q (forwarded n p frame done) ≡ history_of start q done
history_elsewhere zero p q frame start done ne =
    ap (λ (o : Option PortEvent). cons_option o (history_of start q done)) (take_there p q frame ne)
history_elsewhere (suc n) p q frame start done ne = history_there q p start (forwarded n p frame done) ne
    ∙ history_elsewhere n p q frame start done ne

-- nothing is published or sent
same_published : (n p : ℕ) (frame : List ℕ) (done : List Event) → all_batches (forwarded n p frame done) ≡ all_batches done
same_published zero p frame done = refl
same_published (suc n) p frame done = same_published n p frame done

same_sent : (start : Start) (r q n p : ℕ) (frame : List ℕ) (done : List Event)
    → sent_after start r q (forwarded n p frame done) ≡ sent_after start r q done
same_sent start r q zero p frame done = take_sent start r q p frame done
same_sent start r q (suc n) p frame done = sent_same start r q p (forwarded n p frame done)
    ∙ same_sent start r q n p frame done

-- each is an event
are_events : (n p : ℕ) (frame : List ℕ) (done : List Event) → IsEvent (Take p frame) → All IsEvent done
    → All IsEvent (forwarded n p frame done)
are_events zero p frame done one all = All-cons IsEvent (Take p frame) done one all
are_events (suc n) p frame done one all =
    All-cons IsEvent (Step p) (forwarded n p frame done) tt (are_events n p frame done one all)

-- the gateway whose worker forwarded the frame stands
stands_forwarded : (c : Gateway) (known : Heard) (done : List Event) (n p : ℕ) (frame : List ℕ) (w w2 : Worker)
    → IsEvent (Take p frame)
    → StandsAt c known done → slice_get c.workers p ≡ Some w
    → WorkerStands c.batches w2 (port_forwarded n frame (history_of (begun c.limits known) p done))
    → w2.limits ≡ w.limits → w2.own ≡ w.own
    → StandsAt (with_worker c p w2) known (forwarded n p frame done)
stands_forwarded c known done n p frame w w2 event s at stands limits own = record {
  limits = s.limits;
  events = are_events n p frame done event s.events;
  batches = s.batches ∙ ap reverse (sym published);
  few = s.few;
  sound = subst AreSound (sym published) s.sound;
  latest = subst (AreFound c.batches c.latest) (sym published) s.latest;
  ports = length_set c.workers p w2 ∙ s.ports;
  workers = λ q v get. by_port q v (cases_eq q p) get;
  senders = s.senders;
  outs = λ q o get. (
    (s.outs q o get).0,
    λ r. (s.outs q o get).1 r ∙ ap (λ n. min n (2 ^ 64 - 1)) (sym (same_sent (begun c.limits known) r q n p frame done)),
  );
}
  where
    published : all_batches (forwarded n p frame done) ≡ all_batches done
    published = same_published n p frame done

    here : WorkerAt c known done p w
    here = s.workers p w at

    by_port : (q : ℕ) (v : Worker) → (q ≡ p) ⊎ (q ≡ p → ⊥) → slice_get (slice_set c.workers p w2) q ≡ Some v
        → WorkerAt (with_worker c p w2) known (forwarded n p frame done) q v
    by_port q v (inl same) get =
        let is : w2 ≡ v = same_some w2 v
        (sym (get_set_same c.workers p w2 w at) ∙ ap (slice_get (slice_set c.workers p w2)) (sym same) ∙ get) in
        subst (λ n2. WorkerAt (with_worker c p w2) known (forwarded n p frame done) n2 v) (sym same)
        (subst (λ (x : Worker). WorkerAt (with_worker c p w2) known (forwarded n p frame done) p x) is
        (record {
          limits = limits ∙ here.limits;
          own = own ∙ here.own;
          stands = subst (WorkerStands c.batches w2) (sym (history_forwarded n p frame (begun c.limits known) done)) stands;
        }))
    by_port q v (inr other) get =
        let old = s.workers q v (sym (get_set_other c.workers p q w2 (λ z. other (sym z))) ∙ get) in
        record {
          limits = old.limits;
          own = old.own;
          stands = subst (WorkerStands c.batches v) (sym (history_elsewhere n p q frame
              (begun c.limits known) done other)) old.stands;
        }

-- the ports of a worker of the gateway are those of its limits
pub ingress_at : (c : Gateway) (known : Heard) (done : List Event) (p : ℕ) (w : Worker) → WorkerAt c known done p w
    → ingress w ≡ ingress_of c.limits p
ingress_at c known done p w at = ap (λ (l : Bounds). ingress_of l w.own) at.limits ∙ ap (ingress_of c.limits) at.own

-- the taking is accepted
takes : (start : Start) (done : List Event) (p : ℕ) (frame : List ℕ) → p < start.limits.ports
    → take_refusal start.limits (ingress_of start.limits p) (history_of start p done) ≡ None
    → refusal start done (Take p frame) ≡ None
takes start done p frame within allowed = let e : leb start.limits.ports p ≡ false = grind (arith, nat_tests) in rw e allowed

-- and a step for an unfinished frame too
steps : (start : Start) (done : List Event) (p : ℕ) → p < start.limits.ports
    → is_unfinished (ingress_of start.limits p) (history_of start p done) ≡ true → refusal start done (Step p) ≡ None
steps start done p within busy = let e : leb start.limits.ports p ≡ false = grind (arith, nat_tests) in rw (e, busy) refl

-- so all of these events are accepted
all_accepted : (start : Start) (history : List Event) (n p : ℕ) (frame : List ℕ) → p < start.limits.ports
    → refusal start (accepted start history) (Take p frame) ≡ None
    → ((k : ℕ) → k < n
    → is_unfinished (ingress_of start.limits p) (history_of start p (forwarded k p frame (accepted start history))) ≡ true)
    → accepted start (forwarded n p frame history) ≡ forwarded n p frame (accepted start history)
all_accepted start history zero p frame within taken busy = rw taken refl
all_accepted start history (suc n) p frame within taken busy =
    let before = all_accepted start history n p frame within taken (λ k lt. busy k (omega arith)) in
    let done = forwarded n p frame (accepted start history) in
    let allowed : refusal start done (Step p) ≡ None = steps start done p within (busy n (omega arith)) in
    rw before (rw allowed refl)

-- what the port does is what the gateway does
forwarded_by : (c : Gateway) (known : Heard) (history : List Event) (n p : ℕ) (frame : List ℕ) (o : Outcome) → p < c.limits.ports
    → take_refusal c.limits (ingress_of c.limits p) (history_of (begun c.limits known) p (accepted
    (begun c.limits known) history)) ≡ None
    → PortForwards (ingress_of c.limits p) (history_of (begun c.limits known) p (accepted
    (begun c.limits known) history)) frame n o
    → IsForwarded (begun c.limits known) history p frame n o
forwarded_by c known history n p frame o within allowed f = record {
  taken = rw taken (ap (λ a. Ok a) f.taken);
  events = all_accepted (begun c.limits known) history n p frame within taken busy;
  unfinished = busy;
  finished = subst (λ (own : List PortEvent). is_unfinished (ingress_of c.limits p) own ≡ false)
      (sym (history_forwarded n p frame (begun c.limits known) done)) f.finished;
  told = tells n f.told busy;
}
  where
    done : List Event
    done = accepted (begun c.limits known) history

    taken : refusal (begun c.limits known) done (Take p frame) ≡ None
    taken = takes (begun c.limits known) done p frame within allowed

    busy : (k : ℕ) → k < n → is_unfinished (ingress_of c.limits p) (history_of (begun c.limits known) p
        (forwarded k p frame done)) ≡ true
    busy k lt = subst (λ (own : List PortEvent). is_unfinished (ingress_of c.limits p) own ≡ true)
        (sym (history_forwarded k p frame (begun c.limits known) done)) (f.unfinished k lt)

    tells : (n : ℕ) → LastAnswers (ingress_of c.limits p) (history_of (begun c.limits known) p done) frame n o
        → ((k : ℕ) → k < n → is_unfinished (ingress_of c.limits p) (history_of (begun c.limits known) p
        (forwarded k p frame done)) ≡ true)
        → LastTells (begun c.limits known) history p frame n o
    tells zero told busy = told
    tells (suc n) told busy =
        let before = all_accepted (begun c.limits known) history n p frame within taken (λ k lt. busy k (omega arith)) in
        let past = forwarded n p frame done in
        let allowed : refusal (begun c.limits known) past (Step p)
        ≡ None = steps (begun c.limits known) past p within (busy n (omega arith)) in
        let same = history_forwarded n p frame (begun c.limits known) done in
        rw before (rw (allowed, same) (ap (λ a. Ok a) told))

-- what a worker makes of a frame, whatever its history
abbrev pub ForwardsAs : List (List Pair) → Worker → Result Outcome EventRefusal → Worker → List ℕ → List (Option PairIndex) → ℕ
    → Type 0
ForwardsAs all w given w2 frame latest front = (done : List PortEvent) → WorkerStands all w done
    → AreFound all latest (batches done) → front ≡ length (batches done)
    → AnswersForward all w given w2 done frame

-- and what it is for the history of its port
told_forward : (c : Gateway) (p : ℕ) (w w2 : Worker) (given : Result Outcome EventRefusal) (frame : List ℕ) (front : ℕ)
    → ForwardsAs c.batches w given w2 frame c.latest front → front ≡ length c.batches
    → (known : Heard) (done : List Event) → StandsAt c known done → slice_get c.workers p ≡ Some w
    → AnswersForward c.batches w given w2 (history_of (begun c.limits known) p done) frame
told_forward c p w w2 given frame front makes fronts known done s at =
    makes (history_of (begun c.limits known) p done) (s.workers p w at).stands
    (subst (AreFound c.batches c.latest) (sym (batches_of_port p (begun c.limits known) done)) s.latest)
    (fronts ∙ sym (front_of c known done s) ∙ ap length (sym (batches_of_port p (begun c.limits known) done)))

-- the refusals of a taking are by the limits and the number of the gateway's port
refusal_at : (c : Gateway) (known : Heard) (done : List Event) (p : ℕ) (w : Worker) (why : Option EventRefusal)
    → WorkerAt c known done p w
    → take_refusal w.limits (ingress w) (history_of (begun c.limits known) p done) ≡ why
    → take_refusal c.limits (ingress_of c.limits p) (history_of (begun c.limits known) p done) ≡ why
refusal_at c known done p w why at told =
    subst (λ n. take_refusal c.limits (ingress_of c.limits n) (history_of (begun c.limits known) p done) ≡ why) at.own
    (subst (λ (l : Bounds). take_refusal l (ingress_of l w.own) (history_of (begun c.limits known) p done) ≡ why) at.limits told)

answered : (c : Gateway) (p : ℕ) (w w2 : Worker) (frame : List ℕ) → p < c.limits.ports → IsRecord frame
    → w2.limits ≡ w.limits → w2.own ≡ w.own → (known : Heard) (history : List Event) → Stands c known history
    → slice_get c.workers p ≡ Some w
    → (given : Result Outcome EventRefusal)
    → AnswersForward c.batches w given w2 (history_of (begun c.limits known) p (accepted (begun c.limits known) history)) frame
    → CoreForwards c known history p frame given (with_worker c p w2)
answered c p w w2 frame within is_record limits own known history s at (Err why) told =
    let done = accepted (begun c.limits known) history in
    let e : leb c.limits.ports p ≡ false = grind (arith, nat_tests) in
    let refused = refusal_at c known done p w (Some why) (s.workers p w at) told.0 in
    rw (e, refused) refl
answered c p w w2 frame within is_record limits own known history s at (Ok o) told =
    let done = accepted (begun c.limits known) history in
    let here = s.workers p w at in
    let n = told.1.0 in
    let allowed = refusal_at c known done p w None here told.0 in
    let does : PortForwards (ingress_of c.limits p) (history_of (begun c.limits known) p done) frame n o =
    subst (λ (i : Ingress). PortForwards i (history_of (begun c.limits known) p done) frame n o)
    (ingress_at c known done p w here) told.1.1 in
    let is = forwarded_by c known history n p frame o within allowed does in (
      n,
      is,
      subst (λ (events : List Event). StandsAt (with_worker c p w2) known events) (sym is.events)
          (stands_forwarded c known done n p frame w w2
          (taken_event c known done p frame s within is_record) s at told.1.2 limits own),
    )

-- what the gateway answers, as the machine finds its worker
pub core_forward : (c : Gateway) (all : List (List Pair)) (i p : ℕ) (w w2 : Worker) (given : Result Outcome EventRefusal)
    (frame : List ℕ) (front : ℕ) → all ≡ c.batches → i ≡ p → p < c.limits.ports → IsRecord frame
    → w ≡ slice_index_or c.workers i w → ForwardsAs all w given w2 frame c.latest front → front ≡ length c.batches
    → w2.limits ≡ w.limits → w2.own ≡ w.own
    → (known : Heard) (history : List Event) → Stands c known history
    → CoreForwards c known history p frame given (with_worker c i w2)
core_forward c all i p w w2 given frame front same at within is_record read makes fronts limits own known history s =
    let done = accepted (begun c.limits known) history in
    let get = slice_get_read c.workers c.limits.ports p w (sym s.ports) within
    (read ∙ ap (λ n. slice_index_or c.workers n w) at) in
    let makes_it = subst (λ (all : List (List Pair)). ForwardsAs all w given w2 frame c.latest front) same makes in
    subst (λ n. CoreForwards c known history p frame given (with_worker c n w2)) (sym at)
    (answered c p w w2 frame within is_record limits own known history s get given
    (told_forward c p w w2 given frame front makes_it fronts known done s get))

-- some history leads to the gateway after it, which is the same where the frame is refused
pub core_forward_stays : (c : Gateway) (all : List (List Pair)) (i : ℕ) (w w2 : Worker) (given : Result Outcome EventRefusal)
    (frame : List ℕ) (front : ℕ) → all ≡ c.batches → i < c.limits.ports → IsRecord frame
    → w ≡ slice_index_or c.workers i w → ForwardsAs all w given w2 frame c.latest front → front ≡ length c.batches
    → w2.limits ≡ w.limits → w2.own ≡ w.own → IsGateway c
    → IsGateway (with_worker c i w2) × OnErr given (with_worker c i w2 ≡ c)
core_forward_stays c all i w w2 given frame front same within is_record read makes fronts limits own g = go given
    (told_forward c i w w2 given frame front
    (subst (λ (all : List (List Pair)). ForwardsAs all w given w2 frame c.latest front) same makes) fronts g.0 g.1 g.2 at)
  where
    at : slice_get c.workers i ≡ Some w
    at = slice_get_read c.workers c.limits.ports i w (sym g.2.ports) within read

    go : (r : Result Outcome EventRefusal) → AnswersForward c.batches w r w2 (history_of (begun c.limits g.0) i g.1) frame
        → IsGateway (with_worker c i w2) × OnErr r (with_worker c i w2 ≡ c)
    go (Ok o) told = (
      (
        g.0,
        forwarded told.1.0 i frame g.1,
        stands_forwarded c g.0 g.1 told.1.0 i frame w w2
            (taken_event c g.0 g.1 i frame g.2 within is_record) g.2 at told.1.2 limits own,
      ),
      tt,
    )
    go (Err why) told =
        let e : with_worker c i w2 ≡ c = ap (λ (xs : List Worker). record c { workers = xs })
        (ap (λ (x : Worker). slice_set c.workers i x) told.1 ∙ set_same c.workers i w at) in
        ((g.0, g.1, subst (λ (x : Gateway). StandsAt x g.0 g.1) (sym e) g.2), e)

-- at a port that is not there the taking is refused
pub forward_no_port : (c : Gateway) (known : Heard) (history : List Event) (p : ℕ) (frame : List ℕ) → c.limits.ports ≤ p
    → CoreForwards c known history p frame (Err NoSuchPort) c
forward_no_port c known history p frame past =
    let e : leb c.limits.ports p ≡ true = grind (arith, nat_tests) in rw e refl

-- an event that has an answer is accepted
one_more : (start : Start) (history : List Event) (e : Event) {given : Answer} → reply start history e ≡ Ok given
    → accepted start (e ∷ history) ≡ e ∷ accepted start history
one_more start history e {given} says = go (refusal start (accepted start history) e) says
  where
    go : (r : Option EventRefusal) → judged r (answer start (accepted start history) e) ≡ Ok given
        → keep_accepted r e (accepted start history) ≡ e ∷ accepted start history
    go None says = refl
    go (Some why) says = cc

-- one event more, accepted or not
kept : (start : Start) (e : Event) (done : List Event) → IsEvent e → All IsEvent done
    → All IsEvent (keep_accepted (refusal start done e) e done)
kept start e done event events = go (refusal start done e)
  where
    go : (r : Option EventRefusal) → All IsEvent (keep_accepted r e done)
    go None = All-cons IsEvent e done event events
    go (Some why) = events

-- the accepted ones of its events are events
accepted_events : (start : Start) (history : List Event) (n p : ℕ) (frame : List ℕ) → IsEvent (Take p frame)
    → All IsEvent (accepted start history) → All IsEvent (accepted start (forwarded n p frame history))
accepted_events start history zero p frame event events = kept start (Take p frame) (accepted start history) event events
accepted_events start history (suc n) p frame event events =
    kept start (Step p) (accepted start (forwarded n p frame history)) tt
    (accepted_events start history n p frame event events)

-- what the law of finished frames says of a frame that made its steps
forwards_frame : FinishedLaw → (start : Start) (history : List Event) (p : ℕ) (frame : List ℕ) (o : Outcome)
    → IsEvent (Take p frame) → All IsEvent (accepted start history) → (n : ℕ) → IsForwarded start history p frame n o
    → ForwardsFrame start history p frame o
forwards_frame law start history p frame o event events zero f = λ foreign. absurd (false≢true (sym foreign ∙ f.told.0))
forwards_frame law start history p frame o event events (suc n) f =
    let done = accepted start (forwarded n p frame history) in
    let past : accepted start (Step p ∷ forwarded n p frame history) ≡ Step p ∷ done = one_more start _ (Step p) f.told in
    λ foreign. (
      suc n,
      subst (λ (all : List Event). WasForwarded start all p o) (sym past ∙ f.events)
          (law start (forwarded n p frame history) p o (accepted_events start history n p frame event events) f.told),
    )

-- the headline of a frame that is forwarded
pub headline_of : FinishedLaw → (c new : Gateway) (known : Heard) (history : List Event) (p : ℕ) (frame : List ℕ)
    (given : Result Outcome EventRefusal) → p < 256 → IsRecord frame → Stands c known history
    → CoreForwards c known history p frame given new
    → IfOk given (λ outcome. ForwardsFrame (begun c.limits known) history p frame outcome)
headline_of law c new known history p frame (Err why) octet is_record s told = tt
headline_of law c new known history p frame (Ok o) octet is_record s told =
    forwards_frame law (begun c.limits known) history p frame o (is_record, octet) s.events told.0 told.1

-- so each step for it is a safe one
pub forward_inside : SafetyLaw → (c : Gateway) (p : ℕ) (frame : List ℕ) → p < 256 → IsRecord frame
    → (known : Heard) (history : List Event) (n : ℕ) → Stands c known history
    → StepsInside (begun c.limits known) (forwarded n p frame history) (Step p)
forward_inside law c p frame octet is_record known history n s = λ r q k is next.
    law (begun c.limits known) (forwarded n p frame history) r q k
    (accepted_events (begun c.limits known) history n p frame (is_record, octet) s.events) next

-- the worker that is read can forward
pub can_forward : (c : Gateway) (all : List (List Pair)) (i : ℕ) (w : Worker) (front : ℕ) → all ≡ c.batches → i < c.limits.ports
    → w ≡ slice_index_or c.workers i w → front ≡ length c.batches → IsGateway c → CanForward all w c.latest front
can_forward c all i w front same within read fronts g =
    let at = slice_get_read c.workers c.limits.ports i w (sym g.2.ports) within read in
    subst (λ (x : List (List Pair)). CanForward x w c.latest front) (sym same) (record {
      done = history_of (begun c.limits g.0) i g.1;
      stands = (g.2.workers i w at).stands;
      found = subst (AreFound c.batches c.latest) (sym (batches_of_port i (begun c.limits g.0) g.1)) g.2.latest;
      published = fronts ∙ sym (front_of c g.0 g.1 g.2) ∙ ap length (sym (batches_of_port i (begun c.limits g.0) g.1));
    })
