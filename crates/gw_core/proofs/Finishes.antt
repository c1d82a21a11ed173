-- A worker that makes all steps of a frame in one call.
use Rattle.std.proofs.Common.{◌≡◌, ℕ, zero, suc, ◌+◌, ◌-◌, ◌<◌, ◌≤◌, true, false, ltb, List, [], ◌∷◌, ◌++◌, length}
use Rattle.std.proofs.Common.{Option, Some, None, Ok, refl, sym, ap, subst, ◌∙◌, arith, drop, replicate, length-drop}
use Rattle.std.specs.Option.{option_map_or}
use Rattle.std.proofs.lemmas.Bool.{false≢true}
use Rattle.std.proofs.lemmas.Bool.Decides.{nat_tests}
use Rattle.std.proofs.lemmas.List.{drop-drop}
use Rattle.std.proofs.lemmas.List.Elements.{All-nil}
use Rattle.gw_claims.specs.Claims.{is_local}
use Rattle.gw_claims.specs.Holders.{HoldsAfter}
use Rattle.gw_policy.specs.Batches.{Pair, in_force}
use Rattle.gw_ledger.specs.Ledgers.{ledger_with, HasRoom}
use Rattle.gw_ledger.specs.declared.ledger.InLedger.{InLedger}
use Rattle.gw_ledger.specs.declared.outcome.FrameCopy.{FrameCopy}
use Rattle.gw_ledger.specs.declared.outcome.Outcome.{Outcome}
use Rattle.gw_core.specs.LaneView.{LaneView}
use Rattle.gw_core.specs.PortHistory.{ever_heard}
use Rattle.gw_core.specs.PortHistory.{PortEvent, step_made, frame_taken, Ingress, Taking, taking, Work, instructions_from}
use Rattle.gw_core.specs.PortHistory.{placing_if}
use Rattle.gw_core.specs.PortHistory.{steps_at, is_allowed, work_left, work_from, last_taking, is_unfinished, placed_since}
use Rattle.gw_core.specs.PortHistory.{placed_at}
use Rattle.gw_core.specs.PortHistory.{outcome_of, finished_after, heard, batches, waiting, outcomes, ledger_of, with_finished}
use Rattle.gw_core.specs.Events.{step_answer, piece_answer}
use Rattle.gw_core.specs.Standing.{Worker, WorkerStands, ingress, AnswersTake, AreSound, AreFound, SoFar, Counts, Holds}
use Rattle.gw_core.specs.Standing.{next_port, unfinished_frames, outcome_held}
use Rattle.gw_core.specs.Forwarding.{port_forwarded, AnswersForward, HeardForeign, Judged, held_by}
use Rattle.gw_core.specs.declared.active.Active.{Active}
use Rattle.gw_core.specs.declared.active.PairIndex.{PairIndex}
use Rattle.gw_core.specs.declared.judging.Judging.{Judging}
use Rattle.gw_core.specs.declared.event.Answer.TheVariants.{Taken, Finished}
use Rattle.gw_core.proofs.Histories.{left_over, unfinished, one_less, work_left-step, no_work, waiting_same}
use Rattle.gw_core.proofs.Boundaries.{nothing_below}
use Rattle.gw_core.proofs.Forwarding.{ends_own}
use Rattle.gw_core.proofs.Stand.{StepsLaw, some_steps, work_next, same_outcome, counted, allowed_few, has_room_for}
use Rattle.gw_core.proofs.Takings.{first_within, not_refused}

-- a step that ends a frame leaves none unfinished
ended_then : (p : Ingress) (own : List PortEvent) (o : Outcome) → step_answer p own ≡ Finished o
    → is_unfinished p (step_made ∷ own) ≡ false
ended_then p own o ends =
    let e = ends_own p own o ends in
    ap (λ (w : List Work). ltb 0 (length w)) (left_over p own e.piece [] e.left)

-- steps publish nothing, and no frame is heard by them
same_heard : (k : ℕ) (x : List PortEvent) → heard (replicate k step_made ++ x) ≡ heard x
same_heard zero x = refl
same_heard (suc k) x = same_heard k x

same_ever : (k : ℕ) (x : List PortEvent) → ever_heard (replicate k step_made ++ x) ≡ ever_heard x
same_ever zero x = refl
same_ever (suc k) x = same_ever k x

same_published : (k : ℕ) (x : List PortEvent) → batches (replicate k step_made ++ x) ≡ batches x
same_published zero x = refl
same_published (suc k) x = same_published k x

-- each takes a piece of the work that is left
left_at : (p : Ingress) (k : ℕ) (x : List PortEvent) → work_left p (replicate k step_made ++ x) ≡ drop k (work_left p x)
left_at p zero x = refl
left_at p (suc k) x =
    let up : k + 1 ≡ suc k = omega arith in
    work_left-step p (replicate k step_made ++ x) ∙ ap (drop 1) (left_at p k x) ∙ drop-drop 1 k (work_left p x)
    ∙ ap (λ n. drop n (work_left p x)) up

-- with two pieces left or more a step finishes no frame
none_finished : (p : Ingress) (own : List PortEvent) → 2 ≤ length (work_left p own)
    → finished_after p own (last_taking own) (work_left p own) ≡ None
none_finished p own two = go (work_left p own) refl two
  where
    go : (w : List Work) → work_left p own ≡ w → 2 ≤ length w → finished_after p own (last_taking own) (work_left p own) ≡ None
    go [] left two = absurd (omega arith)
    go (x ∷ []) left two = absurd (omega arith)
    go (x ∷ y ∷ rest) left two = rw left refl

-- so the outcomes are those before, up to the last piece
same_outcomes : (p : Ingress) (x : List PortEvent) (k : ℕ) → k < length (work_left p x)
    → outcomes p (replicate k step_made ++ x) ≡ outcomes p x
same_outcomes p x zero lt = refl
same_outcomes p x (suc k) lt =
    let own = replicate k step_made ++ x in
    let many = ap length (left_at p k x) ∙ length-drop k (work_left p x) in
    let none = none_finished p own (omega arith) in
    ap (λ (f : Option Outcome). with_finished f (outcomes p own)) none ∙ same_outcomes p x k (omega arith)

-- the frame that was taken is the last one taken, however many steps follow
last_taken : (n : ℕ) (frame : List ℕ) (done : List PortEvent)
    → last_taking (port_forwarded n frame done) ≡ Some (taking frame done)
last_taken zero frame done = refl
last_taken (suc n) frame done = last_taken n frame done

-- the last piece finishes the frame
ends_with : (p : Ingress) (own : List PortEvent) (t : Taking) (piece : Work) → work_left p own ≡ piece ∷ []
    → last_taking own ≡ Some t
    → finished_after p own (last_taking own) (work_left p own)
    ≡ Some (outcome_of p t (placed_since p own ++ placed_at p own (piece ∷ [])))
ends_with p own t piece left last = rw (left, last) refl

-- a list of one element
single : (xs : List Work) → length xs ≡ 1 → (piece : Work) × (xs ≡ piece ∷ [])
single [] e = absurd (omega arith)
single (x ∷ []) e = (x, refl)
single (x ∷ y ∷ rest) e = absurd (omega arith)

-- a foreign frame of which no step was made has work
has_work : StepsLaw → (all : List (List Pair)) (w : Worker) (done : List PortEvent) (frame : List ℕ) → WorkerStands all w done
    → is_local (ever_heard done) frame ≡ false → is_unfinished (ingress w) (frame_taken frame ∷ done) ≡ true
has_work law all w done frame s foreign =
    let p = ingress w in
    let t = taking frame done in
    let next = next_port w.own 0 in
    let within : next < w.limits.ports = first_within w.own w.limits.ports s.own s.limits.least_ports in
    let work = work_next p t 0 s.own within in
    let pos : 0 < steps_at p t next = some_steps law (in_force next t.published) frame w.own (s.sound.filters next) in
    let left : work_left p (frame_taken frame ∷ done)
    ≡ (instructions_from p t next 0 ++ placing_if (is_allowed p t next) next) ++ work_from p t (next + 1) =
    rw foreign work.1 in
    unfinished p (frame_taken frame ∷ done) _ _
    (left ∙ one_less p t next 0 (placing_if (is_allowed p t next) next) (work_from p t (next + 1)) pos)

-- a foreign frame that was heard was judged for no port
judged_none : (all : List (List Pair)) (w heard : Worker) (indices : List (Option PairIndex)) (frame : List ℕ)
    (done : List PortEvent) (front : ℕ) → WorkerStands all w done → HeardForeign w heard done frame
    → AreFound all indices (batches done) → front ≡ length (batches done)
    → Judged all w indices frame done 0
    (record { copy = record { from = w.own; number = w.taken; frame = frame }; front = front; allowed = []; placed = [] }) w.lanes
judged_none all w heard indices frame done front s heard_it found fronts =
    let p = ingress w in
    let t = taking frame done in
    record {
      stands = s;
      foreign = heard_it.foreign;
      found = found;
      source = refl;
      steps = 0;
      count = omega arith;
      left = rw heard_it.foreign refl;
      so_far = record {
        frame = refl;
        number = s.taken;
        front = fronts;
        foreign = heard_it.foreign;
        allowed = sym (nothing_below p t);
        placed = refl;
        below = All-nil (λ q. q < 0);
        part = record { ports = λ q h. h };
        fewer = omega arith;
      };
      many = s.many;
      waits = λ q lt. s.lanes q lt ∙ ap (λ (x : List FrameCopy). record { room = w.limits.lane; waiting = x })
          (sym (waiting_same p q (frame_taken frame) done refl refl));
    }

-- so it is where the worker that heard it begins to judge it
pub judged_start : (all : List (List Pair)) (w heard : Worker) (indices : List (Option PairIndex)) (frame : List ℕ)
    (done : List PortEvent) (front own number : ℕ) (allowed placed : List ℕ) (lanes : List LaneView)
    → WorkerStands all w done → HeardForeign w heard done frame
    → AreFound all indices (batches done) → front ≡ length (batches done)
    → own ≡ heard.own → number ≡ w.taken → allowed ≡ [] → placed ≡ [] → lanes ≡ heard.lanes
    → Judged all w indices frame done 0
    (record {
      copy = record { from = own; number = number; frame = frame };
      front = front;
      allowed = allowed;
      placed = placed;
    }) lanes
judged_start all w heard indices frame done front own number allowed placed lanes s heard_it found fronts is_own is_taken none
    nowhere are_lanes =
    let J : ℕ → ℕ → List ℕ → List ℕ → List LaneView → Type 0 = λ own number allowed placed lanes.
    Judged all w indices frame done 0
    (record {
      copy = record { from = own; number = number; frame = frame };
      front = front;
      allowed = allowed;
      placed = placed;
    }) lanes in
    let same_own : own ≡ w.own = is_own ∙ ap (λ (x : Worker). x.own) heard_it.becomes in
    let same_lanes : lanes ≡ w.lanes = are_lanes ∙ ap (λ (x : Worker). x.lanes) heard_it.becomes in
    subst (λ x. J x number allowed placed lanes) (sym same_own)
    (subst (λ x. J w.own x allowed placed lanes) (sym is_taken)
    (subst (λ x. J w.own w.taken x placed lanes) (sym none)
    (subst (λ x. J w.own w.taken [] x lanes) (sym nowhere)
    (subst (λ x. J w.own w.taken [] [] x) (sym same_lanes)
    (judged_none all w heard indices frame done front s heard_it found fronts)))))

-- the ledger has room for the frame
pub room_heard : (all : List (List Pair)) (w heard : Worker) (frame : List ℕ) (done : List PortEvent) → WorkerStands all w done
    → HeardForeign w heard done frame → HasRoom heard.ledger
room_heard all w heard frame done s heard_it =
    subst (λ (x : Worker). HasRoom x.ledger) (sym heard_it.becomes)
    (has_room_for w (w.taken - 0) (subst (λ (x : Option Active). Counts w.ledger (w.taken - unfinished_frames x)) heard_it.idle
    s.counts) (let more = heard_it.more in let most = s.limits.most_frames in omega arith))

-- the frame that was judged for each port has made all of its steps
pub forwards_judged : StepsLaw → (all : List (List Pair)) (w heard : Worker) (indices : List (Option PairIndex))
    (frame : List ℕ) (done : List PortEvent) (a : Judging) (lanes : List LaneView)
    → Judged all w indices frame done (length lanes) a lanes → HeardForeign w heard done frame
    → AnswersForward all w (Ok (outcome_held (held_by a)))
    (record heard { lanes = lanes; ledger = ledger_with heard.ledger (outcome_held (held_by a)) }) done frame
forwards_judged law all w heard indices frame done a lanes j heard_it =
    subst (λ (x : Worker). AnswersForward all w (Ok (outcome_held (held_by a)))
    (record x { lanes = lanes; ledger = ledger_with x.ledger (outcome_held (held_by a)) }) done frame) (sym heard_it.becomes)
    (go j.steps refl)
  where
    p : Ingress
    p = ingress w

    t : Taking
    t = taking frame done

    h : List PortEvent
    h = frame_taken frame ∷ done

    s : WorkerStands all w done
    s = j.stands

    ends : work_from p t (length lanes) ≡ []
    ends = no_work p t (length lanes) (let m = j.many in omega arith)

    start : work_left p h ≡ work_from p t 0
    start = rw j.foreign refl

    whole : j.steps ≡ length (work_left p h)
    whole = let count = j.count in let none = ap length ends in let all_of = ap length start in omega arith

    busy_at : (k : ℕ) → k < j.steps → is_unfinished p (replicate k step_made ++ h) ≡ true
    busy_at k lt =
        let many = ap length (left_at p k h) ∙ length-drop k (work_left p h) in
        let some : 0 < length (work_left p (replicate k step_made ++ h)) = omega (arith, many, whole) in
        grind (arith, nat_tests)

    kept : w.ledger ≡ ledger_of (outcomes p h)
    kept = rw j.foreign s.ledger

    after : Worker
    after = record w {
      claims = heard.claims;
      taken = w.taken + 1;
      lanes = lanes;
      ledger = ledger_with w.ledger (outcome_held (held_by a));
    }

    go : (n : ℕ) → j.steps ≡ n → AnswersForward all w (Ok (outcome_held (held_by a))) after done frame
    go zero e =
        let none : length (work_left p h) ≡ 0 = omega (arith, whole) in
        absurd (false≢true (sym (ap (ltb 0) none) ∙ has_work law all w done frame s j.foreign))
    go (suc m) e =
        let own = replicate m step_made ++ h in
        let many = ap length (left_at p m h) ∙ length-drop m (work_left p h) in
        let one = single (work_left p own) (omega (arith, many, whole)) in
        let taken : last_taking own ≡ Some t = last_taken m frame done in
        let placed : a.placed ≡ placed_since p own ++ placed_at p own (one.0 ∷ []) =
        j.so_far.placed ∙ ap (λ n. placed_since p (port_forwarded n frame done)) e
        ∙ ap (λ (x : List Work). placed_since p own ++ placed_at p own x) one.1 in
        let so : SoFar p t (port_forwarded j.steps frame done) p.ports (held_by a) = subst
        (λ n. SoFar p t (port_forwarded j.steps frame done) n (held_by a)) j.many j.so_far in
        let o = outcome_of p t (placed_since p own ++ placed_at p own (one.0 ∷ [])) in
        let same : outcome_held (held_by a) ≡ o = same_outcome p t (port_forwarded j.steps frame done) (held_by a) _ so placed in
        let ended : finished_after p own (last_taking own) (work_left p own) ≡ Some o = ends_with p own t one.0 one.1 taken in
        let told : step_answer p own ≡ Finished (outcome_held (held_by a)) =
        ap (λ (f : Option Outcome). option_map_or (λ outcome. Finished outcome) f (piece_answer p own (work_left p own))) ended
        ∙ ap (λ (x : Outcome). Finished x) (sym same) in
        let past : (q : ℕ) → waiting p q (port_forwarded j.steps frame done) ≡ waiting p q (step_made ∷ own) =
        λ q. ap (λ n. waiting p q (port_forwarded n frame done)) e in
        let bound : length a.allowed ≤ 16 =
        let e = ap length so.allowed in let k = allowed_few p t w.limits.ports in let m = s.limits.most_ports in omega arith in (
          not_refused all w done s heard_it.idle heard_it.more,
          (
            suc m,
            record {
              taken = sym (ap (λ (x : Outcome). Taken x.number x.front x.local) same);
              unfinished = λ k lt. busy_at k (omega (arith, lt, e));
              finished = ended_then p own (outcome_held (held_by a)) told;
              told = told;
            },
            record {
              limits = s.limits;
              own = s.own;
              sound = subst AreSound (sym (same_published (suc m) h)) s.sound;
              taken = let k = s.taken in let e = ap length (same_heard (suc m) h) in omega arith;
              few = let more = heard_it.more in omega arith;
              claims = subst (HoldsAfter heard.claims) (sym (same_ever (suc m) h)) heard_it.claims;
              ledger = ap (λ (x : Outcome). ledger_with w.ledger x) same
                  ∙ ap (λ (x : InLedger). ledger_with x o)
                  (kept ∙ ap ledger_of (sym (same_outcomes p h m (omega (arith, whole, e)))))
                  ∙ ap (λ (f : Option Outcome). ledger_of (with_finished f (outcomes p own))) (sym ended);
              counts = subst (λ (x : Option Active). Counts (ledger_with w.ledger (outcome_held (held_by a)))
                  (w.taken + 1 - unfinished_frames x)) (sym heard_it.idle)
                  (counted w.ledger (w.taken - 0) (w.taken + 1 - 0) (outcome_held (held_by a))
                  (subst (λ (x : Option Active). Counts w.ledger (w.taken - unfinished_frames x)) heard_it.idle s.counts)
                  (omega arith) bound (let k = so.fewer in omega arith));
              held = subst (Holds p all (step_made ∷ own)) (sym heard_it.idle)
                  (sym (ap (λ n. work_left p (port_forwarded n frame done)) e) ∙ j.left ∙ ends);
              many = j.many;
              lanes = λ q lt. j.waits q lt
                  ∙ ap (λ (x : List FrameCopy). record { room = w.limits.lane; waiting = x }) (past q);
            },
          ),
        )

-- a local frame that was taken makes none
pub forwards_local : (all : List (List Pair)) (old new : Worker) (done : List PortEvent) (frame : List ℕ) (front : ℕ)
    → AnswersTake all old (Ok (Taken old.taken front true)) new done frame
    → AnswersForward all old (Ok (record { number = old.taken; front = front; local = true; allowed = []; placed = [] })) new done
    frame
forwards_local all old new done frame front take =
    let p = ingress old in
    let local : is_local (ever_heard done) frame ≡ true = let e = take.1 in cc in (
      take.0,
      (
        0,
        record {
          taken = sym take.1;
          unfinished = λ k lt. absurd (omega arith);
          finished = rw local refl;
          told = (refl, refl, refl);
        },
        take.2,
      ),
    )
