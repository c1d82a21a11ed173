-- The frame that a port took last: its taking, and what became of it since.
use Rattle.std.proofs.Common.{◌≡◌, ◌≢◌, ℕ, ◌+◌, ◌-◌, ◌<◌, ◌≤◌, Bool, true, false, ◌&&◌, ◌||◌, cond, eqb, ltb}
use Rattle.std.proofs.Common.{List, [], ◌∷◌, ◌++◌, length, drop, Option, Some, None, refl, sym, ap, subst, ◌∙◌, arith, ⊎_elim}
use Rattle.std.proofs.Common.{append-nil, length-append}
use Rattle.std.specs.Prelude.{option_to_list, option_map}
use Rattle.std.specs.List.{cons_option, All, Contains}
use Rattle.std.specs.Option.{option_map_or}
use Rattle.std.proofs.lemmas.Bool.{cases_eq, eq-eqb, eqb-true, ltb-false, or_cases, or_parts, or_left, or_right, and_parts}
use Rattle.std.proofs.lemmas.Bool.{false≢true}
use Rattle.std.proofs.lemmas.List.Folds.{list_any-append}
use Rattle.std.proofs.lemmas.List.Elements.{All-head, All-tail, All-contains}
use Rattle.std.proofs.lemmas.List.Elements.{Contains-append_left, Contains-push, Contains-append_cases}
use Rattle.std.proofs.lemmas.Option.{slice_get_within, get_or_from_slice_get}
use Rattle.gw_policy.specs.Filter.{IsFilter}
use Rattle.gw_policy.specs.Batches.{Pair, in_force}
use Rattle.gw_ledger.specs.Ports.{has_port}
use Rattle.gw_ledger.specs.declared.outcome.FrameCopy.{FrameCopy}
use Rattle.gw_core.specs.Start.{Start}
use Rattle.gw_core.specs.PortHistory.{heard_before}
use Rattle.gw_core.specs.PortHistory.{PortEvent, batch_published, frame_taken, step_made, copy_asked, Ingress, ingress_of, Taking}
use Rattle.gw_core.specs.PortHistory.{taking, Work, instruction, placing, heard, last_taking, work, work_left}
use Rattle.gw_core.specs.PortHistory.{steps_since, lane_after, waiting, places_at, placed_by, copy_of, placed_at}
use Rattle.gw_core.specs.PortHistory.{placed_since}
use Rattle.gw_core.specs.Events.{history_of, all_batches}
use Rattle.gw_core.specs.Events.{at_port, waiting_after}
use Rattle.gw_core.specs.Standing.{AreSound}
use Rattle.gw_core.specs.Headline.{IsEvent, WasFull}
use Rattle.gw_core.specs.declared.event.Event.{Event}
use Rattle.gw_core.specs.declared.event.Event.TheVariants.{Publish, Take, Step, Send}
use Rattle.gw_core.proofs.Histories.{work_left-step}
use Rattle.gw_core.proofs.Publishings.{sound_published}
use Rattle.gw_core.proofs.Starts.{none_in_force, none_some}
use Rattle.gw_core.proofs.Lanes.{last_number, placings, placings-drop, ascends, few_wait}
use Rattle.gw_core.proofs.Targets.{has_one, has_self}

-- what the types keep of each event
abbrev pub AreEvents : List Event → Type 0
AreEvents [] = Unit {0}
AreEvents (e ∷ done) = IsEvent e × AreEvents done

-- one by one
pub events_all : (done : List Event) → All IsEvent done → AreEvents done
events_all [] h = tt
events_all (e ∷ done) h = (All-head IsEvent e done h, events_all done (All-tail IsEvent e done h))

-- the policies in force are sound
pub sound_events : (done : List Event) → AreEvents done → AreSound (all_batches done)
sound_events [] h = record { filters = λ q filter e. none_some (in_force q []) filter (none_in_force q) e }
sound_events (Publish batch ∷ done) h = sound_published (all_batches done) batch (sound_events done h.1)
    (λ i pair get. All-contains (λ (x : Pair). IsFilter x.policy) batch pair h.0
    (i, slice_get_within batch i pair get, get_or_from_slice_get batch i pair pair get))
sound_events (Take p frame ∷ done) h = sound_events done h.1
sound_events (Step p ∷ done) h = sound_events done h.1
sound_events (Send to from ∷ done) h = sound_events done h.1

-- what is left of the last frame's work
pub left_of : (ingress : Ingress) (own : List PortEvent) (t : Taking) → last_taking own ≡ Some t
    → work_left ingress own ≡ drop (steps_since own) (work ingress t)
left_of ingress own t e = ap (λ (o : Option Taking). option_map_or (λ t. drop (steps_since own) (work ingress t)) o []) e

-- a piece of work that places at a port where the lane has room
pub at_placing : (ingress : Ingress) (own : List PortEvent) (q : ℕ) (w : List Work) → has_port q (placed_at ingress own w) ≡ true
    → (1 ≤ placings q w) × (places_at q w ≡ true) × (ltb (length (waiting ingress q own)) ingress.room ≡ true)
at_placing ingress own q [] e = cc
at_placing ingress own q (instruction _ _ ∷ rest) e = cc
at_placing ingress own q (placing r ∷ rest) e = go (ltb (length (waiting ingress r own)) ingress.room) refl e
  where
    go : (b : Bool) → ltb (length (waiting ingress r own)) ingress.room ≡ b → has_port q (cond b (r ∷ []) []) ≡ true
        → (1 ≤ cond (eqb q r) 1 0 + placings q rest) × (eqb q r ≡ true)
        × (ltb (length (waiting ingress q own)) ingress.room ≡ true)
    go false is e = cc
    go true is e =
        let same : r ≡ q = has_one r q e in
        let f : eqb q r ≡ true = eq-eqb q r (sym same) in
        (rw f (omega arith), f, ap (λ n. ltb (length (waiting ingress n own)) ingress.room) (sym same) ∙ is)

-- and a placing where the lane has room places
pub placed_here : (ingress : Ingress) (own : List PortEvent) (q : ℕ) (w : List Work) → places_at q w ≡ true
    → ltb (length (waiting ingress q own)) ingress.room ≡ true
    → has_port q (placed_at ingress own w) ≡ true
placed_here ingress own q [] a b = cc
placed_here ingress own q (instruction _ _ ∷ rest) a b = cc
placed_here ingress own q (placing r ∷ rest) a b =
    let same : q ≡ r = eqb-true q r a in
    ap (λ b. has_port q (cond b (r ∷ []) [])) (ap (λ n. ltb (length (waiting ingress n own)) ingress.room) (sym same) ∙ b)
    ∙ ap (λ n. has_port q (n ∷ [])) (sym same) ∙ has_self q

-- what was placed since the taking, before a step and by it
pub split_placed : (ingress : Ingress) (own : List PortEvent) (q : ℕ) → has_port q (placed_since ingress (step_made ∷ own))
    ≡ (has_port q (placed_since ingress own) || has_port q (placed_at ingress own (work_left ingress own)))
split_placed ingress own q = list_any-append (λ other. eqb other q) (placed_since ingress own)
    (placed_at ingress own (work_left ingress own))

-- a port at which the frame was placed is one at which its work places it
pub placed_planned : (ingress : Ingress) (q : ℕ) (own : List PortEvent) (t : Taking) → last_taking own ≡ Some t
    → has_port q (placed_since ingress own) ≡ true
    → 1 ≤ placings q (work ingress t)
placed_planned ingress q [] t e h = cc
placed_planned ingress q (batch_published batch ∷ own) t e h = placed_planned ingress q own t e h
placed_planned ingress q (heard_before records ∷ own) t e h = placed_planned ingress q own t e h
placed_planned ingress q (copy_asked r ∷ own) t e h = placed_planned ingress q own t e h
placed_planned ingress q (frame_taken frame ∷ own) t e h = cc
placed_planned ingress q (step_made ∷ own) t e h = ⊎_elim
    (λ (before : has_port q (placed_since ingress own) ≡ true). placed_planned ingress q own t e before)
    (λ (now : has_port q (placed_at ingress own (work_left ingress own)) ≡ true).
    let a = at_placing ingress own q (work_left ingress own) now in
    let b = ap (placings q) (left_of ingress own t e) in
    let k = placings-drop q (steps_since own) (work ingress t) in
    let one = a.0 in
    omega arith)
    (or_cases (has_port q (placed_since ingress own)) (has_port q (placed_at ingress own (work_left ingress own)))
    (sym (split_placed ingress own q) ∙ h))

-- its copy stands on the lane
pub copy_there : (ingress : Ingress) (q : ℕ) (own : List PortEvent) (t : Taking) → last_taking own ≡ Some t
    → has_port q (placed_since ingress own) ≡ true
    → Contains (lane_after ingress q own).placed (copy_of ingress t)
copy_there ingress q [] t e h = cc
copy_there ingress q (batch_published batch ∷ own) t e h =
    Contains-append_left (lane_after ingress q own).placed [] (copy_of ingress t)
    (copy_there ingress q own t e h)
copy_there ingress q (heard_before records ∷ own) t e h =
    Contains-append_left (lane_after ingress q own).placed [] (copy_of ingress t)
    (copy_there ingress q own t e h)
copy_there ingress q (copy_asked r ∷ own) t e h = Contains-append_left (lane_after ingress q own).placed [] (copy_of ingress t)
    (copy_there ingress q own t e h)
copy_there ingress q (frame_taken frame ∷ own) t e h = cc
copy_there ingress q (step_made ∷ own) t e h = ⊎_elim
    (λ (before : has_port q (placed_since ingress own) ≡ true).
    Contains-append_left (lane_after ingress q own).placed (placed_by ingress q step_made own (length (waiting ingress q own)))
    (copy_of ingress t) (copy_there ingress q own t e before))
    (λ (now : has_port q (placed_at ingress own (work_left ingress own)) ≡ true).
    let a = at_placing ingress own q (work_left ingress own) now in
    let b = a.1 in
    let c = a.2 in
    let more : placed_by ingress q step_made own (length (waiting ingress q own)) ≡ copy_of ingress t ∷ [] = rw (b, c, e) in
    subst (λ (xs : List FrameCopy). Contains ((lane_after ingress q own).placed ++ xs) (copy_of ingress t)) (sym more)
    (Contains-push (lane_after ingress q own).placed (copy_of ingress t)))
    (or_cases (has_port q (placed_since ingress own)) (has_port q (placed_at ingress own (work_left ingress own)))
    (sym (split_placed ingress own q) ∙ h))

-- a copy that may be there is there where the test holds
pub none_there : (b : Bool) (ys : List FrameCopy) (c : FrameCopy) → Contains (cond b ys []) c → b ≡ true
none_there true ys c h = refl
none_there false ys c h = let lt = h.1 in absurd (omega arith)

-- and where a copy with the frame's number stands on a lane, the frame was placed
pub placed_back : (ingress : Ingress) (q : ℕ) (own : List PortEvent) (t : Taking) → last_taking own ≡ Some t → (c : FrameCopy)
    → Contains (lane_after ingress q own).placed c → c.number ≡ t.number → has_port q (placed_since ingress own) ≡ true
placed_back ingress q [] t e c h n = cc
placed_back ingress q (batch_published batch ∷ own) t e c h n = placed_back ingress q own t e c
    (subst (λ (xs : List FrameCopy). Contains xs c) (append-nil (lane_after ingress q own).placed) h) n
placed_back ingress q (heard_before records ∷ own) t e c h n = placed_back ingress q own t e c
    (subst (λ (xs : List FrameCopy). Contains xs c) (append-nil (lane_after ingress q own).placed) h) n
placed_back ingress q (copy_asked r ∷ own) t e c h n = placed_back ingress q own t e c
    (subst (λ (xs : List FrameCopy). Contains xs c) (append-nil (lane_after ingress q own).placed) h) n
placed_back ingress q (frame_taken frame ∷ own) t e c h n =
    let k = placings q (work_left ingress own) in
    let below : c.number < length (heard own) - k = All-contains (λ (a : FrameCopy). a.number < length (heard own) - k)
    (lane_after ingress q own).placed c (ascends ingress q own).1
    (subst (λ (xs : List FrameCopy). Contains xs c) (append-nil (lane_after ingress q own).placed) h) in
    let number : Some (length (heard own)) ≡ Some t.number = ap (option_map (λ (x : Taking). x.number)) e in
    let m : length (heard own) ≡ t.number = cc in
    absurd (omega arith)
placed_back ingress q (step_made ∷ own) t e c h n = split_placed ingress own q ∙ ⊎_elim
    (λ (before : Contains (lane_after ingress q own).placed c).
    or_left (has_port q (placed_since ingress own)) (has_port q (placed_at ingress own (work_left ingress own)))
    (placed_back ingress q own t e c before n))
    (λ (now : Contains (placed_by ingress q step_made own (length (waiting ingress q own))) c).
    let both = none_there (places_at q (work_left ingress own) && ltb (length (waiting ingress q own)) ingress.room)
    (option_to_list (option_map (copy_of ingress) (last_taking own))) c now in
    let parts = and_parts (places_at q (work_left ingress own)) (ltb (length (waiting ingress q own)) ingress.room) both in
    or_right (has_port q (placed_since ingress own)) (has_port q (placed_at ingress own (work_left ingress own)))
    (placed_here ingress own q (work_left ingress own) parts.0 parts.1))
    (Contains-append_cases (lane_after ingress q own).placed
    (placed_by ingress q step_made own (length (waiting ingress q own))) c h)

-- the event that took the last frame, and what became of it since
pub record Since (start : Start) (p : ℕ) (done : List Event) (t : Taking) : Type 0 where
  pub frame : List ℕ
  pub earlier : List Event
  pub later : List Event
  pub order : done ≡ later ++ Take p frame ∷ earlier
  pub same : t ≡ taking frame (history_of start p earlier)
  pub sound : AreSound (all_batches earlier)
  pub full : (q : ℕ) → 1 ≤ placings q (work (ingress_of start.limits p) t)
      → has_port q (placed_since (ingress_of start.limits p) (history_of start p done)) ≡ false
      → placings q (work_left (ingress_of start.limits p) (history_of start p done)) ≡ 0
      → WasFull start (Take p frame ∷ earlier) done p q

-- an event that changes neither what was placed of it nor what is left
abbrev pub fate : Ingress → List PortEvent → List ℕ × List Work
fate ingress own = (placed_since ingress own, work_left ingress own)

-- a lane that was full was full, whatever follows
pub later_full : (start : Start) (earlier done : List Event) (p q : ℕ) (e : Event) → WasFull start earlier done p q
    → WasFull start earlier (e ∷ done) p q
later_full start earlier done p q e w = record
    { since = w.since; until = e ∷ w.until; order = ap (λ (x : List Event). e ∷ x) w.order; step = w.step; full = w.full }

-- an event that changes neither is added to those since the taking
pub extend : (start : Start) (p : ℕ) (done : List Event) (t : Taking) (e : Event)
    → fate (ingress_of start.limits p) (history_of start p (e ∷ done))
    ≡ fate (ingress_of start.limits p) (history_of start p done)
    → Since start p done t → Since start p (e ∷ done) t
extend start p done t e as_was s = record {
  frame = s.frame;
  earlier = s.earlier;
  later = e ∷ s.later;
  order = ap (λ (x : List Event). e ∷ x) s.order;
  same = s.same;
  sound = s.sound;
  full = λ q le missing left. later_full start (Take p s.frame ∷ s.earlier) done p q e
      (s.full q le (ap (λ (x : List ℕ × List Work). has_port q x.0) (sym as_was) ∙ missing)
      (ap (λ (x : List ℕ × List Work). placings q x.1) (sym as_was) ∙ left));
}

-- a step whose placing finds the lane full
pub full_now : (ingress : Ingress) (own : List PortEvent) (q : ℕ) (w : List Work) → placings q w ≢ 0 → placings q (drop 1 w) ≡ 0
    → has_port q (placed_at ingress own w) ≡ false
    → (places_at q w ≡ true) × (length (waiting ingress q own) ≡ ingress.room)
full_now ingress own q [] some none missing = absurd (some refl)
full_now ingress own q (instruction _ _ ∷ rest) some none missing = absurd (some none)
full_now ingress own q (placing r ∷ rest) some none missing = go (eqb q r) refl some
  where
    room : eqb q r ≡ true → (b : Bool) → ltb (length (waiting ingress q own)) ingress.room ≡ b
        → length (waiting ingress q own) ≡ ingress.room
    room e true is = absurd (false≢true (sym missing ∙ placed_here ingress own q (placing r ∷ rest) e is))
    room e false is = let past = ltb-false (length (waiting ingress q own)) ingress.room is in
        let few = few_wait ingress q own in omega
        arith

    go : (b : Bool) → eqb q r ≡ b → (cond b 1 0 + placings q rest ≡ 0 → ⊥)
        → (eqb q r ≡ true) × (length (waiting ingress q own) ≡ ingress.room)
    go true e some = (e, room e (ltb (length (waiting ingress q own)) ingress.room) refl)
    go false e some = absurd (some (omega arith))

-- a step is added: where it left a placing undone, the lane was full
pub step_since : (start : Start) (p : ℕ) (done : List Event) (t : Taking)
    → history_of start p (Step p ∷ done) ≡ step_made ∷ history_of start p done → Since start p done t
    → Since start p (Step p ∷ done) t
step_since start p done t here s = record {
  frame = s.frame;
  earlier = s.earlier;
  later = Step p ∷ s.later;
  order = ap (λ (x : List Event). Step p ∷ x) s.order;
  same = s.same;
  sound = s.sound;
  full = λ q le missing left.
      let no_more = or_parts (has_port q (placed_since ingress own)) (has_port q (placed_at ingress own (work_left ingress own)))
      (sym (split_placed ingress own q) ∙ ap (λ (x : List PortEvent). has_port q (placed_since ingress x)) (sym here)
      ∙ missing) in
      let rest : placings q (drop 1 (work_left ingress own)) ≡ 0 = ap (placings q) (sym (work_left-step ingress own))
      ∙ ap (λ (x : List PortEvent). placings q (work_left ingress x)) (sym here) ∙ left in
      ⊎_elim
      (λ (none : placings q (work_left ingress own) ≡ 0). later_full start (Take p s.frame ∷ s.earlier) done p q (Step p)
      (s.full q le no_more.0 none))
      (λ (some : placings q (work_left ingress own) ≢ 0).
      let now = full_now ingress own q (work_left ingress own) some rest no_more.1 in
      record {
        since = s.later;
        until = [];
        order = ap (λ (x : List Event). Step p ∷ x) s.order;
        step = subst (λ (x : List Event). places_at q (work_left ingress (history_of start p x)) ≡ true) s.order now.0;
        full = subst (λ (x : List Event). length (waiting_after start p q x) ≡ start.limits.lane) s.order now.1;
      })
      (cases_eq (placings q (work_left ingress own)) 0);
}
  where
    ingress : Ingress
    ingress = ingress_of start.limits p

    own : List PortEvent
    own = history_of start p done

-- an event of another kind changes neither
pub same_fate : (start : Start) (p : ℕ) (done : List Event) (e : Event)
    → ((ingress : Ingress) (own : List PortEvent) → fate ingress (cons_option (at_port p e) own) ≡ fate ingress own)
    → fate (ingress_of start.limits p) (history_of start p (e ∷ done))
    ≡ fate (ingress_of start.limits p) (history_of start p done)
same_fate start p done e same = same (ingress_of start.limits p) (history_of start p done)

-- the last frame taken at a port has its event
pub since : (start : Start) (p : ℕ) (done : List Event) (t : Taking) → AreEvents done
    → last_taking (history_of start p done) ≡ Some t
    → Since start p done t
since start p [] t h e = cc
since start p (Publish batch ∷ done) t h e = extend start p done t (Publish batch) refl (since start p done t h.1 e)
since start p (Send to from ∷ done) t h e = go (eqb p from) refl e (λ k. since start p done t h.1 k)
  where
    go : (b : Bool) → eqb p from ≡ b → last_taking (cons_option (cond b (Some (copy_asked to)) None)
        (history_of start p done)) ≡ Some t
        → (last_taking (history_of start p done) ≡ Some t → Since start p done t) → Since start p (Send to from ∷ done) t
    go true is k ih = extend start p done t (Send to from)
        (ap (λ b. fate (ingress_of start.limits p) (cons_option (cond b (Some (copy_asked to)) None)
        (history_of start p done))) is) (ih k)
    go false is k ih = extend start p done t (Send to from)
        (ap (λ b. fate (ingress_of start.limits p) (cons_option (cond b (Some (copy_asked to)) None)
        (history_of start p done))) is) (ih k)
since start p (Step r ∷ done) t h e = go (eqb p r) refl e (λ k. since start p done t h.1 k)
  where
    go : (b : Bool) → eqb p r ≡ b → last_taking (cons_option (cond b (Some step_made) None) (history_of start p done)) ≡ Some t
        → (last_taking (history_of start p done) ≡ Some t → Since start p done t) → Since start p (Step r ∷ done) t
    go true is k ih =
        let same : p ≡ r = eqb-true p r is in
        let self : eqb p p ≡ true = eq-eqb p p refl in
        subst (λ n. Since start p (Step n ∷ done) t) same
        (step_since start p done t (ap (λ b. cons_option (cond b (Some step_made) None) (history_of start p done)) self) (ih k))
    go false is k ih = extend start p done t (Step r)
        (ap (λ b. fate (ingress_of start.limits p) (cons_option (cond b (Some step_made) None) (history_of start p done))) is)
        (ih k)
since start p (Take r frame ∷ done) t h e = go (eqb p r) refl e (λ k. since start p done t h.1 k)
  where
    go : (b : Bool) → eqb p r ≡ b → last_taking (cons_option (cond b (Some (frame_taken frame)) None) (history_of start p done))
        ≡ Some t
        → (last_taking (history_of start p done) ≡ Some t → Since start p done t) → Since start p (Take r frame ∷ done) t
    go false is k ih = extend start p done t (Take r frame)
        (ap (λ b. fate (ingress_of start.limits p) (cons_option (cond b (Some (frame_taken frame)) None)
        (history_of start p done))) is)
        (ih k)
    go true is k ih =
        let same : p ≡ r = eqb-true p r is in
        let taken : taking frame (history_of start p done) ≡ t = cc in
        record {
          frame = frame;
          earlier = done;
          later = [];
          order = ap (λ n. Take n frame ∷ done) (sym same);
          same = sym taken;
          sound = sound_events done h.1;
          full = λ q le missing left.
              let all : placings q (work (ingress_of start.limits p) (taking frame (history_of start p done))) ≡ 0 =
              ap (λ b. placings q (work_left (ingress_of start.limits p)
              (cons_option (cond b (Some (frame_taken frame)) None) (history_of start p done)))) (sym is) ∙ left in
              let some : 1 ≤ placings q (work (ingress_of start.limits p) (taking frame (history_of start p done))) = subst
              (λ (x : Taking). 1 ≤ placings q (work (ingress_of start.limits p) x)) (sym taken) le in
              absurd (omega arith);
        }

-- what a port heard after a frame was taken there, and before
pub heard-later : (start : Start) (p : ℕ) (frame : List ℕ) (later earlier : List Event)
    → heard (history_of start p (later ++ Take p frame ∷ earlier))
    ≡ heard (history_of start p later) ++ frame ∷ heard (history_of start p earlier)
heard-later start p frame [] earlier =
    let self : eqb p p ≡ true = eq-eqb p p refl in
    ap (λ b. heard (cons_option (cond b (Some (frame_taken frame)) None) (history_of start p earlier))) self
heard-later start p frame (e ∷ later) earlier =
    one (at_port p e) (history_of start p (later ++ Take p frame ∷ earlier)) (history_of start p later) (frame ∷ heard
    (history_of start p earlier))
    (heard-later start p frame later earlier)
  where
    one : (o : Option PortEvent) (xs ys : List PortEvent) (zs : List (List ℕ)) → heard xs ≡ heard ys ++ zs
        → heard (cons_option o xs) ≡ heard (cons_option o ys) ++ zs
    one None xs ys zs same = same
    one (Some (frame_taken taken)) xs ys zs same = ap (λ (h : List (List ℕ)). taken ∷ h) same
    one (Some (batch_published batch)) xs ys zs same = same
    one (Some (heard_before records)) xs ys zs same = same
    one (Some step_made) xs ys zs same = same
    one (Some (copy_asked q)) xs ys zs same = same

-- no frame was taken there after the last
pub newest_taken : (start : Start) (p : ℕ) (done : List Event) (t : Taking) (s : Since start p done t)
    → last_taking (history_of start p done) ≡ Some t
    → heard (history_of start p s.later) ≡ []
newest_taken start p done t s last =
    let number = last_number (history_of start p done) t last in
    let same : t.number ≡ length (heard (history_of start p s.earlier)) = ap (λ (x : Taking). x.number) s.same in
    let all = ap (λ (x : List Event). length (heard (history_of start p x))) s.order
    ∙ ap length (heard-later start p s.frame s.later s.earlier)
    ∙ length-append (heard (history_of start p s.later)) (s.frame ∷ heard (history_of start p s.earlier)) in
    none (heard (history_of start p s.later)) (omega arith)
  where
    none : (xs : List (List ℕ)) → length xs ≡ 0 → xs ≡ []
    none [] e = refl
    none (x ∷ xs) e = absurd (omega arith)
