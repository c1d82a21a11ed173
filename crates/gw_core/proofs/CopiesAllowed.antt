-- Each copy on a lane is of a foreign frame that is allowed there.
use Rattle.std.proofs.Common.{◌≡◌, ℕ, ◌+◌, ◌≤◌, Bool, true, false, ◌&&◌, cond, eqb, ltb}
use Rattle.std.proofs.Common.{List, [], ◌∷◌, length, Option, Some, None, refl, sym, ap, subst, ◌∙◌, arith}
use Rattle.std.specs.Prelude.{option_to_list, option_map}
use Rattle.std.specs.List.{cons_option, All}
use Rattle.std.proofs.lemmas.Bool.{eq-eqb, eqb-true, and_parts}
use Rattle.std.proofs.lemmas.List.Elements.{All-nil, All-cons, All-append, All-weaker}
use Rattle.gw_policy.specs.Batches.{Pair, in_force}
use Rattle.gw_ledger.specs.declared.outcome.FrameCopy.{FrameCopy}
use Rattle.gw_core.specs.Start.{Start}
use Rattle.gw_core.specs.PortHistory.{PortEvent, batch_published, frame_taken, step_made, copy_asked, Ingress, ingress_of, Taking}
use Rattle.gw_core.specs.PortHistory.{Work, instruction, placing, last_taking, work, work_left}
use Rattle.gw_core.specs.PortHistory.{steps_since, lane_after, places_at, placed_by, copy_of}
use Rattle.gw_core.specs.Events.{history_of, all_batches}
use Rattle.gw_core.specs.Events.{waiting_after}
use Rattle.gw_core.specs.Copies.{placed_after}
use Rattle.gw_core.specs.Headline.{MayLeave, WasAllowed}
use Rattle.gw_core.specs.declared.event.Event.{Event}
use Rattle.gw_core.specs.declared.event.Event.TheVariants.{Publish, Take, Step, Send}
use Rattle.gw_core.proofs.Gateways.{batches_of_port}
use Rattle.gw_core.proofs.Lanes.{placings, placings-drop}
use Rattle.gw_core.proofs.Stand.{StepsLaw}
use Rattle.gw_core.proofs.Targets.{ReturnsLaw, may_leave, allowed_placed}
use Rattle.gw_core.proofs.Since.{AreEvents, left_of, since}
use Rattle.gw_core.proofs.Forwarding.{is_foreign}

-- each copy on a lane is of a foreign frame that is allowed there
later_allowed : (start : Start) (done : List Event) (p q : ℕ) (e : Event) (c : FrameCopy) → WasAllowed start done p q c
    → WasAllowed start (e ∷ done) p q c
later_allowed start done p q e c a = record {
  frame = a.frame;
  earlier = a.earlier;
  later = e ∷ a.later;
  taken = ap (λ (x : List Event). e ∷ x) a.taken;
  same = a.same;
  foreign = a.foreign;
  allowed = a.allowed;
}

-- what holds of the copy that a step may place
pub if_placed : (P : FrameCopy → Type 0) (ingress : Ingress) (b : Bool) (o : Option Taking)
    → ((t : Taking) → b ≡ true → o ≡ Some t → P (copy_of ingress t))
    → All P (cond b (option_to_list (option_map (copy_of ingress) o)) [])
if_placed P ingress false o h = All-nil P
if_placed P ingress true None h = All-nil P
if_placed P ingress true (Some t) h = All-cons P (copy_of ingress t) [] (h t refl refl) (All-nil P)

-- a step that places at a port has that placing as its piece
first_placing : (q : ℕ) (w : List Work) → places_at q w ≡ true → (rest : List Work) × (w ≡ placing q ∷ rest)
first_placing q [] e = cc
first_placing q (instruction _ _ ∷ rest) e = cc
first_placing q (placing r ∷ rest) e = (rest, ap (λ n. placing n ∷ rest) (sym (eqb-true q r e)))

-- the copy that a step places now is allowed
allowed_now : ReturnsLaw → StepsLaw → (start : Start) (p q : ℕ) (done : List Event) (t : Taking) → AreEvents done
    → last_taking (history_of start p done) ≡ Some t
    → places_at q (work_left (ingress_of start.limits p) (history_of start p done)) ≡ true
    → WasAllowed start (Step p ∷ done) p q (copy_of (ingress_of start.limits p) t)
allowed_now returns steps start p q done t events last here =
    let ingress = ingress_of start.limits p in
    let own = history_of start p done in
    let first = first_placing q (work_left ingress own) here in
    let foreign : t.local ≡ false = is_foreign ingress own t (placing q) first.0 last first.1 in
    let s = since start p done t events last in
    let published : t.published ≡ all_batches s.earlier = ap (λ (x : Taking). x.published) s.same
    ∙ batches_of_port p start s.earlier in
    let frame : t.frame ≡ s.frame = ap (λ (x : Taking). x.frame) s.same in
    let self : eqb q q ≡ true = eq-eqb q q refl in
    let some : placings q (work_left ingress own) ≡ 1 + placings q first.0 = ap (placings q) first.1
    ∙ ap (λ b. cond b 1 0 + placings q first.0) self in
    let part = placings-drop q (steps_since own) (work ingress t) in
    let left = ap (placings q) (left_of ingress own t last) in
    let planned : 1 ≤ placings q (work ingress t) = omega arith in
    record {
      frame = s.frame;
      earlier = s.earlier;
      later = Step p ∷ s.later;
      taken = ap (λ (x : List Event). Step p ∷ x) s.order;
      same = ap (copy_of ingress) s.same;
      foreign = ap (λ (x : Taking). x.local) (sym s.same) ∙ foreign;
      allowed = subst (λ (b : List (List Pair)). MayLeave start.limits b p s.frame q) published
          (subst (λ (f : List ℕ). MayLeave start.limits t.published p f q) frame
          ((may_leave returns steps start.limits p q t foreign
          (λ f force. s.sound.filters q f (ap (in_force q) (sym published) ∙ force))).0
          (allowed_placed ingress t q foreign planned)));
    }

-- so each copy on a lane is: one event adds at most one
pub copies_allowed : ReturnsLaw → StepsLaw → (start : Start) (p q : ℕ) (done : List Event) → AreEvents done
    → All (WasAllowed start done p q) (placed_after start p q done)
copies_allowed returns steps start p q [] events = All-nil (WasAllowed start [] p q)
copies_allowed returns steps start p q (e ∷ done) events = with_event e (copies_allowed returns steps start p q done events.1)
  where
    before : List FrameCopy
    before = placed_after start p q done

    none_more : (e : Event) → All (WasAllowed start done p q) before → (b : Bool) (x : PortEvent)
        → placed_by (ingress_of start.limits p) q x (history_of start p done) (length (waiting_after start p q done)) ≡ []
        → All (WasAllowed start (e ∷ done) p q)
        (lane_after (ingress_of start.limits p) q (cons_option (cond b (Some x) None) (history_of start p done))).placed
    none_more e ih false x none = All-weaker (WasAllowed start done p q) (WasAllowed start (e ∷ done) p q)
        (λ c. later_allowed start done p q e c) before ih
    none_more e ih true x none = All-append (WasAllowed start (e ∷ done) p q) before
        (placed_by (ingress_of start.limits p) q x (history_of start p done) (length (waiting_after start p q done)))
        (All-weaker (WasAllowed start done p q) (WasAllowed start (e ∷ done) p q) (λ c. later_allowed start done p q e c)
        before ih)
        (subst (λ (xs : List FrameCopy). All (WasAllowed start (e ∷ done) p q) xs) (sym none)
        (All-nil (WasAllowed start (e ∷ done) p q)))

    stepped : (r : ℕ) → All (WasAllowed start done p q) before → (b : Bool) → eqb p r ≡ b
        → All (WasAllowed start (Step r ∷ done) p q)
        (lane_after (ingress_of start.limits p) q (cons_option (cond b (Some step_made) None) (history_of start p done))).placed
    stepped r ih false is = All-weaker (WasAllowed start done p q) (WasAllowed start (Step r ∷ done) p q)
        (λ c. later_allowed start done p q (Step r) c) before ih
    stepped r ih true is =
        let w = work_left (ingress_of start.limits p) (history_of start p done) in
        let room = ltb (length (waiting_after start p q done)) start.limits.lane in
        All-append (WasAllowed start (Step r ∷ done) p q) before
        (placed_by (ingress_of start.limits p) q step_made (history_of start p done) (length (waiting_after start p q done)))
        (All-weaker (WasAllowed start done p q) (WasAllowed start (Step r ∷ done) p q)
        (λ c. later_allowed start done p q (Step r) c) before ih)
        (if_placed (WasAllowed start (Step r ∷ done) p q) (ingress_of start.limits p) (places_at q w && room)
        (last_taking (history_of start p done))
        (λ t b last. let parts = and_parts (places_at q w) room b in
        subst (λ n. WasAllowed start (Step n ∷ done) p q (copy_of (ingress_of start.limits p) t)) (eqb-true p r is)
        (allowed_now returns steps start p q done t events.1 last parts.0)))

    with_event : (e : Event) → All (WasAllowed start done p q) before
        → All (WasAllowed start (e ∷ done) p q) (placed_after start p q (e ∷ done))
    with_event (Publish batch) ih = none_more (Publish batch) ih true (batch_published batch) refl
    with_event (Take r frame) ih = none_more (Take r frame) ih (eqb p r) (frame_taken frame) refl
    with_event (Send to from) ih = none_more (Send to from) ih (eqb p from) (copy_asked to) refl
    with_event (Step r) ih = stepped r ih (eqb p r) refl
