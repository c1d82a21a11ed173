-- A frame that a worker took, judged for one port after another in one call.
use Rattle.std.proofs.Common.{◌≡◌, ◌≢◌, ℕ, zero, suc, ◌+◌, ◌-◌, ◌<◌, ◌≤◌, Bool, true, false, ltb, List, [], ◌∷◌, ◌++◌, length}
use Rattle.std.proofs.Common.{Option, Some, None, refl, sym, ap, subst, ◌∙◌, arith, replicate, ⊎_elim, slice_index_or}
use Rattle.std.proofs.Common.{get_or-set_same, get_or-set_other, length-set, append_assoc, length-append}
use Rattle.std.specs.Prelude.{slice_set, All}
use Rattle.std.proofs.lemmas.Bool.{cases_eq}
use Rattle.std.proofs.lemmas.List.{replicate-append-replicate, get_or_default}
use Rattle.gw_policy.specs.Filter.{Filter}
use Rattle.gw_policy.specs.Batches.{Pair, in_force, passes}
use Rattle.gw_ledger.specs.declared.outcome.FrameCopy.{FrameCopy}
use Rattle.gw_core.specs.LaneView.{LaneView}
use Rattle.gw_core.specs.Turns.{IsFound, index_in}
use Rattle.gw_core.specs.PortHistory.{PortEvent, step_made, frame_taken, Ingress, Taking, taking, Work, instruction, placing}
use Rattle.gw_core.specs.PortHistory.{placing_if}
use Rattle.gw_core.specs.PortHistory.{instructions_from, steps_at, is_allowed, work_for, work_from, work_left, waiting}
use Rattle.gw_core.specs.PortHistory.{last_taking}
use Rattle.gw_core.specs.PortHistory.{copy_of, batches, need_at}
use Rattle.gw_core.specs.Standing.{Worker, ingress, SoFar, has_room, lane_with, active_placed}
use Rattle.gw_core.specs.Forwarding.{port_forwarded, Judged, Judges, held_by}
use Rattle.gw_core.specs.declared.active.PairIndex.{PairIndex}
use Rattle.gw_core.specs.declared.judging.Judging.{Judging}
use Rattle.gw_core.specs.declared.active.Active.{Active}
use Rattle.gw_core.proofs.Histories.{left_over, one_less, placed_instruction, placed_elsewhere, placed_here, work_here}
use Rattle.gw_core.proofs.Histories.{work_skipped}
use Rattle.gw_core.proofs.Boundaries.{carried, stayed, blocked, placed_or_lost, allowed_skip}
use Rattle.gw_core.proofs.Needs.{length-work_for}
use Rattle.gw_core.proofs.Stand.{StepsLaw, some_steps}
use Rattle.gw_core.proofs.StepPaths.{all_allowed}

-- some instructions of the policy for a port were made
record Ran (p : Ingress) (t : Taking) (h : List PortEvent) (q : ℕ) (a : Active) (tail rest : List Work) (m : ℕ) : Type 0 where
  left : work_left p (replicate m step_made ++ h) ≡ (instructions_from p t q m ++ tail) ++ rest
  so_far : SoFar p t (replicate m step_made ++ h) q a
  waits : (r : ℕ) → waiting p r (replicate m step_made ++ h) ≡ waiting p r h

ran : (p : Ingress) (t : Taking) (h : List PortEvent) (q : ℕ) (a : Active) (tail rest : List Work)
    → work_left p h ≡ (instructions_from p t q 0 ++ tail) ++ rest → SoFar p t h q a
    → (m : ℕ) → m ≤ steps_at p t q → Ran p t h q a tail rest m
ran p t h q a tail rest left so zero le = record { left = left; so_far = so; waits = λ r. refl }
ran p t h q a tail rest left so (suc m) le =
    let r = ran p t h q a tail rest left so m (omega arith) in
    let here = replicate m step_made ++ h in
    let lt : m < steps_at p t q = omega arith in
    let next : work_left p here ≡ instruction q m ∷ ((instructions_from p t q (m + 1) ++ tail) ++ rest) =
    r.left ∙ one_less p t q m tail rest lt in
    let up : m + 1 ≡ suc m = omega arith in
    record {
      left = left_over p here (instruction q m) _ next ∙ ap (λ k. (instructions_from p t q k ++ tail) ++ rest) up;
      so_far = stayed p t here q a q m _ r.so_far next;
      waits = λ x. placed_instruction p x q m here _ next ∙ r.waits x;
    }

-- the last piece of a port was made: so many steps more, and what they leave
record Past (w : Worker) (t : Taking) (h : List PortEvent) (n : ℕ) (a : Active) (lanes : List LaneView) (more : ℕ) : Type 0 where
  left : work_left (ingress w) (replicate more step_made ++ h) ≡ work_from (ingress w) t (n + 1)
  so_far : SoFar (ingress w) t (replicate more step_made ++ h) (n + 1) a
  waits : (q : ℕ) → q < w.limits.ports → slice_index_or lanes q (record { room = 0; waiting = [] })
      ≡ record { room = w.limits.lane; waiting = waiting (ingress w) q (replicate more step_made ++ h) }
  need : more ≡ length (work_for (ingress w) t n)

-- steps after steps
steps_after : (m k : ℕ) (x : List PortEvent) → replicate m step_made ++ (replicate k step_made ++ x)
    ≡ replicate (m + k) step_made ++ x
steps_after m k x = sym (append_assoc (replicate m step_made) (replicate k step_made) x)
    ∙ ap (λ (s : List PortEvent). s ++ x) (replicate-append-replicate m k step_made)

-- so the frame is judged for one port more
past_is_judged : (all : List (List Pair)) (w : Worker) (indices : List (Option PairIndex)) (frame : List ℕ)
    (done : List PortEvent) (n more : ℕ) (a a2 : Judging) (lanes lanes2 : List LaneView)
    → (j : Judged all w indices frame done n a lanes) → n < w.limits.ports → n ≢ w.own
    → a2.copy.from ≡ a.copy.from → length lanes2 ≡ length lanes
    → Past w (taking frame done) (port_forwarded j.steps frame done) n (held_by a2) lanes2 more
    → Judged all w indices frame done (n + 1) a2 lanes2
past_is_judged all w indices frame done n more a a2 lanes lanes2 j within other source same past =
    let p = ingress w in
    let t = taking frame done in
    let h = steps_after more j.steps (frame_taken frame ∷ done) in
    let work : length (work_from p t n) ≡ length (work_for p t n) + length (work_from p t (n + 1)) =
    ap length (work_here p t n within other) ∙ length-append (work_for p t n) (work_from p t (n + 1)) in
    let count = j.count in
    let need = past.need in
    record {
      stands = j.stands;
      foreign = j.foreign;
      found = j.found;
      source = source ∙ j.source;
      steps = more + j.steps;
      count = omega (arith, count, work, need);
      left = ap (work_left p) (sym h) ∙ past.left;
      so_far = subst (λ (x : List PortEvent). SoFar p t x (n + 1) (held_by a2)) h past.so_far;
      many = same ∙ j.many;
      waits = λ q lt. past.waits q lt
          ∙ ap (λ (x : List PortEvent). record { room = w.limits.lane; waiting = waiting p q x }) h;
    }

-- the own port has no work
pub judged_skip : (all : List (List Pair)) (w : Worker) (indices : List (Option PairIndex)) (frame : List ℕ)
    (done : List PortEvent) (n : ℕ) (a : Judging) (lanes : List LaneView) → Judged all w indices frame done n a lanes
    → n < length lanes → n ≡ w.own → Judged all w indices frame done (n + 1) a lanes
judged_skip all w indices frame done n a lanes j fits same =
    let p = ingress w in
    let t = taking frame done in
    let within : n < w.limits.ports = let m = j.many in omega arith in
    let over = work_skipped p t n within same in
    record {
      stands = j.stands;
      foreign = j.foreign;
      found = j.found;
      source = j.source;
      steps = j.steps;
      count = ap (λ (x : List Work). j.steps + length x) (sym over) ∙ j.count;
      left = j.left ∙ over;
      so_far = carried p t _ (port_forwarded j.steps frame done) n (n + 1) (held_by a) 0 None (omega arith)
          (allowed_skip p t n j.foreign same) refl j.so_far;
      many = j.many;
      waits = j.waits;
    }

-- the lanes once one was written: the others are as they were
write_lane : (w : Worker) (h after : List PortEvent) (n : ℕ) (lanes : List LaneView) (lane2 : LaneView) → n < length lanes
    → ((q : ℕ) → q < w.limits.ports → slice_index_or lanes q (record { room = 0; waiting = [] })
    ≡ record { room = w.limits.lane; waiting = waiting (ingress w) q h })
    → lane2 ≡ record { room = w.limits.lane; waiting = waiting (ingress w) n after }
    → ((q : ℕ) → q ≢ n → waiting (ingress w) q after ≡ waiting (ingress w) q h)
    → (q : ℕ) → q < w.limits.ports → slice_index_or (slice_set lanes n lane2) q (record { room = 0; waiting = [] })
    ≡ record { room = w.limits.lane; waiting = waiting (ingress w) q after }
write_lane w h after n lanes lane2 fits were here elsewhere q lt = ⊎_elim
    (λ (same : q ≡ n). subst (λ x. slice_index_or (slice_set lanes n lane2) x (record { room = 0; waiting = [] })
    ≡ record { room = w.limits.lane; waiting = waiting (ingress w) x after }) (sym same)
    (get_or-set_same lanes n lane2 (record { room = 0; waiting = [] }) fits ∙ here))
    (λ (other : q ≡ n → ⊥). get_or-set_other lanes n q lane2 (record { room = 0; waiting = [] }) other ∙ were q lt
    ∙ ap (λ (x : List FrameCopy). record { room = w.limits.lane; waiting = x }) (sym (elsewhere q other)))
    (cases_eq q n)

-- steps take no frame
last_over : (m : ℕ) (x : List PortEvent) → last_taking (replicate m step_made ++ x) ≡ last_taking x
last_over zero x = refl
last_over (suc m) x = last_over m x

-- a frame judged for another port
pub judged_more : StepsLaw → (all : List (List Pair)) (w : Worker) (indices : List (Option PairIndex)) (frame : List ℕ)
    (done : List PortEvent) (n i : ℕ) (a a2 : Judging) (lanes : List LaneView) (lane lane2 : LaneView)
    → Judged all w indices frame done n a lanes → n < length lanes → n ≢ w.own → i ≡ n → lane ≡ slice_index_or lanes i lane
    → ((policy : Option Filter) → IsFound all (index_in indices n) policy → All (λ q. q < n) a.allowed
    → All (λ q. q < n) a.placed → Judges (passes policy a.copy.frame a.copy.from) n a lane a2 lane2)
    → Judged all w indices frame done (n + 1) a2 (slice_set lanes i lane2)
judged_more law all w indices frame done n i a a2 lanes lane lane2 j fits other at read judges =
    subst (λ x. Judged all w indices frame done (n + 1) a2 (slice_set lanes x lane2)) (sym at)
    (go (is_allowed (ingress w) (taking frame done) n) refl told)
  where
    p : Ingress
    p = ingress w

    t : Taking
    t = taking frame done

    h : List PortEvent
    h = port_forwarded j.steps frame done

    rest : List Work
    rest = work_from p t (n + 1)

    within : n < w.limits.ports
    within = let m = j.many in omega arith

    policy : Option Filter
    policy = in_force n (batches done)

    told : Judges (is_allowed p t n) n a lane a2 lane2
    told = subst (λ (f : List ℕ). Judges (passes policy f w.own) n a lane a2 lane2) j.so_far.frame
        (subst (λ from. Judges (passes policy a.copy.frame from) n a lane a2 lane2) j.source
        (judges policy (j.found n (let most = j.stands.limits.most_ports in omega arith))
        (subst (λ (x : List ℕ). All (λ q. q < n) x) (sym j.so_far.allowed) (all_allowed p t n)) j.so_far.below))

    is_lane : lane ≡ record { room = w.limits.lane; waiting = waiting p n h }
    is_lane = read ∙ ap (λ x. slice_index_or lanes x lane) at
        ∙ get_or_default lanes n lane (record { room = 0; waiting = [] }) fits ∙ j.waits n within

    left : work_left p h ≡ (instructions_from p t n 0 ++ placing_if (is_allowed p t n) n) ++ rest
    left = j.left ∙ work_here p t n within other

    pos : 1 ≤ steps_at p t n
    pos = some_steps law policy frame w.own (j.stands.sound.filters n)

    blocks_it : (k : ℕ) → steps_at p t n ≡ suc k → is_allowed p t n ≡ false → Judges false n a lane a2 lane2
        → Judged all w indices frame done (n + 1) a2 (slice_set lanes n lane2)
    blocks_it k count blocks does =
        let r = ran p t h n (held_by a) (placing_if (is_allowed p t n) n) rest left j.so_far k (omega arith) in
        let here = replicate k step_made ++ h in
        let lt : k < steps_at p t n = omega arith in
        let none : steps_at p t n - (k + 1) ≡ 0 = omega arith in
        let last : work_left p here ≡ instruction n k ∷ rest =
        r.left ∙ one_less p t n k (placing_if (is_allowed p t n) n) rest lt ∙ rw (none, blocks) in
        let same : (q : ℕ) → waiting p q (step_made ∷ here) ≡ waiting p q h =
        λ q. placed_instruction p q n k here rest last ∙ r.waits q in
        let need : need_at p t n ≡ steps_at p t n + 0 = rw blocks refl in
        let long = length-work_for p t n in
        past_is_judged all w indices frame done n (suc k) a a2 lanes (slice_set lanes n lane2) j within other
        (ap (λ (x : Judging). x.copy.from) does.0) (length-set lanes n lane2)
        (record {
          left = left_over p here (instruction n k) rest last;
          so_far = subst (λ (x : Judging). SoFar p t (step_made ∷ here) (n + 1) (held_by x)) (sym does.0)
              (blocked p t here n (held_by a) n k rest r.so_far other blocks last);
          waits = write_lane w h (step_made ∷ here) n lanes lane2 fits j.waits
              (does.1 ∙ is_lane ∙ ap (λ (x : List FrameCopy). record { room = w.limits.lane; waiting = x }) (sym (same n)))
              (λ q ne. same q);
          need = omega (arith, need, long, count);
        })

    passes_it : (m : ℕ) → m ≡ steps_at p t n → is_allowed p t n ≡ true → Judges true n a lane a2 lane2
        → Judged all w indices frame done (n + 1) a2 (slice_set lanes n lane2)
    passes_it m count allows does =
        let r = ran p t h n (held_by a) (placing_if (is_allowed p t n) n) rest left j.so_far m (omega arith) in
        let here = replicate m step_made ++ h in
        let none : steps_at p t n - m ≡ 0 = omega arith in
        let last : work_left p here ≡ placing n ∷ rest = r.left ∙ rw (none, allows) in
        let taken : last_taking here ≡ Some t = last_over m h ∙ last_over j.steps (frame_taken frame ∷ done) in
        let room : ltb (length (waiting p n here)) w.limits.lane ≡ has_room lane =
        ap (λ (x : List FrameCopy). ltb (length x) w.limits.lane) (r.waits n) ∙ sym (ap has_room is_lane) in
        let copy : a.copy ≡ copy_of p t =
        λ i. record { from = j.source i; number = j.so_far.number i; frame = j.so_far.frame i } in
        let lane_is : lane2 ≡ record { room = w.limits.lane; waiting = waiting p n (step_made ∷ here) } =
        does.1 ∙ ap (λ (l : LaneView). lane_with l a.copy) is_lane
        ∙ ap (λ (c : FrameCopy). lane_with (record { room = w.limits.lane; waiting = waiting p n h }) c) copy
        ∙ ap (λ (x : List FrameCopy). lane_with (record { room = w.limits.lane; waiting = x }) (copy_of p t)) (sym (r.waits n))
        ∙ ap (λ (x : List FrameCopy). record { room = w.limits.lane; waiting = x })
        (sym (placed_here p n here t rest _ taken last refl)) in
        let need : need_at p t n ≡ steps_at p t n + 1 = rw allows refl in
        let long = length-work_for p t n in
        past_is_judged all w indices frame done n (suc m) a a2 lanes (slice_set lanes n lane2) j within other
        (ap (λ (x : Judging). x.copy.from) does.0) (length-set lanes n lane2)
        (record {
          left = left_over p here (placing n) rest last;
          so_far = subst (λ (x : Judging). SoFar p t (step_made ∷ here) (n + 1) (held_by x)) (sym does.0)
              (carried p t (step_made ∷ here) (step_made ∷ here) (n + 1) (n + 1)
              (active_placed (has_room lane) (record (held_by a) { port = n })) 0 None (omega arith) refl refl
              (placed_or_lost p t here n (record (held_by a) { port = n }) rest (has_room lane)
              (carried p t here here n n (held_by a) n None (omega arith) refl refl r.so_far) refl other allows last room));
          waits = write_lane w h (step_made ∷ here) n lanes lane2 fits j.waits lane_is
              (λ q ne. placed_elsewhere p q n here rest ne last ∙ r.waits q);
          need = omega (arith, need, long, count);
        })

    go : (b : Bool) → is_allowed p t n ≡ b → Judges b n a lane a2 lane2
        → Judged all w indices frame done (n + 1) a2 (slice_set lanes n lane2)
    go false blocks does =
        let before : steps_at p t n ≡ suc (steps_at p t n - 1) = omega (arith, pos) in
        blocks_it (steps_at p t n - 1) before blocks does
    go true allows does = passes_it (steps_at p t n) refl allows does
