-- Each instruction that a step makes is one of accepted code, at which the machine stands safely.
use Rattle.std.proofs.Common.{◌≡◌, ◌≢◌, ℕ, suc, zero, ◌+◌, ◌-◌, ◌<◌, ◌≤◌, Bool, true, false, not, cond, eqb, List, [], ◌∷◌, ◌++◌}
use Rattle.std.proofs.Common.{length, drop, map, Option, Some, None, refl, sym, ap, subst, ◌∙◌, arith, ⊎_elim}
use Rattle.std.specs.Prelude.{MatchOption}
use Rattle.std.specs.List.{filter, flat_map, range_with_len}
use Rattle.std.proofs.lemmas.Bool.Decides.{nat_tests}
use Rattle.std.proofs.lemmas.Bool.{cases_eq}
use Rattle.gw_insn.specs.declared.insn.Insn.{Insn}
use Rattle.gw_verify.specs.Flow.{program_forms}
use Rattle.gw_verify.specs.Accepted.{IsAccepted}
use Rattle.gw_machine.specs.Machine.{Machine, Outcome, Goes, Ends}
use Rattle.gw_machine.specs.Answers.{answer_of, steps_of}
use Rattle.gw_machine.specs.Runs.{Reaches, at_start, after, IsStep, IsRunning, LoadsAreStored}
use Rattle.gw_policy.specs.Filter.{Filter, IsFilter}
use Rattle.gw_policy.specs.Batches.{Pair, in_force, steps}
use Rattle.gw_core.specs.Start.{Start}
use Rattle.gw_core.specs.PortHistory.{PortEvent, Ingress, ingress_of, Taking, Work, instruction, placing, placing_if}
use Rattle.gw_core.specs.PortHistory.{instructions_from, steps_at, is_allowed, work_for, work_from, work, work_left, last_taking}
use Rattle.gw_core.specs.PortHistory.{steps_since}
use Rattle.gw_core.specs.Events.{history_of, all_batches}
use Rattle.gw_core.specs.Safety.{RunsInside, MakesNext, IsSafeStep}
use Rattle.gw_core.specs.declared.event.Event.{Event}
use Rattle.gw_core.proofs.Stand.{StepsLaw}
use Rattle.gw_core.proofs.Targets.{ReturnsLaw}
use Rattle.gw_core.proofs.Gateways.{batches_of_port}
use Rattle.gw_core.proofs.Since.{AreEvents, since, newest_taken, left_of}

-- what accepted code says of its running machines
abbrev pub LoadsLaw : Type 0
LoadsLaw = (code : List Insn) (octets : List ℕ) (port : ℕ) → IsAccepted (program_forms code) → LoadsAreStored code octets port

abbrev pub PlacesLaw : Type 0
PlacesLaw = (code : List Insn) (octets : List ℕ) (port : ℕ) → IsAccepted (program_forms code) → (m : Machine)
    → IsRunning code octets port m → m.place < length code

-- a machine that n steps lead to, and what its next step leads to
pub record RunsOn (code : List Insn) (octets : List ℕ) (port n : ℕ) : Type 0 where
  pub machine : Machine
  pub reached : Reaches code octets port n machine
  pub out : Outcome
  pub steps : IsStep code octets port machine out

-- each machine on the way to one that has a step has one too
on_the_way : (code : List Insn) (octets : List ℕ) (port : ℕ) {b : ℕ} {m : Machine} (out : Outcome) → Reaches code octets port b m
    → IsStep code octets port m out
    → (n : ℕ) → n ≤ b → RunsOn code octets port n
on_the_way code octets port out at_start step n le =
    let here : n ≡ 0 = omega arith in
    subst (λ k. RunsOn code octets port k) (sym here) (record { machine = _; reached = at_start; out = out; steps = step })
on_the_way code octets port out (after {n = b} {m = m} {m' = m'} reached goes) step n le = ⊎_elim
    (λ (last : n ≡ suc b). subst (λ k. RunsOn code octets port k) (sym last)
    (record { machine = m'; reached = after reached goes; out = out; steps = step }))
    (λ (before : n ≢ suc b). on_the_way code octets port (Goes m') reached goes n (omega arith))
    (cases_eq n (suc b))

-- accepted code is at a safe instruction after each number of steps that is below its own
runs_inside : ReturnsLaw → StepsLaw → LoadsLaw → PlacesLaw → (code : List Insn) (frame : List ℕ) (p n : ℕ)
    → IsAccepted (program_forms code)
    → n < steps_of code frame p → RunsInside code frame p n
runs_inside returns few loads indices code frame p n ok lt =
    let answer = (returns code frame p (answer_of code frame p) (steps_of code frame p) ok).1 (refl, refl) in
    let before = answer.0 in
    let total : steps_of code frame p ≡ suc before = answer.4 in
    let way = on_the_way code frame p (Ends (answer_of code frame p)) answer.2 answer.3 n (omega arith) in
    let most = (few code frame p ok).1 in
    record {
      accepted = ok;
      machine = way.machine;
      reached = way.reached;
      inside = indices code frame p ok way.machine (n, way.reached);
      stored = λ insn word here loaded. loads code frame p ok way.machine insn word (n, way.reached) here loaded;
      out = way.out;
      steps = way.steps;
      within = omega arith;
    }

-- each instruction among the work is for another port of the gateway, and one of those that its policy makes
abbrev pub AreDue : Ingress → Taking → List Work → Type 0
AreDue ingress t [] = Unit {0}
AreDue ingress t (placing _ ∷ rest) = AreDue ingress t rest
AreDue ingress t (instruction q n ∷ rest) = ((q < ingress.ports) × (q ≢ ingress.own) × (n < steps_at ingress t q))
    × AreDue ingress t rest

-- work in two parts, and what is left of it
due-append : (ingress : Ingress) (t : Taking) (xs ys : List Work) → AreDue ingress t xs → AreDue ingress t ys
    → AreDue ingress t (xs ++ ys)
due-append ingress t [] ys a b = b
due-append ingress t (placing q ∷ xs) ys a b = due-append ingress t xs ys a b
due-append ingress t (instruction q n ∷ xs) ys a b = (a.0, due-append ingress t xs ys a.1 b)

due-drop : (ingress : Ingress) (t : Taking) (k : ℕ) (xs : List Work) → AreDue ingress t xs → AreDue ingress t (drop k xs)
due-drop ingress t zero xs a = a
due-drop ingress t (suc k) [] a = tt
due-drop ingress t (suc k) (placing q ∷ xs) a = due-drop ingress t k xs a
due-drop ingress t (suc k) (instruction q n ∷ xs) a = due-drop ingress t k xs a.1

-- the instructions for a port that is offered are due, and so are those of all ports
due_instructions : (ingress : Ingress) (t : Taking) (q : ℕ) → q < ingress.ports → q ≢ ingress.own → (n k : ℕ)
    → n + k ≤ steps_at ingress t q
    → AreDue ingress t (map (instruction q) (range_with_len n k))
due_instructions ingress t q there other n zero le = tt
due_instructions ingress t q there other n (suc k) le =
    ((there, other, omega arith), due_instructions ingress t q there other (n + 1) k (omega arith))

due_for : (ingress : Ingress) (t : Taking) (q : ℕ) → q < ingress.ports → q ≢ ingress.own → AreDue ingress t (work_for ingress t q)
due_for ingress t q there other = due-append ingress t (instructions_from ingress t q 0) (placing_if (is_allowed ingress t q) q)
    (due_instructions ingress t q there other 0 (steps_at ingress t q - 0) (omega arith)) (go (is_allowed ingress t q))
  where
    go : (b : Bool) → AreDue ingress t (placing_if b q)
    go true = tt
    go false = tt

due_range : (ingress : Ingress) (t : Taking) (from n : ℕ) → from + n ≤ ingress.ports
    → AreDue ingress t (flat_map (work_for ingress t) (filter (λ r. not (eqb r ingress.own)) (range_with_len from n)))
due_range ingress t from zero le = tt
due_range ingress t from (suc n) le = go (eqb from ingress.own) refl (due_range ingress t (from + 1) n (omega arith))
  where
    offered : List ℕ
    offered = filter (λ r. not (eqb r ingress.own)) (range_with_len (from + 1) n)

    go : (b : Bool) → eqb from ingress.own ≡ b → AreDue ingress t (flat_map (work_for ingress t) offered)
        → AreDue ingress t (flat_map (work_for ingress t) (cond (not b) (from ∷ offered) offered))
    go true is h = h
    go false is h =
        let other : from ≢ ingress.own = grind (arith, nat_tests) in
        due-append ingress t (work_for ingress t from) (flat_map (work_for ingress t) offered)
        (due_for ingress t from (omega arith) other) h

-- so is what is left of the last frame's work
due_left : (ingress : Ingress) (own : List PortEvent) (t : Taking) → last_taking own ≡ Some t
    → AreDue ingress t (work_left ingress own)
due_left ingress own t e = subst (AreDue ingress t) (sym (left_of ingress own t e))
    (due-drop ingress t (steps_since own) (work ingress t) (whole t.local))
  where
    whole : (b : Bool) → AreDue ingress t (cond b [] (work_from ingress t 0))
    whole true = tt
    whole false = due_range ingress t 0 (ingress.ports - 0) (omega arith)

-- the frame that has work was taken
taken_of : (ingress : Ingress) (own : List PortEvent) (piece : Work) (rest : List Work) → work_left ingress own ≡ piece ∷ rest
    → (t : Taking) × (last_taking own ≡ Some t)
taken_of ingress own piece rest left = go (last_taking own) refl
  where
    none : last_taking own ≡ None → work_left ingress own ≡ []
    none e = rw e refl

    go : (o : Option Taking) → last_taking own ≡ o → (t : Taking) × (last_taking own ≡ Some t)
    go None e = let empty = none e in let never : [] ≡ piece ∷ rest = sym empty ∙ left in cc
    go (Some t) e = (t, e)

-- an instruction that is made next is a safe step
pub safe_step : ReturnsLaw → StepsLaw → LoadsLaw → PlacesLaw → (start : Start) (done : List Event) (p q n : ℕ) → AreEvents done
    → MakesNext start done p q n
    → IsSafeStep start done p q n
safe_step returns few loads indices start done p q n events next =
    let ingress = ingress_of start.limits p in
    let own = history_of start p done in
    let taken = taken_of ingress own (instruction q n) next.0 next.1 in
    let t = taken.0 in
    let s = since start p done t events taken.1 in
    let due : AreDue ingress t (instruction q n ∷ next.0) = subst (AreDue ingress t) next.1 (due_left ingress own t taken.1) in
    let published : t.published ≡ all_batches s.earlier = ap (λ (x : Taking). x.published) s.same
    ∙ batches_of_port p start s.earlier in
    let frame : t.frame ≡ s.frame = ap (λ (x : Taking). x.frame) s.same in
    let fewer : n < steps (in_force q (all_batches s.earlier)) s.frame p =
    subst (λ (b : List (List Pair)). n < steps (in_force q b) s.frame p) published
    (subst (λ (f : List ℕ). n < steps (in_force q t.published) f p) frame due.0.2) in
    record {
      frame = s.frame;
      earlier = s.earlier;
      later = s.later;
      taken = s.order;
      newest = newest_taken start p done t s taken.1;
      there = due.0.0;
      other = due.0.1;
      few = fewer;
      runs = by_policy s.frame (in_force q (all_batches s.earlier)) (λ f force. s.sound.filters q f force) fewer;
    }
  where
    by_policy : (frame : List ℕ) (policy : Option Filter) → ((f : Filter) → policy ≡ Some f → IsFilter f)
        → n < steps policy frame p
        → MatchOption policy (n ≡ 0) (λ filter. RunsInside filter.code frame p n)
    by_policy frame None sound lt = omega arith
    by_policy frame (Some filter) sound lt = runs_inside returns few loads indices filter.code frame p n
        (sound filter refl).accepted lt
