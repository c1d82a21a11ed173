-- A port's turn, as the code makes it. The code holds the worker in parts, and contracts speak of it whole: `seen` is the worker
-- of these parts and `v` the one that contracts speak of. They are the same, so what the ways through a step say of the one holds
-- of the other.
use Rattle.std.proofs.Common.{◌≡◌, ℕ, ◌<◌, List, Some, None, Ok, sym, ap, ◌∙◌, subst, refl, slice_index_or}
use Rattle.std.specs.Prelude.{slice_set}
use Rattle.std.specs.List.{All}
use Rattle.gw_policy.specs.Batches.{Pair}
use Rattle.gw_core.specs.LaneView.{LaneView}
use Rattle.gw_core.specs.PortHistory.{PortEvent}
use Rattle.gw_core.specs.declared.active.Active.{Active}
use Rattle.gw_core.specs.declared.active.Progress.{Progress}
use Rattle.gw_core.specs.declared.active.Progress.TheVariants.{Runs, Blocks, Places}
use Rattle.gw_core.specs.declared.event.Answer.{Answer}
use Rattle.gw_core.specs.declared.event.Answer.TheVariants.{Stepped}
use Rattle.gw_core.specs.Standing.{Worker, WorkerStands, HoldsCopy, CanAdvance, Advances, AnswersStep, has_room, lane_of}
use Rattle.gw_core.specs.Standing.{lane_with, active_placed, placing_answer, copy_from}
use Rattle.gw_core.proofs.StepPaths.{Instructed, CopyPlaced, step_runs, step_blocks, step_stays, step_waits, step_places}
use Rattle.gw_core.proofs.StepPaths.{copy_placed, part_placed, can_advance}
use Rattle.gw_core.proofs.Stand.{StepsLaw}

-- The frame of a turn: the worker of the parts is the one that contracts speak of, it stands after a history, and holds a frame.
pub record Turn (all : List (List Pair)) (seen v : Worker) (done : List PortEvent) (a : Active) : Type 0 where
  pub same : seen ≡ v
  pub stands : WorkerStands all seen done
  pub holds : seen.active ≡ Some a

-- it is had of any worker that stands, from its parts
pub turn : {all : List (List Pair)} {seen v : Worker} {done : List PortEvent} {a : Active}
    → seen ≡ v → WorkerStands all v done → seen.active ≡ Some a → Turn all seen v done a
turn {all} {seen} {v} {done} same s holds = record {
  same = same;
  stands = subst (λ (x : Worker). WorkerStands all x done) (sym same) s;
  holds = holds;
}

-- an instruction that leaves work at its port is the step
pub turn_runs : {all : List (List Pair)} {seen v : Worker} {done : List PortEvent} {a b : Active} {progress : Progress}
    → Turn all seen v done a → progress ≡ Runs → Instructed all seen a progress b
    → AnswersStep all v (Ok Stepped) (record seen { active = Some b }) done
turn_runs {all} {seen} {v} {done} {a} {b} t is made =
    subst (λ (x : Worker). AnswersStep all x (Ok Stepped) (record seen { active = Some b }) done) t.same
    (step_runs all seen done a b t.stands t.holds (subst (λ x. Instructed all seen a x b) is made))

-- one after which the policy blocks the frame leaves the worker as it was
pub turn_stays : {all : List (List Pair)} {seen v : Worker} {done : List PortEvent} {a b : Active} {progress : Progress}
    → Turn all seen v done a → progress ≡ Blocks → Instructed all seen a progress b → record seen { active = Some b } ≡ v
turn_stays {all} {seen} {v} {done} {a} {b} t is made =
    step_stays all seen done a b t.stands t.holds (subst (λ x. Instructed all seen a x b) is made) ∙ t.same

-- and the frame goes on from its port
pub turn_blocks : StepsLaw → (b : Active) → {all : List (List Pair)} {seen v v2 : Worker} {done : List PortEvent} {a : Active}
    {progress : Progress} {result : Answer}
    → Turn all seen v done a → progress ≡ Blocks → Instructed all seen a progress b
    → Advances (record seen { active = Some b }) b Stepped v2 result v2.active → AnswersStep all v (Ok result) v2 done
turn_blocks law b {all} {seen} {v} {v2} {done} {a} {progress} {result} t is made adv =
    subst (λ (x : Worker). AnswersStep all x (Ok result) v2 done) t.same
    (step_blocks law all seen (record seen { active = Some b }) v2 done a b result t.stands t.holds
    (subst (λ x. Instructed all seen a x b) is made) refl adv)

-- where a copy is to be placed, nothing was done yet, and the worker is as it was
pub turn_waits : {all : List (List Pair)} {seen v : Worker} {done : List PortEvent} {a b : Active} {progress : Progress}
    → Turn all seen v done a → progress ≡ Places → Instructed all seen a progress b
    → (record seen { active = Some b } ≡ v) × (b.running ≡ None)
turn_waits {all} {seen} {v} {done} {a} {b} t is made =
    let waits = step_waits all seen done a b t.stands t.holds (subst (λ x. Instructed all seen a x b) is made) in
    (waits.0 ∙ t.same, waits.1)

-- What placing a copy answered, and what it made of the lane that was lent to it.
pub record Placing (seen : Worker) (a a2 : Active) (answer : Answer) (to : ℕ) (lane lane2 : LaneView) : Type 0 where
  pub at : to ≡ a.port
  pub lent : lane ≡ slice_index_or seen.lanes to lane
  pub active : All (λ q. q < a.port) a.allowed → All (λ q. q < a.port) a.placed → a2 ≡ active_placed (has_room lane) a
  pub says : answer ≡ placing_answer (has_room lane) a.port
  pub writes : lane2 ≡ lane_with lane (copy_from seen.own a)

placed_in_turn : {all : List (List Pair)} {seen v : Worker} {done : List PortEvent} {a a2 : Active} {answer : Answer} {to : ℕ}
    {lane lane2 : LaneView}
    → Turn all seen v done a → Placing seen a a2 answer to lane lane2 → CopyPlaced seen a a2 answer to lane2
placed_in_turn {all} {seen} {v} {done} {a} {a2} {answer} {to} {lane} {lane2} t p =
    copy_placed all seen done a a2 answer to lane lane2 t.stands t.holds p.at p.lent p.active p.says p.writes

-- then the frame can go on from its port
pub turn_can_advance : {all : List (List Pair)} {seen v : Worker} {done : List PortEvent} {a a2 : Active} {answer : Answer}
    {to : ℕ} {lane lane2 : LaneView}
    → Turn all seen v done a → Placing seen a a2 answer to lane lane2
    → CanAdvance (record seen { active = Some a2; lanes = slice_set seen.lanes to lane2 }) (Some a2)
turn_can_advance {all} {seen} {v} {done} {a} {a2} {answer} {to} {lane} {lane2} t p =
    let placed = placed_in_turn t p in
    can_advance all seen (record seen { active = Some a2; lanes = slice_set seen.lanes to lane2 }) done a a2 t.stands t.holds refl
    refl (ap (λ (x : Active). x.port) placed.active)
    (part_placed all seen done a a2 (has_room (lane_of seen a.port)) t.stands t.holds placed.active)

-- and once it went on, the step is made
pub turn_places : StepsLaw → {all : List (List Pair)} {seen v v2 : Worker} {done : List PortEvent} {a a2 : Active}
    {answer result : Answer} {to : ℕ} {lane lane2 : LaneView}
    → Turn all seen v done a → HoldsCopy v.active → Placing seen a a2 answer to lane lane2
    → Advances (record seen { active = Some a2; lanes = slice_set seen.lanes to lane2 }) a2 answer v2 result v2.active
    → AnswersStep all v (Ok result) v2 done
turn_places law {all} {seen} {v} {v2} {done} {a} {a2} {answer} {result} {to} {lane} {lane2} t copy p adv =
    let placed = placed_in_turn t p in
    let idle : HoldsCopy (Some a) = subst HoldsCopy (sym (ap (λ (x : Worker). x.active) t.same) ∙ t.holds) copy in
    subst (λ (x : Worker). AnswersStep all x (Ok result) v2 done) t.same
    (step_places law all seen (record seen { active = Some a2; lanes = slice_set seen.lanes to lane2 }) v2 done a a2 answer result
    t.stands t.holds idle placed.active placed.answer
    (ap (λ (ls : List LaneView). record seen { lanes = ls; active = Some a2 }) placed.lanes) adv)
