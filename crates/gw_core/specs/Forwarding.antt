-- What becomes of a frame that is taken and makes all of its steps in one call. A history has the newest event first.
use Rattle.std.specs.Prelude.{◌≡◌, ℕ, zero, suc, ◌<◌, true, false, List, [], ◌∷◌, ◌++◌, replicate, length}
use Rattle.std.specs.Prelude.{Bool, ◌+◌, slice_index_or, if◌then◌else◌, Option, Some, None, Result, Ok, Err}
use Rattle.gw_policy.specs.Batches.{Pair}
use Rattle.gw_ledger.specs.declared.outcome.Outcome.{Outcome}
use Rattle.gw_core.specs.Start.{Start, Heard, begun}
use Rattle.gw_core.specs.PortHistory.{PortEvent, frame_taken, step_made, batches, Ingress, ingress_of, is_unfinished}
use Rattle.gw_core.specs.Events.{history_of, accepted, reply, take_refusal, take_answer, step_answer}
use Rattle.gw_core.specs.Standing.{Worker, WorkerStands, AreFound, AnswersTake, ingress}
use Rattle.gw_core.specs.Gateway.{Gateway, Stands}
use Rattle.gw_claims.specs.Claims.{is_local}
use Rattle.gw_claims.specs.Holders.{HoldsAfter}
use Rattle.gw_core.specs.LaneView.{LaneView}
use Rattle.gw_core.specs.PortHistory.{ever_heard, taking, work_from, work_left, waiting}
use Rattle.gw_core.specs.Standing.{SoFar, has_room, lane_with}
use Rattle.gw_core.specs.declared.active.Active.{Active}
use Rattle.gw_core.specs.declared.judging.Judging.{Judging}
use Rattle.gw_core.specs.Headline.{WasForwarded}
use Rattle.gw_core.specs.declared.active.PairIndex.{PairIndex}
use Rattle.gw_core.specs.declared.event.Event.{Event}
use Rattle.gw_core.specs.declared.event.Event.TheVariants.{Take, Step}
use Rattle.gw_core.specs.declared.event.Answer.TheVariants.{Taken, Finished}
use Rattle.gw_core.specs.declared.event.EventRefusal.{EventRefusal}

-- a history once a frame was taken at a port, and so many steps were made there
abbrev pub forwarded : ℕ → ℕ → List ℕ → List Event → List Event
forwarded n p frame history = replicate n (Step p) ++ Take p frame ∷ history

-- the last of so many steps tells what became of the frame; a frame that needs none is local, and goes nowhere
abbrev pub LastTells : Start → List Event → ℕ → List ℕ → ℕ → Outcome → Type 0
LastTells start history p frame zero o = (o.local ≡ true) × (o.allowed ≡ []) × (o.placed ≡ [])
LastTells start history p frame (suc n) o = reply start (forwarded n p frame history) (Step p) ≡ Ok (Finished o)

-- A frame is taken at a port after a history, and makes so many steps, which are accepted: as many as it needs and no more, since
-- it is unfinished before each of them and finished after them. The taking and the last step tell its outcome.
pub record IsForwarded (start : Start) (history : List Event) (p : ℕ) (frame : List ℕ) (n : ℕ) (o : Outcome) : Type 0 where
  pub taken : reply start history (Take p frame) ≡ Ok (Taken o.number o.front o.local)
  pub events : accepted start (forwarded n p frame history) ≡ forwarded n p frame (accepted start history)
  pub unfinished : (k : ℕ) → k < n
      → is_unfinished (ingress_of start.limits p) (history_of start p (forwarded k p frame (accepted start history))) ≡ true
  pub finished : is_unfinished (ingress_of start.limits p) (history_of start p (forwarded n p frame (accepted start history)))
      ≡ false
  pub told : LastTells start history p frame n o

-- a frame that may not be taken after a history is refused as its taking is; another makes all of its steps
abbrev pub CoreForwards : Gateway → Heard → List Event → ℕ → List ℕ → Result Outcome EventRefusal → Gateway → Type 0
CoreForwards old known history p frame (Err why) new = reply (begun old.limits known) history (Take p frame) ≡ Err why
CoreForwards old known history p frame (Ok o) new =
    (n : ℕ) × IsForwarded (begun old.limits known) history p frame n o × Stands new known (forwarded n p frame history)

-- a frame that is not local was forwarded by its last step
abbrev pub ForwardsFrame : Start → List Event → ℕ → List ℕ → Outcome → Type 0
ForwardsFrame start history p frame o =
    o.local ≡ false → (n : ℕ) × WasForwarded start (forwarded n p frame (accepted start history)) p o

-- the same of one port: its history once it took a frame and made so many steps
abbrev pub port_forwarded : ℕ → List ℕ → List PortEvent → List PortEvent
port_forwarded n frame done = replicate n step_made ++ frame_taken frame ∷ done

abbrev pub LastAnswers : Ingress → List PortEvent → List ℕ → ℕ → Outcome → Type 0
LastAnswers ingress done frame zero o = (o.local ≡ true) × (o.allowed ≡ []) × (o.placed ≡ [])
LastAnswers ingress done frame (suc n) o = step_answer ingress (port_forwarded n frame done) ≡ Finished o

pub record PortForwards (ingress : Ingress) (done : List PortEvent) (frame : List ℕ) (n : ℕ) (o : Outcome) : Type 0 where
  pub taken : take_answer done frame ≡ Taken o.number o.front o.local
  pub unfinished : (k : ℕ) → k < n → is_unfinished ingress (port_forwarded k frame done) ≡ true
  pub finished : is_unfinished ingress (port_forwarded n frame done) ≡ false
  pub told : LastAnswers ingress done frame n o

-- what a worker makes of a frame in one call, after a history of its port
abbrev pub AnswersForward : List (List Pair) → Worker → Result Outcome EventRefusal → Worker → List PortEvent → List ℕ → Type 0
AnswersForward all old (Err why) new done frame = (take_refusal old.limits (ingress old) done ≡ Some why) × (new ≡ old)
AnswersForward all old (Ok o) new done frame =
    (take_refusal old.limits (ingress old) done ≡ None)
    × ((n : ℕ) × PortForwards (ingress old) done frame n o × WorkerStands all new (port_forwarded n frame done))

-- some history leads to the worker, after which the policies in force are found where the indices say, and so many batches are
-- published
pub record CanForward (all : List (List Pair)) (w : Worker) (indices : List (Option PairIndex)) (front : ℕ) : Type 0 where
  pub done : List PortEvent
  pub stands : WorkerStands all w done
  pub found : AreFound all indices (batches done)
  pub published : front ≡ length (batches done)

-- a foreign frame was heard and counted, and is not finished
pub record HeardForeign (old new : Worker) (done : List PortEvent) (frame : List ℕ) : Type 0 where
  pub idle : old.active ≡ None
  pub more : old.taken < old.limits.frames
  pub foreign : is_local (ever_heard done) frame ≡ false
  pub claims : HoldsAfter new.claims (frame ∷ ever_heard done)
  pub becomes : new ≡ record old { claims = new.claims; taken = old.taken + 1 }

-- a worker refuses a frame as its taking is refused, or tells whether the frame is local; a local one is taken and finished
abbrev pub Admits : List (List Pair) → Worker → Result Bool EventRefusal → Worker → List PortEvent → List ℕ → ℕ → Type 0
Admits all old (Err why) new done frame front = AnswersTake all old (Err why) new done frame
Admits all old (Ok true) new done frame front = AnswersTake all old (Ok (Taken old.taken front true)) new done frame
Admits all old (Ok false) new done frame front = HeardForeign old new done frame

-- a frame that is judged in one call, as the worker would hold it that makes one step after another
abbrev pub held_by : Judging → Active
held_by j = record {
  frame = j.copy.frame;
  number = j.copy.number;
  front = j.front;
  indices = [];
  allowed = j.allowed;
  placed = j.placed;
  port = 0;
  running = None;
}

-- A worker heard a foreign frame, which was judged for the ports below one in one call: so many steps were made for it, those of
-- the work for these ports, and lanes hold what these steps placed.
pub record Judged (all : List (List Pair)) (w : Worker) (indices : List (Option PairIndex)) (frame : List ℕ)
    (done : List PortEvent) (port : ℕ) (j : Judging) (lanes : List LaneView) : Type 0 where
  pub stands : WorkerStands all w done
  pub foreign : is_local (ever_heard done) frame ≡ false
  pub found : AreFound all indices (batches done)
  pub source : j.copy.from ≡ w.own
  pub steps : ℕ
  pub count : steps + length (work_from (ingress w) (taking frame done) port)
      ≡ length (work_from (ingress w) (taking frame done) 0)
  pub left : work_left (ingress w) (port_forwarded steps frame done) ≡ work_from (ingress w) (taking frame done) port
  pub so_far : SoFar (ingress w) (taking frame done) (port_forwarded steps frame done) port (held_by j)
  pub many : length lanes ≡ w.limits.ports
  pub waits : (q : ℕ) → q < w.limits.ports → slice_index_or lanes q (record { room = 0; waiting = [] })
      ≡ record { room = w.limits.lane; waiting = waiting (ingress w) q (port_forwarded steps frame done) }

-- the frame once its copy for a port was placed or lost
abbrev pub judging_placed : Bool → ℕ → Judging → Judging
judging_placed room port j =
    record j { allowed = j.allowed ++ port ∷ []; placed = (if room then j.placed ++ port ∷ [] else j.placed) }

-- what becomes of a frame that a policy passes or blocks, and of the lane to its port
abbrev pub Judges : Bool → ℕ → Judging → LaneView → Judging → LaneView → Type 0
Judges true port old lane new after = (new ≡ judging_placed (has_room lane) port old) × (after ≡ lane_with lane old.copy)
Judges false port old lane new after = (new ≡ old) × (after ≡ lane)
