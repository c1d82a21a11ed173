-- What a run of a gateway tells.
use Rattle.std.specs.Prelude.{◌≡◌, ℕ, List, [], ◌∷◌, map, Option, All, Bool, IsTrue}
use Rattle.gw_board.specs.Ends.{Board, Publishing, new_operator}
use Rattle.gw_board.specs.Refusals.{MayPublish, PortsBelow}
use Rattle.gw_ledger.specs.Bounds.{Bounds}
use Rattle.gw_ledger.specs.declared.outcome.FrameCopy.{FrameCopy}
use Rattle.gw_ledger.specs.declared.outcome.Outcome.{Outcome}
use Rattle.gw_policy.specs.Batches.{Pair}
use Rattle.gw_ports.specs.Ends.{Ingress, Egress}
use Rattle.gw_ports.specs.Making.{AreNewEnds, AreOfOneGateway}
use Rattle.gw_ports.specs.Closing.{Closes}
use Rattle.gw_ports.specs.Offers.{IsPlaced}
use Rattle.gw_ports.specs.Running.{Drained, Fed, Feeding, HasTaken, IsDone, Pairwise, Publishes, with_batches}
use Rattle.gw_ports.specs.Refusals.{make_refusal_number}
use Rattle.gw_ports.specs.Reports.{IsReportOf, Ran}
use Rattle.gw_ports.specs.Sinks.{AllHanded}
use Rattle.gw_ports.specs.declared.running.RunEnd.{RunEnd}
use Rattle.gw_ports.specs.declared.running.RunRefusal.{RunRefusal}
use Rattle.gw_ports.specs.declared.running.RunRefusal.TheVariants.{NotMade, NoSuchPort, NotPublished, OutOfMemory, NoThread}
use Rattle.gw_ports.specs.declared.running.RunRefusal.TheVariants.{NoReading}

-- the parts of a new gateway of which the first batch is published, and known to each port
pub record IsOpened (limits : Bounds) (first : List Pair) (operator : Publishing) (ins : List Ingress) (outs : List Egress)
    : Type 0 where
  pub published : operator ≡ with_batches (new_operator operator.board limits) (first ∷ [])
  pub ends : AreNewEnds limits.ports limits.frames limits.lane ins outs
  pub known : All (λ ingress. (ingress.board ≡ operator.board) × (ingress.known ≡ first ∷ [])) ins
  pub one : AreOfOneGateway operator ins outs

-- what a run did: each port of a new gateway that knows the first batch offered the frames of its input, of which these are left,
-- and took copies out, while batches were published; then the gateway was closed
pub record IsRun {S : Type 0} (steps : S → Option (List ℕ) → S → Type 0) (limits : Bounds) (first : List Pair) (inputs : List S)
    (batches : List (List Pair)) (rests : List S) (ran : Ran) : Type 0 where
  pub operator : Publishing
  pub ins : List Ingress
  pub outs : List Egress
  pub opened : IsOpened limits first operator ins outs
  pub feeds : List (Feeding S)
  pub ports_are : map (λ feed. feed.port) feeds ≡ ins
  pub inputs_are : map (λ feed. feed.input) feeds ≡ inputs
  pub done : List (Fed S)
  pub offered : Pairwise (IsDone steps) feeds done
  pub rests_are : rests ≡ map (λ one. one.rest) done
  pub drained : List Drained
  pub took : Pairwise HasTaken outs drained
  pub closing : Publishing
  pub published : Publishes operator batches ran.fronts ran.refused closing
  pub outcomes_are : ran.outcomes ≡ map (λ one. one.outcomes) done
  pub stops_are : ran.stops ≡ map (λ one. one.stop) done
  pub out_is : ran.out ≡ map (λ one. one.copies) drained
  pub closed : Closes closing (map (λ one. one.port) done) (map (λ one. one.port) drained) ran.report

-- no copy of the run was lost
abbrev pub NoneLost : Ran → Type 0
NoneLost ran = All (All IsPlaced) ran.outcomes

-- what a run did whose sinks are these: by port it handed its outcomes to one, and the copies that were taken out to another
pub record IsRunWith {S O C : Type 0} (steps : S → Option (List ℕ) → S → Type 0) (takes_outcome : O → Outcome → O → Type 0)
    (takes_copy : C → FrameCopy → C → Type 0) (waits : Bool) (limits : Bounds) (first : List Pair) (inputs : List S)
    (outcomes : List O) (out : List C) (batches : List (List Pair)) (ended : RunEnd S O C) : Type 0 where
  pub ran : Ran
  pub outcomes_are : AllHanded takes_outcome outcomes ran.outcomes ended.outcomes.items
  pub out_is : AllHanded takes_copy out ran.out ended.out.items
  pub told : (ended.stops.items ≡ ran.stops) × (ended.fronts.items ≡ ran.fronts) × (ended.refused ≡ ran.refused)
      × (ended.report ≡ ran.report)
  pub is_run : IsRun steps limits first inputs batches ended.inputs.items ran
  pub reported : IsReportOf steps limits first inputs batches ended.inputs.items ran
  pub none_lost : IsTrue waits → NoneLost ran

-- why there was no run, or no report of one. Whether the first batch names a port that is not there is seen once the gateway is
-- made, and before all else. 82 is want of memory alone: nothing else stands against the batch at a new operator
abbrev pub RefusesRun : Bounds → List Pair → RunRefusal → Type 0
RefusesRun limits first (NotMade why) = Unit {0}
RefusesRun limits first NoSuchPort = ¬ PortsBelow limits.ports first
RefusesRun limits first NotPublished = (board : Board) × MayPublish (new_operator board limits) first
RefusesRun limits first OutOfMemory = PortsBelow limits.ports first
RefusesRun limits first NoThread = PortsBelow limits.ports first
RefusesRun limits first NoReading = PortsBelow limits.ports first

abbrev pub run_refusal_number : RunRefusal → ℕ
run_refusal_number (NotMade why) = make_refusal_number why
run_refusal_number NoSuchPort = 81
run_refusal_number NotPublished = 82
run_refusal_number OutOfMemory = 85
run_refusal_number NoThread = 86
run_refusal_number NoReading = 77
