-- The outcomes of a frame that is offered before and after a replacement.
use Rattle.std.proofs.Common.{◌∙◌, ℕ, List, [], ◌∷◌, ap, arith}
use mathlib.Core.List.{IsPrefix}
use Rattle.j1939_gateway.proofs.Callers.{prefix_length, prefix_trans}
use Rattle.j1939_gateway.specs.InLedger.{InLedger}
use Rattle.j1939_gateway.specs.Outcome.{Outcome}
use Rattle.j1939_gateway.specs.Batches.{Pair}
use Rattle.j1939_gateway.specs.PortEnds.{Ingress}
use Rattle.j1939_gateway.specs.Making.{IsNewIngress}
use Rattle.j1939_gateway.proofs.Callers.{judged_one}
use Rattle.example_calling.specs.Replacing.{bounds, told_of, AreOutcomes, TakesTold}

-- both outcomes of a frame that port 0 of a new gateway took twice, told of the first batch and then of both
pub judged_around : (first second : List Pair) (octets : List ℕ) (before after : Outcome) (port middle last : Ingress)
    → IsNewIngress bounds.ports bounds.frames bounds.lane 0 port → TakesTold (first ∷ []) [] port octets before middle
    → TakesTold (first ∷ second ∷ []) (octets ∷ []) middle octets after last
    → IsPrefix last.known (first ∷ second ∷ []) → AreOutcomes first second octets before after
judged_around first second octets before after port middle last new took again begins =
    let both = first ∷ second ∷ [] in
    let told = told_of (first ∷ []) port in
    let told' = told_of both middle in
    let one = prefix_length (first ∷ []) told.known took.told in
    let two = prefix_length both told'.known again.told in
    let grows = prefix_length told'.known last.known again.offered.later in
    let most = prefix_length last.known both begins in
    let front = again.offered.front in
    let none = ap (λ (l : InLedger). l.taken) new.ledger in
    let counted = ap (λ (l : InLedger). l.taken) took.offered.ledger in
    record {
      earlier =
          judged_one bounds.ports 0 both [] told octets before middle
          (record { own = new.number; lanes = new.lanes.0; number = none; knows = omega arith }) took.offered
          (prefix_trans middle.known last.known both
          (prefix_trans middle.known told'.known last.known again.kept again.offered.later) begins);
      later =
          judged_one bounds.ports 0 both (octets ∷ []) told' octets after last
          (record {
            own = took.offered.same.0 ∙ new.number;
            lanes = took.offered.placed.size ∙ new.lanes.0;
            number = omega arith;
            knows = omega arith;
          })
          again.offered begins;
      newest = omega arith;
    }
