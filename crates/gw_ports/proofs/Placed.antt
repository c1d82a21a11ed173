-- A run whose ports wait at full lanes loses no copy.
use Rattle.std.proofs.Common.{◌≡◌, ◌∙◌, ℕ, Bool, List, Option, IsTrue, map, ap, subst, sym, arith}
use Rattle.std.specs.List.{All}
use Rattle.std.proofs.lemmas.List.{get_or-map, length-map}
use Rattle.gw_ports.specs.Offers.{IsPlaced}
use Rattle.gw_ports.specs.Running.{Fed, Feeding, IsDone, Pairwise}
use Rattle.gw_ports.proofs.Elementwise.{pairwise_at, there}
use Rattle.gw_ports.proofs.Runs.{pairwise_length}

pub none_lost : {S : Type 0} (steps : S → Option (List ℕ) → S → Type 0) (feeds : List (Feeding S)) (done : List (Fed S))
    (waits : Bool) → Pairwise (IsDone steps) feeds done → All (λ (feed : Feeding S). feed.waits ≡ waits) feeds → IsTrue waits
    → All (All IsPlaced) (map (λ one. one.outcomes) done)
none_lost {S} steps feeds done waits pairs all wait k d below =
    let many = pairwise_length (IsDone steps) feeds done pairs in
    let size = length-map done (λ (one : Fed S). one.outcomes) in
    let feed = there feeds k (omega arith) in
    let one = there done k (omega arith) in
    let is = pairwise_at (IsDone steps) feeds done k feed.0 one.0 pairs (omega arith) feed.1 one.1 in
    let here = get_or-map (λ (one : Fed S). one.outcomes) done k one.0 d (omega arith)
    ∙ ap (λ (one : Fed S). one.outcomes) (one.1 one.0) in
    subst (All IsPlaced) (sym here)
    (is.all (ap (λ (f : Feeding S). f.waits) (sym (feed.1 feed.0)) ∙ all k feed.0 (omega arith) ∙ wait))
