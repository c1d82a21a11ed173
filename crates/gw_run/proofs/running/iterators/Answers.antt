use Rattle.std.proofs.Common.{◌∙◌, ◌∷◌, ℕ, List, Vec, Global, arith, ap, length, map, sym}
use Rattle.std.specs.Vec.Iter.{into_iter_items}
use Rattle.gw_ports.proofs.Callers.{list_push}
use Rattle.gw_run.proofs.running.iterators.Goals as goal

pub loop-list-preserved : goal.loop-list-preserved
loop-list-preserved c =
    let at = c.loop-list in
    let Lists : List (Vec (List ℕ) Global) → List (List (List ℕ)) = λ l. map (λ v. v.items) l in
    let rest = into_iter_items at.list-iterator in
    let rest' = into_iter_items c.next.new.self in
    let step = c.in-Some.ensures.steps.0 in
    let one_less = ap length step in
    let more = c.in_ok-push.ensures.len in
    let so_many = at.invariant.1 in
    let size = at.inputs.ok.0 in (
      list_push into_iter_items at.inputs.items c.push.new.self.items c.into_iter.result (Lists rest) (Lists rest') _
          c.in_ok-push.ensures.items
          (ap Lists step ∙ ap (λ (x : List (List ℕ)). x ∷ Lists rest') (sym c.into_iter.ensures.rest)) at.invariant.0,
      omega arith,
    )
