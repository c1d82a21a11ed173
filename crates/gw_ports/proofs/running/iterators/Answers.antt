use Rattle.std.proofs.Common.{◌≡◌, ◌∙◌, ◌∷◌, ℕ, [], List, Vec, Global, arith, ap, get_or, length, map, sym}
use Rattle.std.specs.Vec.Iter.{into_iter_items, into_iter_len}
use Rattle.std.specs.declared.vec.IntoIter.{IntoIter}
use Rattle.std.proofs.lemmas.List.{get_or_append_left, get_or_push}
use Rattle.gw_ports.proofs.Runs.{each_push, list_push}
use Rattle.gw_ports.proofs.running.iterators.Goals as goal

pub loop-list-preserved : goal.loop-list-preserved
loop-list-preserved c =
    let at = c.loop-list in
    let inv = at.invariant in
    let Lists : List (Vec (List ℕ) Global) → List (List (List ℕ)) = λ l. map (λ v. v.items) l in
    let old = at.inputs.items in
    let now = c.push-in-loop-list.new.self.items in
    let sizes = at.sizes.items in
    let sizes' = c.push.new.self.items in
    let size = c.len-in-loop-list.result in
    let new = c.into_iter.result in
    let rest = into_iter_items at.list-iterator in
    let rest' = into_iter_items c.next.new.self in
    let pushed = c.in_ok-push.ensures.items in
    let pushed' = c.in_ok-push-2.ensures.items in
    let step = c.in-Some.ensures.steps.0 in
    let one_less = ap length step in
    let more = c.in_ok-push.ensures.len in
    let more' = c.in_ok-push-2.ensures.len in
    let so_many = inv.1 in
    let as_many = inv.2 in
    let a = at.inputs.ok.0 in
    let b = at.sizes.ok.0 in (
      list_push into_iter_items old now new (Lists rest) (Lists rest') _ pushed'
          (ap Lists step ∙ ap (λ (x : List (List ℕ)). x ∷ Lists rest') (sym c.into_iter.ensures.rest)) inv.0,
      omega arith,
      omega arith,
      each_push (λ k (i : IntoIter (List ℕ) Global). into_iter_len i ≡ get_or sizes' k 0) old now new pushed'
          (λ k d below.
          inv.3 k d below
          ∙ sym (ap (λ (l : List ℕ). get_or l k 0) pushed ∙ get_or_append_left sizes (size ∷ []) 0 k (omega arith)))
          (c.into_iter.ensures.len ∙ sym c.len-in-loop-list.ensures
          ∙ sym (ap (λ (l : List ℕ). get_or l (length old) 0) pushed ∙ get_or_push sizes size 0 (length old) (omega arith))),
    )
