use Rattle.std.proofs.Common.{◌≡◌, ℕ, ◌∙◌, ◌++◌, ◌∷◌, [], List, All, ap, arith, map, subst, sym}
use Rattle.std.proofs.lemmas.List.{map-append}
use Rattle.std.proofs.lemmas.List.Elements.{All-push}
use Rattle.gw_lanes.specs.Ends.{Inlet, Outlet, new_inlet, new_outlet}
use Rattle.gw_lanes.proofs.make.ends.Goals as goal

-- Without it the prover looks for this for a third of the crate's time.
pub loop-preserved : goal.loop-preserved
loop-preserved c =
    let from = c.in_ok-from.from in
    let lane = c.args.limits.lane in
    let before = c.loop.ins.items in
    let pushed : c.push.new.self.items ≡ before ++ from ∷ [] = c.in_ok-push.ensures.items in
    let longer = c.in_ok-push.ensures.len in
    let IsNew = λ (inlet : Inlet). inlet ≡ new_inlet inlet.ring lane in
    let with_room : (a b : ℕ) → from ≡ new_inlet from.ring a → a ≡ b → from ≡ new_inlet from.ring b =
    λ a b is same. is ∙ ap (λ room. new_inlet from.ring room) same in
    let is_new : from ≡ new_inlet from.ring lane = with_room _ lane c.in_ok-from.ensures.from (omega arith) in record {
      count = omega arith;
      new = subst (λ (list : List Inlet). All IsNew list) (sym pushed) (All-push IsNew before from c.loop.invariant.new is_new);
      paired = c.in_ok-push-2.ensures.items ∙ ap (λ (list : List Outlet). list ++ c.in_ok-from.to ∷ []) c.loop.invariant.paired
          ∙ ap (λ (outlet : Outlet). map new_outlet before ++ outlet ∷ []) c.in_ok-from.ensures.to
          ∙ sym (map-append new_outlet before (from ∷ [])) ∙ ap (λ (list : List Inlet). map new_outlet list) (sym pushed);
    }
