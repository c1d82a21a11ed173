use Rattle.std.proofs.Common.{◌∙◌, ◌++◌, ◌∷◌, [], ap, append_assoc, List, ℕ, subst, sym}
use Rattle.std.specs.Vec.Iter.{into_iter_items}
use Rattle.gw_run.specs.Dealing.{IsDealt}
use Rattle.gw_run.proofs.DealtShares.{rings_on}
use Rattle.gw_run.proofs.dealing.Dealer.deal_all.Goals as goal

pub loop-frame-preserved : goal.loop-frame-preserved
loop-frame-preserved g c = record {
  turn = c.deal.ensures.turn;
  rings = rings_on _ _ _ c.loop-frame.invariant.rings c.deal.ensures.rings;
  dealt = λ given is.
      let so_far = c.loop-frame.invariant.dealt given is in
      let frame = c.in-Some.frame in (
        so_far.0 ++ frame ∷ [],
        append_assoc so_far.0 (frame ∷ []) (into_iter_items c.next.new.self)
            ∙ ap (λ (l : List (List ℕ)). so_far.0 ++ l) (sym c.in-Some.ensures.steps.0) ∙ so_far.1,
        subst (λ (l : List (List ℕ)). IsDealt l c.deal.new.self) (append_assoc given so_far.0 (frame ∷ []))
            (c.deal.ensures.dealt (given ++ so_far.0) so_far.2),
      );
}
