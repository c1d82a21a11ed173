use Rattle.std.proofs.Common.{◌∙◌, ◌++◌, List, ap, sym}
use Rattle.rtrb.specs.Ring.{known_items, received, sent}
use Rattle.gw_run.specs.Dealt.{Dealt, Putting, Taken}
use Rattle.gw_run.proofs.Batches.{compared}
use Rattle.gw_run.proofs.dealt.DealtOut.compare.Goals as goal

pub returns-clause-front : goal.returns-clause-front
returns-clause-front g c =
    let ends = c.slots_beside in
    let all =
    compared c.args.self.now.items (received c.self.inside.ring) c.self.inside.batch (known_items ends.new.self)
    (sent c.other.inside.ring) c.other.inside.batch.items c.self.invariant.0 (ap (λ (t : Taken). t.items) c.self.view_is)
    (ap (λ (l : List Dealt). l ++ known_items ends.new.self) (sym ends.ensures.looked.1) ∙ ends.ensures.fifo
    ∙ ends.ensures.producer.1) in
    (all.0, all.1 ∙ ap (λ (p : Putting). p.put) c.other.view_is)
