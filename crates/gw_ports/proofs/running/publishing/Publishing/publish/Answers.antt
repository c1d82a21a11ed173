use Rattle.std.proofs.Common.{◌∙◌, ◌++◌, ◌∷◌, [], append_assoc, length, length-append, arith, ap, sym}
use Rattle.std.specs.Vec.Iter.{into_iter_items}
use Rattle.gw_ports.proofs.Runs.{more_batches, numbered_more, refused_next}
use Rattle.gw_ports.proofs.running.publishing.Publishing.publish.Goals as goal

pub loop-batch-preserved : goal.loop-batch-preserved
loop-batch-preserved g c =
    let at = c.loop-batch in
    let inv = at.invariant in
    let start = c.args.self.operator in
    let batch = c.in-Some.batch in
    let published = c.in-Ok.ensures.published in
    let new = c.replace-replaced.new.self in
    let more = c.push_reserved.ensures.len in
    let many = length-append at.yielded (batch ∷ []) in
    let now = more_batches start at.operator new at.yielded batch inv.1 published.0 in
    let front = published.1 ∙ ap (λ o. length o.published) now in
    let all = length-append start.published (at.yielded ++ batch ∷ []) in
    let count = at.fronts.ok.0 in
    let count' = c.push_reserved.new.self.ok.0 in
    let len = inv.2 in (
      append_assoc at.yielded (batch ∷ []) (into_iter_items c.next.new.self)
          ∙ ap (λ l. at.yielded ++ l) (sym c.in-Some.ensures.steps.0) ∙ inv.0,
      now,
      omega arith,
      (λ k below.
          numbered_more at.fronts.items c.push_reserved.new.self.items c.in-Ok.front (length start.published)
          c.push_reserved.ensures.items (omega arith) (λ j low. inv.3 j (omega arith)) k (omega arith)),
      c.push_reserved.ensures.capacity ∙ inv.4,
    )

pub returns-in-Err : goal.returns-in-Err
returns-in-Err g c =
    let at = c.loop-batch in
    let inv = at.invariant in
    let count = at.fronts.ok.0 in
    let len = inv.2 in
    record {
      same = (
        c.in-Err.ensures.board ∙ ap (λ o. o.board) inv.1,
        c.in-Err.ensures.ports ∙ ap (λ o. o.ports) inv.1,
      );
      numbered = λ k below. inv.3 k (omega arith);
      published =
          refused_next c.args.self.operator at.operator c.replace-replaced.new.self at.yielded (into_iter_items c.next.new.self)
          c.args.self.batches.items c.in-Some.batch c.in-Err.why (length at.fronts.items)
          (ap (λ l. at.yielded ++ l) (sym c.in-Some.ensures.steps.0) ∙ inv.0) (omega arith) inv.1 c.in-Err.ensures.published;
    }
