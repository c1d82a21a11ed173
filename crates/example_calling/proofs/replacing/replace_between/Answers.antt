use Rattle.std.proofs.Common.{◌≡◌, ◌<◌, ◌∙◌, ◌++◌, List, length, map, take, drop, slice_set, ap, subst, sym, arith}
use mathlib.Core.List.{IsPrefix}
use Rattle.std.proofs.lemmas.List.{get_or-set_same, length-map, length-set, with_items_is}
use Rattle.j1939_gateway.specs.BoardEnds.{Publishing}
use Rattle.j1939_gateway.specs.Batches.{Pair}
use Rattle.j1939_gateway.specs.PortEnds.{Ingress, end_in, end_out}
use Rattle.j1939_gateway.proofs.Callers.{ends_in_stay}
use Rattle.j1939_gateway.proofs.Callers.{same_gateway}
use Rattle.example_calling.proofs.replacing.replace_between.Goals as goal

-- what was offered and taken out leaves the parts those of one gateway
pub close-requires : goal.close-requires
close-requires g c =
    let parts = c.in_ok-parts.parts in
    let made = c.in_ok-parts.ensures.made in
    let ins = parts.ins.items in
    let outs = parts.outs.items in
    let port = c.index_mut.result.now in
    let now = c.offer_around.new.port in
    let operator = c.offer_around.new.operator in
    let rest = c.take_out.new.outs in
    let published = c.in_ok-outcomes.ensures.published in
    let lent = c.deref_mut.ensures.value in
    let inside : 0 < length ins = let many = made.ends.enough_ins in omega arith in
    let size : length rest ≡ length outs =
    sym (length-map rest end_out) ∙ ap length c.take_out.ensures ∙ length-map _ end_out ∙ ap length lent in
    let after : take parts.outs.len (rest ++ drop (length rest) outs) ≡ rest =
    with_items_is parts.outs rest (size ∙ sym parts.outs.ok.0) in
    same_gateway parts.operator operator ins (slice_set ins 0 now) outs (take parts.outs.len (rest ++ drop (length rest) outs))
    made.one
    (ap (λ (o : Publishing). o.board) published, ap (λ (o : Publishing). o.ports) published)
    (ends_in_stay ins 0 port now inside (c.offer_around.ensures.end ∙ ap end_in c.index_mut.ensures.value))
    (ap (map end_out) after ∙ c.take_out.ensures ∙ ap (map end_out) lent)

pub returns-in-Ok-clause-replaced : goal.returns-in-Ok-clause-replaced
returns-in-Ok-clause-replaced g c =
    let made = c.in_ok-parts.ensures.made in
    let ins = c.in_ok-parts.parts.ins.items in
    let now = c.offer_around.new.port in
    let operator = c.offer_around.new.operator in
    let closed = c.in-Ok.ensures.closed in
    let published = ap (λ (o : Publishing). o.published) c.in_ok-outcomes.ensures.published in
    let inside : 0 < length ins = let many = made.ends.enough_ins in omega arith in
    let inside' : 0 < length (slice_set ins 0 now) = let same = length-set ins 0 now in omega arith in
    record {
      judged =
          c.in_ok-outcomes.ensures.judged
          (subst (λ (l : List (List Pair)). IsPrefix now.known l) published
          (subst (λ (i : Ingress). IsPrefix i.known operator.published) (get_or-set_same ins 0 now now inside)
          (closed.known 0 now inside')));
      published = closed.front_is ∙ ap length published;
      balances = closed.balances;
    }
