use Rattle.std.proofs.Common.{◌≡◌, length, sym, ◌∙◌, rules}
use Rattle.std.proofs.lemmas.Result.{err_from_is_err_and}
use Rattle.gw_io.specs.Tries.{inner_of, has_failed}
use Rattle.gw_judge.proofs.PartByPart.{some_octets}
use Rattle.gw_judge.proofs.EgressParts.{ends_without, ends_flushed, ends_failed}
use Rattle.gw_judge.proofs.egress.Egress.end.Goals as goal

pub returns-then-is_empty-clause-ended : goal.returns-then-is_empty-clause-ended
returns-then-is_empty-clause-ended g c batches octets text stands h =
    let empty : length c.args.self.kept.items ≡ 0 = search rules in
    ends_without c.flush.result c.args.gateway.now.names.now batches octets text c.flush.new.self.held.items
    (g.W.Write.contents (inner_of c.args.writer.now)) (g.W.Write.contents (inner_of c.flush.new.writer))
    (has_failed c.flush.new.writer) c.args.self h empty c.flush.ensures.written c.flush.ensures.empty

pub returns-in_err-put_kept-clause-ended : goal.returns-in_err-put_kept-clause-ended
returns-in_err-put_kept-clause-ended g c batches octets text stands h =
    let fault = err_from_is_err_and c.from_residual.result c.from_residual.ensures.1 in
    let some = some_octets c.args.self.kept.items (sym c.is_empty.ensures ∙ c.if-is_empty.false) in
    rw (fault.1, fault.2) (ends_failed c.put_kept.result c.in_err-put_kept.field-0.0 c.args.gateway.now.names.now batches octets
    text c.put_kept.new.self.gathered.held.items (g.W.Write.contents (inner_of c.args.writer.now))
    (g.W.Write.contents (inner_of c.put_kept.new.writer)) (has_failed c.put_kept.new.writer) c.args.self h some
    c.in_err-put_kept.was (c.put_kept.ensures.put batches h.lines stands h.heard))

pub returns-clause-ended : goal.returns-clause-ended
returns-clause-ended g c batches octets text stands h =
    let some = some_octets c.args.self.kept.items (sym c.is_empty.ensures ∙ c.if-is_empty.false) in
    ends_flushed c.flush-2.result c.in_ok-put_kept.field-0 c.args.gateway.now.names.now batches octets text
    c.put_kept.new.self.gathered.held.items c.flush-2.new.self.held.items (g.W.Write.contents (inner_of c.args.writer.now))
    (g.W.Write.contents (inner_of c.put_kept.new.writer)) (g.W.Write.contents (inner_of c.flush-2.new.writer))
    (has_failed c.put_kept.new.writer) (has_failed c.flush-2.new.writer) c.args.self h some
    (c.in_ok-put_kept.ensures.put batches h.lines stands h.heard) c.flush-2.ensures.written c.flush-2.ensures.empty
