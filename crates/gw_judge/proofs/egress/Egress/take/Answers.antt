use Rattle.std.proofs.Common.{refl, sym, ◌∙◌}
use Rattle.gw_io.specs.Tries.{inner_of, has_failed}
use Rattle.gw_judge.proofs.EgressParts.{takes_open_part, takes_ended_part}
use Rattle.gw_judge.proofs.egress.Egress.take.Goals as goal

pub returns-then-not-ends_line-clause-taken : goal.returns-then-not-ends_line-clause-taken
returns-then-not-ends_line-clause-taken g c batches octets text stands h =
    let self = c.args.self.now in
    takes_open_part c.args.gateway.now.names.now batches octets c.args.part.now text
    (g.W.Write.contents (inner_of c.args.writer.now)) self
    (record { kept = c.keep.new.kept; gathered = self.gathered; claims = self.claims }) h c.requires.part
    (sym c.ends_line.ensures ∙ c.if-not-ends_line.true) c.keep.ensures refl refl

pub returns-clause-taken : goal.returns-clause-taken
returns-clause-taken g c batches octets text stands h =
    let after = c.put_kept-put.new.self in
    takes_ended_part c.put_kept-put.result c.args.gateway.now.names.now batches octets c.args.part.now text c.keep.new.kept.items
    (g.W.Write.contents (inner_of c.args.writer.now)) (g.W.Write.contents (inner_of c.put_kept-put.new.writer))
    (has_failed c.put_kept-put.new.writer) c.args.self.now
    (record { kept = c.clear.new.self; gathered = after.gathered; claims = after.claims }) h c.requires.part
    (sym c.ends_line.ensures ∙ c.if-not-ends_line.false) c.keep.ensures c.clear.ensures
    (λ lines hears. c.put_kept-put.ensures.heard lines hears)
    (λ lines hears. c.put_kept-put.ensures.put batches lines stands hears)
