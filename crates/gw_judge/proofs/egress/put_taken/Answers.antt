use Rattle.std.proofs.Common.{ℕ, List, Ok, sym, subst, ◌∙◌}
use Rattle.gw_io.specs.Tries.{inner_of, has_failed}
use Rattle.gw_judge.specs.Egress.{heard_at}
use Rattle.gw_judge.specs.UnderWay.{Puts}
use Rattle.gw_judge.proofs.PutInOrder.{none_put}
use Rattle.gw_judge.proofs.EgressLines.{local_lines, allowed_lines, heard_there, local_there}
use Rattle.gw_judge.proofs.egress.put_taken.Goals as goal

pub returns-then-local-clause-put : goal.returns-then-local-clause-put
returns-then-local-clause-put g c batches lines stands hears =
    let names = c.args.gateway.now.names.now in
    let said = c.args.said.now in
    let old = g.W.Write.contents (inner_of c.args.writer.now) in
    let held : List ℕ = c.args.gathered.now.held.items in
    let failed = has_failed c.args.writer.now in
    let local = local_there c.args.claims.now (heard_at names lines) c.args.ingress c.from.result said.octets c.frame.result.now
    c.index-claims-from.result c.is_local-local.result c.from.ensures c.frame.ensures c.requires.ingress hears
    c.is_local-local.ensures.heard ∙ c.if-local.true in
    subst (λ (text : List ℕ). Puts {A = Unit {0}} old old failed held text (Ok tt) held)
    (sym (local_lines names batches lines said c.args.ingress local)) (none_put (tt {0}) old failed held c.requires.writer)

pub returns-then-local-clause-heard : goal.returns-then-local-clause-heard
returns-then-local-clause-heard g c heard hears =
    heard_there c.args.claims.now heard c.args.ingress c.from.result c.args.said.now.octets c.frame-2.result.now _
    c.index-claims-from.result c.from.ensures c.frame-2.ensures c.told-claims c.requires.ingress hears c.hear.ensures.heard

pub returns-clause-heard : goal.returns-clause-heard
returns-clause-heard g c heard hears =
    heard_there c.args.claims.now heard c.args.ingress c.from.result c.args.said.now.octets c.frame-2.result.now _
    c.index-claims-from.result c.from.ensures c.frame-2.ensures c.told-claims c.requires.ingress hears c.hear.ensures.heard

pub returns-clause-put : goal.returns-clause-put
returns-clause-put g c batches lines stands hears =
    let gateway = c.args.gateway.now in
    let said = c.args.said.now in
    let old = g.W.Write.contents (inner_of c.args.writer.now) in
    let new = g.W.Write.contents (inner_of c.put_allowed.new.writer) in
    let other = local_there c.args.claims.now (heard_at gateway.names.now lines) c.args.ingress c.from.result said.octets
    c.frame.result.now c.index-claims-from.result c.is_local-local.result c.from.ensures c.frame.ensures c.requires.ingress hears
    c.is_local-local.ensures.heard ∙ c.if-local.false in
    subst (λ (text : List ℕ). Puts old new (has_failed c.put_allowed.new.writer) c.args.gathered.now.held.items text
    c.put_allowed.result c.put_allowed.new.gathered.held.items)
    (allowed_lines gateway.names.now batches gateway.policies.now lines said c.args.ingress stands other) c.put_allowed.ensures
