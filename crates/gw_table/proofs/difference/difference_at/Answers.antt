use Rattle.std.proofs.Common.{rules, ◌≡◌, ◌≢◌}
use Rattle.gw_table.specs.Ingress.{IsIngress}
use Rattle.gw_table.specs.PartIndices.{DecideAt, IsOfIndices}
use Rattle.gw_table.proofs.PartsAt.{alike_there, unlike_there}
use Rattle.gw_table.proofs.difference.difference_at.Goals as goal

pub returns-then-eq : goal.returns-then-eq
returns-then-eq c octets port unlike taken decided =
    let same : c.action_at.result ≡ c.action_at-2.result = search rules in
    alike_there c.args.old.now c.args.new.now c.args.a c.args.b c.action_at.result c.action_at-2.result c.action_at.ensures
    c.action_at-2.ensures same octets port unlike decided

pub returns : goal.returns
returns c =
    let apart : c.action_at.result ≢ c.action_at-2.result = search rules in
    let taken : DecideAt c.args.old.now c.args.a c.args.new.now c.args.b c.in-Some.witness.frame c.in-Some.witness.port
    × IsIngress c.args.ingress c.in-Some.witness.port = search rules in
    let indices : IsOfIndices c.args.old.now c.args.new.now c.args.a c.args.b (record {
      old = c.part_at.result;
      new = c.part_at-2.result;
      frame = c.in-Some.witness.frame;
      port = c.in-Some.witness.port;
    }) = record { first = c.part_at.ensures; second = c.part_at-2.ensures } in (
      unlike_there c.args.old.now c.args.new.now c.args.a c.args.b c.action_at.result c.action_at-2.result c.action_at.ensures
          c.action_at-2.ensures apart (record {
            old = c.part_at.result;
            new = c.part_at-2.result;
            frame = c.in-Some.witness.frame;
            port = c.in-Some.witness.port;
          }) taken.0 indices,
      taken.1,
      indices,
    )
