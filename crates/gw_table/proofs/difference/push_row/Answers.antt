use Rattle.std.proofs.Common.{ℕ, ◌+◌, ◌<◌, List, length, arith, rules}
use Rattle.gw_table.specs.Difference.{IsUnlike, IsDifference}
use Rattle.gw_table.specs.Ingress.{IsIngress}
use Rattle.gw_table.specs.PartIndices.{DecideAt, IsOfIndices}
use Rattle.gw_table.proofs.Listing.{skipped, pushed, row_done}
use Rattle.gw_table.proofs.difference.push_row.Goals as goal
use Rattle.gw_table.proofs.difference.push_row.Goals.{in-Some+in_ok-push, in_default}

pub loop-with-preserved : goal.loop-with-preserved
loop-with-preserved c =
    let old = c.args.old.now in
    let new = c.args.new.now in
    let ingress = c.args.ingress in
    let index = c.args.index in
    let with = c.loop-with.with in
    let found = c.loop-with.found.items in
    let few = c.part_count-with-end.ensures.table.few in
    let fits : with < length new.rules + 2 =
    omega (arith, c.part_count-with-end.ensures.count, c.loop-with-test.true) in
    elim c.match-branch-2.branch [
      | in-Some+in_ok-push w ↦ (let d = w.in-Some.difference in
          let is : IsDifference old new d × IsIngress ingress d.port × IsOfIndices old new index with d = search rules in
          rw (w.found-is, w.in_ok-push.ensures.items)
          (pushed old new c.requires.table.few few ingress index with c.requires.index fits found c.loop-with.invariant d
          (is.0, is.1) is.2))
      | in_default w ↦ (let none : (octets : List ℕ) (port : ℕ) → IsUnlike old new octets port → IsIngress ingress port
          → DecideAt old index new with octets port → ⊥ = search rules in
          rw w.found-is
          (skipped old new c.requires.table.few few ingress index with c.requires.index fits found c.loop-with.invariant none))
    ]

pub returns : goal.returns
returns c =
    row_done c.args.old.now c.args.new.now c.requires.table.few c.part_count-with-end.ensures.table.few c.args.ingress
    c.args.index
    c.loop-with.with
    c.loop-with.found.items (omega (arith, c.part_count-with-end.ensures.count, c.loop-with-test.false)) c.loop-with.invariant
