use Rattle.std.proofs.Common.{◌<◌, length, refl, sym, arith}
use Rattle.std.proofs.lemmas.Option.{slice_get_read}
use Rattle.gw_table.proofs.Crossed.{begun, pushed, ended}
use Rattle.gw_table.proofs.crossing.push_crossings.Goals as goal

pub loop-difference-init : goal.loop-difference-init
loop-difference-init c =
    let changes = c.args.changes.now in
    let port = c.args.egress in
    let change = c.index-changes-from.result in
    let inside : port < length changes = omega (arith, c.requires.egress, c.requires.ports) in
    let read = rw c.from.ensures at c.index-changes-from.is in
    let tables = slice_get_read changes _ port change refl inside read in
    rw c.deref-difference-items.ensures.value (begun changes port c.args.ports c.requires.ports c.requires.egress change tables
    c.in_ok-differences.differences.items c.in_ok-differences.ensures c.args.found.now.items c.requires.before)

pub loop-difference-preserved : goal.loop-difference-preserved
loop-difference-preserved c =
    let changes = c.args.changes.now in
    let port = c.args.egress in
    let change = c.index-changes-from.result in
    let inside : port < length changes = omega (arith, c.requires.egress, c.requires.ports) in
    let read = rw c.from.ensures at c.index-changes-from.is in
    let tables = slice_get_read changes _ port change refl inside read in
    let are = rw (sym c.deref-difference-items.ensures.value) at c.in_ok-differences.ensures in
    rw c.in_ok-push.ensures.items (pushed changes port c.args.ports c.requires.ports c.requires.egress change tables
    c.deref-difference-items.result.now are c.loop-difference.difference-index c.loop-difference.found.items _
    c.difference-item.result c.loop-difference-test.true refl c.difference-item.is c.loop-difference.invariant)

pub returns : goal.returns
returns c =
    let changes = c.args.changes.now in
    let port = c.args.egress in
    let change = c.index-changes-from.result in
    let inside : port < length changes = omega (arith, c.requires.egress, c.requires.ports) in
    let read = rw c.from.ensures at c.index-changes-from.is in
    let tables = slice_get_read changes _ port change refl inside read in
    let are = rw (sym c.deref-difference-items.ensures.value) at c.in_ok-differences.ensures in
    ended changes port c.args.ports c.requires.ports c.requires.egress change tables c.deref-difference-items.result.now are
    c.loop-difference.found.items c.loop-difference.difference-index c.loop-difference-test.false c.loop-difference.invariant
