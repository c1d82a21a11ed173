use Rattle.std.proofs.Common.{length, refl, sym, ap, ◌∙◌, slice_get, arith}
use Rattle.std.proofs.lemmas.Option.{slice_get_read}
use Rattle.gw_commands.proofs.PortsTold.{crossing_told}
use Rattle.gw_commands.proofs.crossing_lines.push_crossing.Goals as goal

pub returns : goal.returns
returns c =
    let change = c.index-stated-from.result in
    let same = c.from.ensures in
    let there = c.requires in
    crossing_told c.args.stated.now c.args.crossing.now change c.args.text.now.items c.push_port.new.text.items
    c.push_difference.new.text.items
    (ap (slice_get c.args.stated.now) (sym same)
    ∙ slice_get_read c.args.stated.now (length c.args.stated.now) c.from.result change refl (omega arith) c.index-stated-from.is)
    c.in_ok-push_port.ensures c.in_ok-push_difference.ensures
