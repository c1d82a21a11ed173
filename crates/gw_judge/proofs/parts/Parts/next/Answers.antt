use Rattle.std.proofs.Common.{ap}
use Rattle.gw_io.specs.Tries.{inner_of}
use Rattle.gw_judge.specs.LineParts.{Ahead}
use Rattle.gw_judge.proofs.PartLengths.{next_part}
use Rattle.gw_judge.proofs.parts.Parts.next.Goals as goal

pub returns-clause-part : goal.returns-clause-part
returns-clause-part g c =
    let inside = c.self.inside in
    next_part (g.R.Read.remaining (inner_of c.args.reader.now)) (g.R.Read.remaining (inner_of c.fill.new.reader))
    c.args.self.now.rest c.fill.new.self.rest inside.octets inside.end inside.len c.part_len.result c.in_ok-fill.field-0
    c.if-not-branch.false c.in_ok-fill.ensures.piece (ap (λ (a : Ahead). a.rest) c.self.view_is) c.part_len.ensures.line
    c.part_len.ensures.bound
