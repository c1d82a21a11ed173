use Rattle.std.proofs.Common.{◌≡◌, ◌≤◌, ◌++◌, length, take, ap, ◌∙◌, arith}
use Rattle.std.proofs.lemmas.Grind.{common_steps}
use Rattle.std.proofs.lemmas.List.{length-take-le}
use Rattle.gw_trace.proofs.Joining.{joined_at}
use Rattle.gw_trace.proofs.partial.Partial.joined.Goals as goal

pub returns : goal.returns
returns c =
    let inside : c.self.inside.len ≤ length c.self.inside.octets = omega arith in
    let len : length (take c.self.inside.len c.self.inside.octets) ≡ c.self.inside.len =
    length-take-le c.self.inside.len c.self.inside.octets inside in
    let fits : c.self.inside.len ≤ c.args.most = omega (arith, ap length c.self.view_is) in
    let same : c.copy_from_slice.new.self ≡ take c.min-more.result c.args.piece.now = grind (arith, common_steps) in
    joined_at (take c.self.inside.len c.self.inside.octets) c.copy_from_slice.new.self _ c.args.piece.now c.self.inside.len
    c.min-more.result c.args.most len fits c.min-more.ensures same
    ∙ ap (λ v. take c.args.most (v ++ c.args.piece.now)) c.self.view_is
