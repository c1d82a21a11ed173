use Rattle.std.proofs.Common.{rules, ◌∷◌, ◌++◌, length, ap, ◌∙◌}
use Rattle.gw_c.proofs.Octets.{spelled}
use Rattle.gw_c.proofs.can.octets_of.Goals as goal

pub returns : goal.returns
returns c =
    let can = c.args.can.now in let word = c.to_be_bytes-word in
    spelled word.result can.«data» can.len can.pad can.reserved can.len8_dlc (ap length word.ensures) (search rules)
    ∙ ap (λ front. front ++ can.len ∷ can.pad ∷ can.reserved ∷ can.len8_dlc ∷ can.«data») word.ensures
