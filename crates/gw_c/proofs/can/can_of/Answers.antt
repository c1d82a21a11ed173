use Rattle.std.proofs.Common.{rules, ◌≡◌, ℕ, ◌<◌, List, [], ◌∷◌, ◌++◌, length, get_or, refl, ap, ◌∙◌}
use Rattle.std.proofs.lemmas.Nat.{be_bytes_4}
use Rattle.gw_c.proofs.Octets.{sixteen, four_below}
use Rattle.gw_c.proofs.can.can_of.Goals as goal

pub returns : goal.returns
returns c =
    let octets = c.all_octets-octets.result in
    let word : List ℕ = get_or octets 0 0 ∷ get_or octets 1 0 ∷ get_or octets 2 0 ∷ get_or octets 3 0 ∷ [] in
    let small : (i : ℕ) → get_or word i 0 < 256 =
    four_below (get_or octets 0 0) (get_or octets 1 0) (get_or octets 2 0) (get_or octets 3 0)
    (search rules) (search rules) (search rules) (search rules) in
    let long : length octets ≡ 16 = search rules in
    ap (λ (front : List ℕ). front ++ get_or octets 4 0 ∷ get_or octets 5 0 ∷ get_or octets 6 0 ∷ get_or octets 7 0
    ∷ get_or octets 8 0 ∷ get_or octets 9 0 ∷ get_or octets 10 0 ∷ get_or octets 11 0 ∷ get_or octets 12 0
    ∷ get_or octets 13 0 ∷ get_or octets 14 0 ∷ get_or octets 15 0 ∷ [])
    (be_bytes_4 word c.from_be_bytes.result refl small c.from_be_bytes.ensures)
    ∙ sixteen octets long ∙ c.all_octets-octets.ensures
