-- What hexadecimal digits spell.
use Rattle.std.proofs.Common.{ℕ, ◌+◌, ◌-◌, ◌*◌, ◌<◌, ◌≤◌, ◌&&◌, List, [], ◌∷◌, length, take, Option, Some, None, arith}
use Rattle.std.specs.Prelude.{nat_le, unwrap_or, fold, if◌then◌else◌}
use Rattle.std.proofs.lemmas.Bool.{and_parts, leb-true, cond_both}
use Rattle.std.proofs.lemmas.List.{length-take}
use Rattle.gw_log.specs.LogFrames.{digit, spelled}

abbrev IsSmall : Option ℕ → Type 0
IsSmall value = unwrap_or value 0 < 16

pub digit_small : (c : ℕ) → digit c < 16
unfolding digit
digit_small c =
    let others : Option ℕ = if nat_le 48 c && nat_le c 57 then Some (c - 48) else None in
    let letters : Option ℕ = if nat_le 97 c && nat_le c 102 then Some (c - 87) else others in
    let decimal : IsSmall others =
    cond_both (nat_le 48 c && nat_le c 57) (Some (c - 48)) None IsSmall
    (λ yes. let most = leb-true c 57 (and_parts (nat_le 48 c) (nat_le c 57) yes).1 in omega arith)
    (λ no. omega arith) in
    let lower : IsSmall letters =
    cond_both (nat_le 97 c && nat_le c 102) (Some (c - 87)) others IsSmall
    (λ yes. let most = leb-true c 102 (and_parts (nat_le 97 c) (nat_le c 102) yes).1 in omega arith)
    (λ no. decimal) in
    cond_both (nat_le 65 c && nat_le c 70) (Some (c - 55)) letters IsSmall
    (λ yes. let most = leb-true c 70 (and_parts (nat_le 65 c) (nat_le c 70) yes).1 in omega arith)
    (λ no. lower)

-- seven values below 16 and fewer
small : (value : ℕ → ℕ) → ((c : ℕ) → value c < 16) → (digits : List ℕ) → length digits ≤ 7
    → fold (λ n c. 16 * n + value c) 0 digits < 268435456
small value below [] few = omega arith
small value below (a ∷ []) few = let da = below a in omega arith
small value below (a ∷ b ∷ []) few = let da = below a in let db = below b in omega arith
small value below (a ∷ b ∷ c ∷ []) few = let da = below a in let db = below b in let dc = below c in omega arith
small value below (a ∷ b ∷ c ∷ d ∷ []) few =
    let da = below a in let db = below b in let dc = below c in let dd = below d in omega arith
small value below (a ∷ b ∷ c ∷ d ∷ e ∷ []) few =
    let da = below a in let db = below b in let dc = below c in let dd = below d in let de = below e in omega arith
small value below (a ∷ b ∷ c ∷ d ∷ e ∷ f ∷ []) few =
    let da = below a in let db = below b in let dc = below c in let dd = below d in let de = below e in
    let df = below f in omega arith
small value below (a ∷ b ∷ c ∷ d ∷ e ∷ f ∷ g ∷ []) few =
    let da = below a in let db = below b in let dc = below c in let dd = below d in let de = below e in
    let df = below f in let dg = below g in omega arith
small value below (a ∷ b ∷ c ∷ d ∷ e ∷ f ∷ g ∷ h ∷ more) few = absurd (omega arith)

-- seven digits and fewer leave room for one more
pub spelled_small : (digits : List ℕ) (i : ℕ) → i ≤ 7 → spelled (take i digits) < 268435456
spelled_small digits i few = small digit digit_small (take i digits) (omega (arith, length-take i digits))
