-- Octets one by one are the list that they were taken from.
use Rattle.std.proofs.Common.{arith, ◌≡◌, ℕ, zero, suc, ◌<◌, List, [], ◌∷◌, ◌++◌, length, get_or, refl, ap, ◌∙◌}

pub four : (xs : List ℕ) → length xs ≡ 4 → get_or xs 0 0 ∷ get_or xs 1 0 ∷ get_or xs 2 0 ∷ get_or xs 3 0 ∷ [] ≡ xs
four (a ∷ b ∷ c ∷ d ∷ []) len = refl
four [] len = absurd (omega arith)
four (a ∷ []) len = absurd (omega arith)
four (a ∷ b ∷ []) len = absurd (omega arith)
four (a ∷ b ∷ c ∷ []) len = absurd (omega arith)
four (a ∷ b ∷ c ∷ d ∷ e ∷ xs) len = absurd (omega arith)

pub eight : (xs : List ℕ) → length xs ≡ 8
    → get_or xs 0 0 ∷ get_or xs 1 0 ∷ get_or xs 2 0 ∷ get_or xs 3 0
    ∷ get_or xs 4 0 ∷ get_or xs 5 0 ∷ get_or xs 6 0 ∷ get_or xs 7 0 ∷ [] ≡ xs
eight (a ∷ b ∷ c ∷ d ∷ xs) len = ap (λ rest. a ∷ b ∷ c ∷ d ∷ rest) (four xs (omega arith))
eight [] len = absurd (omega arith)
eight (a ∷ []) len = absurd (omega arith)
eight (a ∷ b ∷ []) len = absurd (omega arith)
eight (a ∷ b ∷ c ∷ []) len = absurd (omega arith)

-- a record as the code writes it, octet by octet
pub spelled : (word octets : List ℕ) (len pad reserved dlc : ℕ) → length word ≡ 4 → length octets ≡ 8
    → get_or word 0 0 ∷ get_or word 1 0 ∷ get_or word 2 0 ∷ get_or word 3 0 ∷ len ∷ pad ∷ reserved ∷ dlc
    ∷ get_or octets 0 0 ∷ get_or octets 1 0 ∷ get_or octets 2 0 ∷ get_or octets 3 0
    ∷ get_or octets 4 0 ∷ get_or octets 5 0 ∷ get_or octets 6 0 ∷ get_or octets 7 0 ∷ []
    ≡ word ++ len ∷ pad ∷ reserved ∷ dlc ∷ octets
spelled word octets len pad reserved dlc of_word of_octets =
    ap (λ front. front ++ len ∷ pad ∷ reserved ∷ dlc ∷ get_or octets 0 0 ∷ get_or octets 1 0 ∷ get_or octets 2 0
    ∷ get_or octets 3 0 ∷ get_or octets 4 0 ∷ get_or octets 5 0 ∷ get_or octets 6 0 ∷ get_or octets 7 0 ∷ []) (four word of_word)
    ∙ ap (λ back. word ++ len ∷ pad ∷ reserved ∷ dlc ∷ back) (eight octets of_octets)

pub sixteen : (xs : List ℕ) → length xs ≡ 16
    → get_or xs 0 0 ∷ get_or xs 1 0 ∷ get_or xs 2 0 ∷ get_or xs 3 0 ∷ get_or xs 4 0 ∷ get_or xs 5 0 ∷ get_or xs 6 0
    ∷ get_or xs 7 0 ∷ get_or xs 8 0 ∷ get_or xs 9 0 ∷ get_or xs 10 0 ∷ get_or xs 11 0 ∷ get_or xs 12 0 ∷ get_or xs 13 0
    ∷ get_or xs 14 0 ∷ get_or xs 15 0 ∷ [] ≡ xs
sixteen (a ∷ b ∷ c ∷ d ∷ e ∷ f ∷ g ∷ h ∷ xs) len =
    ap (λ rest. a ∷ b ∷ c ∷ d ∷ e ∷ f ∷ g ∷ h ∷ rest) (eight xs (omega arith))
sixteen [] len = absurd (omega arith)
sixteen (a ∷ []) len = absurd (omega arith)
sixteen (a ∷ b ∷ []) len = absurd (omega arith)
sixteen (a ∷ b ∷ c ∷ []) len = absurd (omega arith)
sixteen (a ∷ b ∷ c ∷ d ∷ []) len = absurd (omega arith)
sixteen (a ∷ b ∷ c ∷ d ∷ e ∷ []) len = absurd (omega arith)
sixteen (a ∷ b ∷ c ∷ d ∷ e ∷ f ∷ []) len = absurd (omega arith)
sixteen (a ∷ b ∷ c ∷ d ∷ e ∷ f ∷ g ∷ []) len = absurd (omega arith)

pub four_below : (a b c d : ℕ) → a < 256 → b < 256 → c < 256 → d < 256 → (i : ℕ) → get_or (a ∷ b ∷ c ∷ d ∷ []) i 0 < 256
four_below a b c d below_a below_b below_c below_d zero = below_a
four_below a b c d below_a below_b below_c below_d (suc zero) = below_b
four_below a b c d below_a below_b below_c below_d (suc (suc zero)) = below_c
four_below a b c d below_a below_b below_c below_d (suc (suc (suc zero))) = below_d
four_below a b c d below_a below_b below_c below_d (suc (suc (suc (suc i)))) = omega arith
