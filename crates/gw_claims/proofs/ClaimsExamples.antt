-- Worked examples of 'Claims'.
use Rattle.std.proofs.Common.{◌≡◌, ℕ, List, [], ◌∷◌, true, false, refl}
use Rattle.gw_claims.specs.Claims.{Claim, is_claim, claims_after, is_local}

-- an Address Claimed with these octets 4 of the identifier word and this lowest octet of the NAME
abbrev claims : ℕ → ℕ → List ℕ
claims address name = 0x98 ∷ 0xEE ∷ 0xFF ∷ address ∷ 8 ∷ 0 ∷ 0 ∷ 0 ∷ name ∷ 0 ∷ 0 ∷ 0 ∷ 0 ∷ 0 ∷ 0 ∷ 0 ∷ []

abbrev held : ℕ → ℕ → Claim
held address name = record { address = address; name = name }

-- a frame of proprietary A to an address
abbrev sent_to : ℕ → List ℕ
sent_to address = 0x98 ∷ 0xEF ∷ address ∷ 0x34 ∷ 8 ∷ 0 ∷ 0 ∷ 0 ∷ 1 ∷ 2 ∷ 3 ∷ 4 ∷ 5 ∷ 6 ∷ 7 ∷ 8 ∷ []

-- the lower NAME keeps its address, and claims it again
first_claims : List (List ℕ)
first_claims = claims 128 5 ∷ claims 128 7 ∷ claims 128 5 ∷ []

contested : (claims_after (claims 128 5 ∷ []) ≡ held 128 5 ∷ [])
    × (claims_after (claims 128 7 ∷ claims 128 5 ∷ []) ≡ held 128 5 ∷ []) × (claims_after first_claims ≡ held 128 5 ∷ [])
unfolding first_claims
contested = (refl, refl, refl)

-- a NAME that can claim no address gives its own up
given_up : (claims_after (claims 254 5 ∷ first_claims) ≡ []) × (is_local first_claims (sent_to 128) ≡ true)
    × (is_local (claims 254 5 ∷ first_claims) (sent_to 128) ≡ false)
unfolding first_claims
given_up = (refl, refl, refl)

-- a NAME moves to another address
moved : claims_after (claims 129 5 ∷ claims 128 5 ∷ []) ≡ held 129 5 ∷ []
moved = refl

-- a NAME that loses a contest holds nothing
lost : claims_after (claims 128 7 ∷ claims 129 7 ∷ claims 128 5 ∷ []) ≡ held 128 5 ∷ []
lost = refl

-- a lower NAME takes an address from a greater one
taken_over : claims_after (claims 128 5 ∷ claims 128 7 ∷ []) ≡ held 128 5 ∷ []
taken_over = refl

-- the greatest address that can be held
bounds : (claims_after (claims 253 5 ∷ []) ≡ held 253 5 ∷ []) × (claims_after (claims 255 5 ∷ []) ≡ [])
bounds = (refl, refl)

-- not sent to everyone, another group, a remote frame, a payload of 7 octets
no_claims : (is_claim (0x98 ∷ 0xEE ∷ 0x80 ∷ 0x34 ∷ 8 ∷ []) ≡ false) × (is_claim (0x98 ∷ 0xEF ∷ 0xFF ∷ 0x34 ∷ 8 ∷ []) ≡ false)
    × (is_claim (0xD8 ∷ 0xEE ∷ 0xFF ∷ 0x34 ∷ 8 ∷ []) ≡ false) × (is_claim (0x98 ∷ 0xEE ∷ 0xFF ∷ 0x34 ∷ 7 ∷ []) ≡ false)
no_claims = (refl, refl, refl, refl)

-- every priority counts, and no other page
priorities : (is_claim (0x80 ∷ 0xEE ∷ 0xFF ∷ 0x34 ∷ 8 ∷ []) ≡ true) × (is_claim (0x9C ∷ 0xEE ∷ 0xFF ∷ 0x34 ∷ 8 ∷ []) ≡ true)
    × (is_claim (0x99 ∷ 0xEE ∷ 0xFF ∷ 0x34 ∷ 8 ∷ []) ≡ false) × (is_claim (0x9A ∷ 0xEE ∷ 0xFF ∷ 0x34 ∷ 8 ∷ []) ≡ false)
priorities = (refl, refl, refl, refl)
