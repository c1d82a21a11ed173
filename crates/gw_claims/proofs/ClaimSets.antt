-- Which claims stand in a set, and in one that a test has filtered.
use Rattle.std.proofs.Common.{◌≡◌, ℕ, Bool, true, false, cond, ◌==◌, ◌&&◌, ◌||◌, List, [], ◌∷◌, inl, inr, sym, ◌∙◌, subst, refl}
use Rattle.std.proofs.lemmas.Bool.{eqb-true, eq-eqb, and_parts, and_from, or_cases, or_left, or_right, false≢true}
use Rattle.std.specs.List.{filter, list_any}
use Rattle.gw_claims.specs.Claims.{Claim, is_held_by}

-- the claim of an address by a NAME
abbrev pub claim : ℕ → ℕ → Claim
claim address name = record { address = address; name = name }

abbrev is_claim_of : ℕ → ℕ → Claim → Bool
is_claim_of address name c = (c.address == address) && (c.name == name)

same_claim : (address name : ℕ) (c : Claim) → is_claim_of address name c ≡ true → claim address name ≡ c
same_claim a n c same =
    let parts = and_parts _ _ same in
    λ i. record { address = sym (eqb-true c.address a parts.0) i; name = sym (eqb-true c.name n parts.1) i }

-- a claim of the set that passes a test is found by it
pub found : (test : Claim → Bool) (address name : ℕ) (claims : List Claim)
    → is_held_by address name claims ≡ true → test (claim address name) ≡ true → list_any test claims ≡ true
found test a n [] held passes = absurd (false≢true held)
found test a n (c ∷ cs) held passes = elim (or_cases _ _ held) [
  | inl here ↦ or_left (test c) (list_any test cs) (subst (λ k. test k ≡ true) (same_claim a n c here) passes)
  | inr there ↦ or_right (test c) (list_any test cs) (found test a n cs there passes)
]

-- what a test finds is a claim of the set
pub finds : (test : Claim → Bool) (claims : List Claim)
    → list_any test claims ≡ true → (c : Claim) × (test c ≡ true) × (is_held_by c.address c.name claims ≡ true)
finds test [] any = absurd (false≢true any)
finds test (c ∷ cs) any = elim (or_cases (test c) (list_any test cs) any) [
  | inl here ↦ (c, here, or_left _ _ (and_from _ _ (eq-eqb c.address c.address refl) (eq-eqb c.name c.name refl)))
  | inr there ↦ let rest = finds test cs there in (rest.0, rest.1, or_right _ _ rest.2)
]

any_of_kept : (b : Bool) (test : Claim → Bool) (c : Claim) (rest : List Claim)
    → list_any test (cond b (c ∷ rest) rest) ≡ ((b && test c) || list_any test rest)
any_of_kept true test c rest = refl
any_of_kept false test c rest = refl

-- a filter keeps the claims that pass
pub kept : (test : Claim → Bool) (address name : ℕ) (claims : List Claim)
    → is_held_by address name claims ≡ true → test (claim address name) ≡ true
    → is_held_by address name (filter test claims) ≡ true
kept test a n [] held passes = held
kept test a n (c ∷ cs) held passes =
    let either : ((test c && is_claim_of a n c) || is_held_by a n (filter test cs)) ≡ true =
    elim (or_cases _ _ held) [
      | inl here ↦ or_left _ _ (and_from _ _ (subst (λ k. test k ≡ true) (same_claim a n c here) passes) here)
      | inr there ↦ or_right _ _ (kept test a n cs there passes)
    ] in
    any_of_kept (test c) (is_claim_of a n) c (filter test cs) ∙ either

-- and no others
pub keeps : (test : Claim → Bool) (address name : ℕ) (claims : List Claim)
    → is_held_by address name (filter test claims) ≡ true
    → (is_held_by address name claims ≡ true) × (test (claim address name) ≡ true)
keeps test a n [] held = absurd (false≢true held)
keeps test a n (c ∷ cs) held =
    elim (or_cases _ _ (sym (any_of_kept (test c) (is_claim_of a n) c (filter test cs)) ∙ held)) [
      | inl here ↦
          let parts = and_parts (test c) (is_claim_of a n c) here in
          (or_left _ _ parts.1, subst (λ k. test k ≡ true) (sym (same_claim a n c parts.1)) parts.0)
      | inr there ↦ let rest = keeps test a n cs there in (or_right _ _ rest.0, rest.1)
    ]
