-- A NAME holds at most one address, and an address is held by at most one NAME.
use Rattle.std.proofs.Common.{◌≡◌, ◌⊎◌, inl, inr, ℕ, Bool, true, false, not, ◌==◌, if◌then◌else◌, List, [], ◌∷◌, sym, ◌∙◌, subst}
use Rattle.std.proofs.Common.{refl}
use Rattle.std.proofs.lemmas.Bool.{eqb-true, eqb-false, and_parts, or_cases, false≢true, not-true}
use Rattle.gw_claims.specs.Claims.{Claim, AreApart, is_held_by, is_claim, claimed_address, claimed_name, without_name}
use Rattle.gw_claims.specs.Claims.{without_address, claims_taken, claims_after, may_take}
use Rattle.gw_claims.proofs.ClaimSets.{claim, keeps}

-- no claim, no two apart
none_apart : AreApart []
none_apart = record {
  one_address = λ one other name a b. absurd (false≢true a);
  one_name =
      λ address one other a b. absurd (false≢true a);
}

-- a claim of the set without a NAME, or without an address, is one of the set
still : (name address other : ℕ) (claims : List Claim) → is_held_by address other (without_name name claims) ≡ true
    → (is_held_by address other claims ≡ true) × (other ≡ name → ⊥)
still name a n claims held =
    let before = keeps (λ c. not (c.name == name)) a n claims held in
    (before.0, eqb-false n name (not-true (n == name) before.1))

elsewhere : (address at name : ℕ) (claims : List Claim) → is_held_by at name (without_address address claims) ≡ true
    → (is_held_by at name claims ≡ true) × (at ≡ address → ⊥)
elsewhere address a n claims held =
    let before = keeps (λ c. not (c.address == address)) a n claims held in
    (before.0, eqb-false a address (not-true (a == address) before.1))

without_apart : (name : ℕ) (claims : List Claim) → AreApart claims → AreApart (without_name name claims)
without_apart name claims apart = record {
  one_address = λ one other n a b. apart.one_address one other n (still name one n claims a).0 (still name other n claims b).0;
  one_name = λ at one other a b. apart.one_name at one other (still name at one claims a).0 (still name at other claims b).0;
}

-- a claim is the one that was put in front, or one of those behind it
front_or_behind : (address name at other : ℕ) (claims : List Claim)
    → is_held_by at other (claim address name ∷ without_address address claims) ≡ true
    → ((address ≡ at) × (name ≡ other)) ⊎ ((is_held_by at other claims ≡ true) × (at ≡ address → ⊥))
front_or_behind address name a n claims held = elim (or_cases _ _ held) [
  | inl here ↦ let parts = and_parts _ _ here in inl (eqb-true address a parts.0, eqb-true name n parts.1)
  | inr there ↦ inr (elsewhere address a n claims there)
]

-- a NAME that held nothing takes an address
module _ (address name : ℕ) (claims : List Claim) (apart : AreApart claims) (holds_none : (at : ℕ)
    → is_held_by at name claims ≡ true → ⊥) where
  -- a NAME holds an address once it is taken
  abbrev IsHeld : ℕ → ℕ → Type 0
  IsHeld at n = is_held_by at n (claim address name ∷ without_address address claims) ≡ true

  -- it held no address, so a claim of it is the one in front
  front_address : (one other n : ℕ) → IsHeld one n → IsHeld other n → one ≡ other
  front_address one other n a b = elim (front_or_behind address name one n claims a) [
    | inl here ↦ elim (front_or_behind address name other n claims b) [
      | inl also ↦ sym here.0 ∙ also.0
      | inr behind ↦ absurd (holds_none other (subst (λ k. is_held_by other k claims ≡ true) (sym here.1) behind.0))
    ]
    | inr before ↦ elim (front_or_behind address name other n claims b) [
      | inl here ↦ absurd (holds_none one (subst (λ k. is_held_by one k claims ≡ true) (sym here.1) before.0))
      | inr behind ↦ apart.one_address one other n before.0 behind.0
    ]
  ]

  -- those behind have other addresses
  front_name : (at one other : ℕ) → IsHeld at one → IsHeld at other → one ≡ other
  front_name at one other a b = elim (front_or_behind address name at one claims a) [
    | inl here ↦ elim (front_or_behind address name at other claims b) [
      | inl also ↦ sym here.1 ∙ also.1
      | inr behind ↦ absurd (behind.1 (sym here.0))
    ]
    | inr before ↦ elim (front_or_behind address name at other claims b) [
      | inl here ↦ absurd (before.1 (sym here.0))
      | inr behind ↦ apart.one_name at one other before.0 behind.0
    ]
  ]

  front_apart : AreApart (claim address name ∷ without_address address claims)
  front_apart = record { one_address = front_address; one_name = front_name }

  chosen_apart : (takes : Bool) → AreApart (if takes then claim address name ∷ without_address address claims else claims)
  chosen_apart true = front_apart
  chosen_apart false = apart

-- what one record leaves: the NAME gives up what it held, and may take its source
taken_apart : (address name : ℕ) (claims : List Claim) → AreApart claims
    → AreApart (claims_taken address name (without_name name claims))
taken_apart address name claims apart =
    chosen_apart address name (without_name name claims) (without_apart name claims apart)
    (λ at held. (still name at name claims held).1 refl)
    (may_take address name (without_name name claims))

heard_apart : (counts : Bool) (address name : ℕ) (claims : List Claim) → AreApart claims
    → AreApart (if counts then claims_taken address name (without_name name claims) else claims)
heard_apart true address name claims apart = taken_apart address name claims apart
heard_apart false address name claims apart = apart

-- so it is of the claims after any records
pub apart_after : (heard : List (List ℕ)) → AreApart (claims_after heard)
apart_after [] = none_apart
apart_after (newest ∷ earlier) =
    heard_apart (is_claim newest) (claimed_address newest) (claimed_name newest) (claims_after earlier) (apart_after earlier)
