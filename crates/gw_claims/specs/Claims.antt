-- Which NAME holds an address of one segment: SAE J1939-81, address claim and contention.
-- PGN 60928 is Address Claimed: its source is the claimed address, its payload the claimant's NAME.
-- A list of records heard has the newest first.
use Rattle.std.specs.Prelude.{◌≡◌, ℕ, Bool, IsTrue, not, ◌==◌, ◌&&◌, nat_le, if◌then◌else◌, List, [], ◌∷◌, filter}
use Rattle.std.specs.List.{list_any}
use Rattle.gw_ident.specs.Identifier.{is_extended_data, parameter_group, destination_address, source_address, is_pdu1}
use Rattle.gw_ident.specs.DeviceName.{name_value}
use Rattle.gw_frame.specs.Record.{word_of, payload_length, payload_of}

-- an address, and the NAME that holds it
pub record Claim : Type 0 where
  pub address : ℕ
  pub name : ℕ

-- the identifier of an Address Claimed, which is sent to everyone
abbrev pub is_address_claimed : ℕ → Bool
is_address_claimed word =
    is_extended_data word && ((parameter_group word == 60928) && (destination_address word == 255))

-- a record that counts: an Address Claimed whose payload is a NAME
abbrev pub is_claim : List ℕ → Bool
is_claim octets = is_address_claimed (word_of octets) && (payload_length octets == 8)

abbrev pub claimed_address : List ℕ → ℕ
claimed_address octets = source_address (word_of octets)

abbrev pub claimed_name : List ℕ → ℕ
claimed_name octets = name_value (payload_of octets)

-- the claims of other NAMEs
abbrev pub without_name : ℕ → List Claim → List Claim
without_name name = filter (λ claim. not (claim.name == name))

-- the claims of other addresses
abbrev pub without_address : ℕ → List Claim → List Claim
without_address address = filter (λ claim. not (claim.address == address))

-- the NAME holds the address
abbrev pub is_held_by : ℕ → ℕ → List Claim → Bool
is_held_by address name = list_any (λ claim. (claim.address == address) && (claim.name == name))

-- some NAME holds the address
abbrev pub is_held : ℕ → List Claim → Bool
is_held address = list_any (λ claim. claim.address == address)

-- a NAME at most as great holds the address: the lower NAME wins
abbrev pub is_defended : ℕ → ℕ → List Claim → Bool
is_defended address name = list_any (λ claim. (claim.address == address) && nat_le claim.name name)

-- an address that can be held, and that the NAME may take from its holder or from nobody
abbrev pub may_take : ℕ → ℕ → List Claim → Bool
may_take address name claims = nat_le address 253 && not (is_defended address name claims)

-- a NAME that holds nothing takes an address, if it may
abbrev pub claims_taken : ℕ → ℕ → List Claim → List Claim
claims_taken address name claims =
    if may_take address name claims
    then record { address = address; name = name } ∷ without_address address claims
    else claims

-- the claims once one more record was heard: its NAME gives up what it held, and takes its source
abbrev pub claims_with : List ℕ → List Claim → List Claim
claims_with octets claims =
    if is_claim octets
    then claims_taken (claimed_address octets) (claimed_name octets) (without_name (claimed_name octets) claims)
    else claims

-- the claims after the records heard
abbrev pub claims_after : List (List ℕ) → List Claim
claims_after [] = []
claims_after (newest ∷ earlier) = claims_with newest (claims_after earlier)

-- a PDU1 extended data frame to an address that is held
abbrev pub is_local_among : List Claim → List ℕ → Bool
is_local_among claims octets =
    let word = word_of octets in
    let destination = destination_address word in
    is_extended_data word && (is_pdu1 word && (nat_le destination 253 && is_held destination claims))

-- the frame is local on its segment after the records heard there
abbrev pub is_local : List (List ℕ) → List ℕ → Bool
is_local heard = is_local_among (claims_after heard)

-- a NAME holds at most one address, and an address is held by at most one NAME
pub record AreApart (claims : List Claim) : Type 0 where
  pub one_address : (one other name : ℕ) → IsTrue (is_held_by one name claims) → IsTrue (is_held_by other name claims)
      → one ≡ other
  pub one_name : (address one other : ℕ) → IsTrue (is_held_by address one claims) → IsTrue (is_held_by address other claims)
      → one ≡ other
