-- Worked examples of 'Record'.
use Rattle.std.proofs.Common.{◌≡◌, ℕ, List, [], ◌∷◌, ◌++◌, length, replicate, Some, None, refl}
use Rattle.gw_frame.specs.Record.{word_of, payload_of, refusal_of}
use Rattle.gw_frame.specs.declared.refusal.FrameRefusal.TheVariants.{TooShort, TooLong, BadLength, PayloadCut}

-- a record whose octet 4 is the given one, with so many octets of 255 behind octet 7
abbrev record_with : ℕ → ℕ → List ℕ
record_with octet4 rest = (0x8C ∷ 0xF0 ∷ 0x04 ∷ 0x00 ∷ octet4 ∷ 0 ∷ 0 ∷ 0 ∷ []) ++ replicate rest 255

-- the bounds of a record
short : refusal_of (0x8C ∷ 0xF0 ∷ 0x04 ∷ 0x00 ∷ 0 ∷ 0 ∷ 0 ∷ []) ≡ Some (TooShort 7)
short = refl

shortest : refusal_of (record_with 0 0) ≡ None
shortest = refl

longest : (refusal_of (record_with 8 8) ≡ None) × (refusal_of (record_with 8 9) ≡ Some (TooLong 17))
longest = (refl, refl)

payload_bounds : (refusal_of (record_with 9 8) ≡ Some (BadLength 9)) × (refusal_of (record_with 8 7) ≡ Some (PayloadCut 8 7))
payload_bounds = (refl, refl)

padded : (length (record_with 3 8) ≡ 16) × (refusal_of (record_with 3 8) ≡ None)
    × (payload_of (record_with 3 8) ≡ 255 ∷ 255 ∷ 255 ∷ [])
padded = (refl, refl, refl)

-- the first of several causes is told
first : (refusal_of (record_with 9 9) ≡ Some (TooLong 17)) × (refusal_of (record_with 9 0) ≡ Some (BadLength 9))
first = (refl, refl)

-- 15 octets with a payload of 7
fifteen : (refusal_of (record_with 7 7) ≡ None) × (length (payload_of (record_with 7 7)) ≡ 7)
    × (word_of (record_with 7 7) ≡ 0x8CF00400)
fifteen = (refl, refl, refl)
