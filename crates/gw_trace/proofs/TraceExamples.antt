-- Worked examples of 'Trace'.
use Rattle.std.proofs.Common.{◌≡◌, ℕ, List, [], ◌∷◌, ◌++◌, replicate, take, Ok, Err, refl}
use Rattle.gw_frame.specs.declared.refusal.FrameRefusal.TheVariants.{TooLong, BadLength}
use Rattle.gw_trace.specs.declared.refusal.TraceRefusal.TheVariants.{BadMagic, BadVersion, BadLink, BadRecord, Cut}
use Rattle.gw_trace.specs.Traces.{beginning, contents, records, header_of, reading, whole_trace}
use Rattle.gw_trace.specs.Progress.{Gives, IsRefused}
use Rattle.gw_trace.specs.Shares.{share_of}

abbrev r : List ℕ
r = 0x8C ∷ 0xF0 ∷ 0x04 ∷ 0x00 ∷ 8 ∷ 0 ∷ 0 ∷ 0 ∷ replicate 8 255

-- a header with this magic number and link type, its numbers least significant octet first
abbrev little_header : List ℕ → ℕ → List ℕ
little_header magic link =
    magic ++ (2 ∷ 0 ∷ 4 ∷ 0 ∷ []) ++ replicate 8 0 ++ (0 ∷ 0 ∷ 4 ∷ 0 ∷ []) ++ (link ∷ 0 ∷ 0 ∷ 0 ∷ [])

-- the same, most significant octet first
abbrev big_header : List ℕ → ℕ → List ℕ
big_header magic link =
    magic ++ (0 ∷ 2 ∷ 0 ∷ 4 ∷ []) ++ replicate 8 0 ++ (0 ∷ 4 ∷ 0 ∷ 0 ∷ []) ++ (0 ∷ 0 ∷ 0 ∷ link ∷ [])

-- a record's header with this captured length, of a record that had 16 octets
abbrev little_record : ℕ → List ℕ
little_record count = replicate 8 0 ++ (count ∷ 0 ∷ 0 ∷ 0 ∷ []) ++ (16 ∷ 0 ∷ 0 ∷ 0 ∷ [])

abbrev big_record : ℕ → List ℕ
big_record count = replicate 8 0 ++ (0 ∷ 0 ∷ 0 ∷ count ∷ []) ++ (0 ∷ 0 ∷ 0 ∷ 16 ∷ [])

-- the magic number of microseconds, least significant octet first
abbrev micro : List ℕ
micro = 0xD4 ∷ 0xC3 ∷ 0xB2 ∷ 0xA1 ∷ []

-- a trace of one frame
abbrev one : List ℕ
one = little_header micro 227 ++ little_record 16 ++ r

-- traces of four magics
microseconds_low_first : whole_trace one ≡ Ok (r ∷ [])
unfolding reading header_of contents records beginning
microseconds_low_first = refl

nanoseconds_low_first : whole_trace (little_header (0x4D ∷ 0x3C ∷ 0xB2 ∷ 0xA1 ∷ []) 227 ++ little_record 16 ++ r) ≡ Ok (r ∷ [])
unfolding reading header_of contents records beginning
nanoseconds_low_first = refl

microseconds_high_first : whole_trace (big_header (0xA1 ∷ 0xB2 ∷ 0xC3 ∷ 0xD4 ∷ []) 227 ++ big_record 16 ++ r) ≡ Ok (r ∷ [])
unfolding reading header_of contents records beginning
microseconds_high_first = refl

nanoseconds_high_first : whole_trace (big_header (0xA1 ∷ 0xB2 ∷ 0x3C ∷ 0x4D ∷ []) 227 ++ big_record 16 ++ r) ≡ Ok (r ∷ [])
unfolding reading header_of contents records beginning
nanoseconds_high_first = refl

-- a trace that ends early
cut : (whole_trace (take 32 one) ≡ Err Cut) × (whole_trace [] ≡ Err Cut) × (whole_trace (take 24 one) ≡ Ok [])
unfolding reading header_of contents records beginning
cut = (refl, refl, refl)

-- what is wrong with a header
other_link : whole_trace (little_header micro 1 ++ little_record 16 ++ r) ≡ Err BadLink
unfolding reading header_of contents records beginning
other_link = refl

other_version : whole_trace (micro ++ (2 ∷ 0 ∷ 3 ∷ 0 ∷ []) ++ replicate 16 0) ≡ Err BadVersion
unfolding reading header_of contents records beginning
other_version = refl

other_magic : whole_trace (replicate 24 0) ≡ Err BadMagic
unfolding reading header_of contents records beginning
other_magic = refl

-- a captured length of 17: at the 40th octet, and no sooner
too_long : IsRefused (take 39 (little_header micro 227 ++ little_record 17)) (0 ∷ []) (BadRecord 0 (TooLong 17))
    × (whole_trace (take 39 (little_header micro 227 ++ little_record 17)) ≡ Err Cut)
unfolding reading header_of contents records beginning
too_long = (record { nothing = refl; fault_shows = refl }, refl)

-- a fault behind a whole frame waits for the next piece, whatever it brings
late : Gives [] (one ++ little_record 17) (r ∷ []) × IsRefused (one ++ little_record 17) r (BadRecord 1 (TooLong 17))
unfolding reading header_of contents records beginning
late = (record { so_far = refl; sound = λ none. absurd (cc) }, record { nothing = refl; fault_shows = refl })

-- a record that is no frame, once it is whole
no_frame : whole_trace (little_header micro 227 ++ little_record 16 ++ replicate 16 9) ≡ Err (BadRecord 0 (BadLength 9))
unfolding reading header_of contents records beginning
no_frame = refl

-- shares of three frames among two ports, and of one frame
shares : (a b c : List ℕ) → (share_of 0 2 (a ∷ b ∷ c ∷ []) ≡ a ∷ c ∷ []) × (share_of 1 2 (a ∷ b ∷ c ∷ []) ≡ b ∷ [])
    × (share_of 1 2 (a ∷ []) ≡ [])
shares a b c = (refl, refl, refl)
