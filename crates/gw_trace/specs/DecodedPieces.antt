-- What a piece adds to a trace.
use Rattle.std.specs.Prelude.{◌≡◌, ℕ, List, [], ◌∷◌, ◌++◌, Option, None}
use Rattle.std.specs.Option.{option_to_list}
use Rattle.std.specs.Io.KnownBytes.{Consumes}
use Rattle.gw_trace.specs.declared.decoded_piece.DecodedPiece.{DecodedPiece}
use Rattle.gw_trace.specs.declared.stage.Stage.{Stage}
use Rattle.gw_trace.specs.declared.refusal.TraceRefusal.{TraceRefusal}
use Rattle.gw_trace.specs.Traces.{Reading, reading}
use Rattle.gw_trace.specs.Progress.{Progress, HasRead, kept_after, fault_in}

abbrev pub frames_in : DecodedPiece → List (List ℕ)
frames_in decoded = option_to_list decoded.first ++ decoded.others

-- the frames of a reading behind so many others, and what is kept of it
pub record IsDecoded (decoded : DecodedPiece) (given : ℕ) (reading : Reading) : Type 0 where
  pub frames : frames_in decoded ≡ reading.frames
  pub next : decoded.next ≡ kept_after given reading

-- a fault with no frame before it
abbrev pub refusal_in : List (List ℕ) → Stage → Option TraceRefusal
refusal_in [] stage = fault_in stage
refusal_in (frame ∷ frames) stage = None

-- a reader gave octets, of which these are the frames, and the trace was fed them
pub record HasGiven (before after : Option (List ℕ)) (trace : Progress) (frames : List (List ℕ)) : Type 0 where
  pub octets : List ℕ
  pub consumed : Consumes before after octets
  pub read : HasRead trace octets
  pub given : frames ≡ (reading octets).frames
