-- Classic pcap traces of link type 227 (LINKTYPE_CAN_SOCKETCAN), as the manual page pcap-savefile has them: a header of 24
-- octets (magic number, version, zone, accuracy, snapshot length, link type), then records, each behind a header of 16
-- octets (seconds, fraction, captured length, original length).
use Rattle.std.specs.Prelude.{ℕ, zero, suc, ◌+◌, ◌==◌, nat_lt, min, Bool, not, ◌&&◌, ◌||◌, if◌then◌else◌, List, [], ◌∷◌, length}
use Rattle.std.specs.Prelude.{take, drop, Option, Some, None, Result, Ok, Err}
use Rattle.std.specs.Option.{option_map_or}
use Rattle.byteorder.specs.Endian.{big_number, little_number}
use Rattle.gw_frame.specs.declared.refusal.FrameRefusal.{FrameRefusal}
use Rattle.gw_frame.specs.declared.refusal.FrameRefusal.TheVariants.{TooShort, TooLong}
use Rattle.gw_frame.specs.Record.{refusal_of}
use Rattle.gw_trace.specs.declared.byte_order.Endian.{Endian}
use Rattle.gw_trace.specs.declared.byte_order.Endian.TheVariants.{Big, Little}
use Rattle.gw_trace.specs.declared.record.Beginning.{Beginning}
use Rattle.gw_trace.specs.declared.record.Beginning.TheVariants.{Unfinished, Bad, Whole}
use Rattle.gw_trace.specs.declared.stage.Stage.{Stage}
use Rattle.gw_trace.specs.declared.stage.Stage.TheVariants.{Header, Records, Failed}
use Rattle.gw_trace.specs.declared.refusal.TraceRefusal.{TraceRefusal}
use Rattle.gw_trace.specs.declared.refusal.TraceRefusal.TheVariants.{BadMagic, BadVersion, BadLink, BadRecord, Cut}

-- the number in the first octets, so many, in the writer's byte order
abbrev pub number : Endian → ℕ → List ℕ → ℕ
number Big count octets = big_number count octets
number Little count octets = little_number count octets

-- the number in so many octets from an offset on
abbrev pub field : Endian → ℕ → ℕ → List ℕ → ℕ
field order at count octets = number order count (take count (drop at octets))

-- 0xA1B2C3D4, or 0xA1B23C4D where the fractions of seconds are nanoseconds
abbrev pub is_magic : ℕ → Bool
is_magic n = (n == 0xA1B2C3D4) || (n == 0xA1B23C4D)

-- the writer's byte order, which the magic number shows
abbrev pub order_of : List ℕ → Option Endian
order_of header =
    if is_magic (field Big 0 4 header) then Some Big
    else if is_magic (field Little 0 4 header) then Some Little
    else None

abbrev pub is_version_2_4 : Endian → List ℕ → Bool
is_version_2_4 order header = (field order 4 2 header == 2) && (field order 6 2 header == 4)

abbrev pub is_link_227 : Endian → List ℕ → Bool
is_link_227 order header = field order 20 4 header == 227

-- what is wrong with the header of a trace in this byte order, if there is one
abbrev pub header_in : List ℕ → Option Endian → Result Endian TraceRefusal
header_in header None = Err BadMagic
header_in header (Some order) =
    if not (is_version_2_4 order header) then Err BadVersion
    else if not (is_link_227 order header) then Err BadLink
    else Ok order

-- the byte order of a trace with this header, or what is wrong with the header
unfoldable pub header_of : List ℕ → Result Endian TraceRefusal
header_of header = header_in header (order_of header)

-- the captured length, as a record's header has it
abbrev pub captured_length : Endian → List ℕ → ℕ
captured_length order octets = field order 8 4 octets

-- the octets of the record behind its header, of this captured length
abbrev pub captured : ℕ → List ℕ → List ℕ
captured count octets = take count (drop 16 octets)

-- what a record of this captured length is, where so many octets are there and, once it is whole, this is wrong with it
abbrev pub begun : ℕ → ℕ → Option FrameRefusal → Beginning
begun there count refusal =
    if nat_lt there 16 then Unfinished
    else if nat_lt count 8 then Bad (TooShort count)
    else if nat_lt 16 count then Bad (TooLong count)
    else if nat_lt there (16 + count) then Unfinished
    else option_map_or Bad refusal (Whole count)

-- what the octets behind a header or a record begin with. A captured length outside 8 to 16 shows as soon as the record's
-- header is whole.
unfoldable pub beginning : Endian → List ℕ → Beginning
beginning order octets =
    begun (length octets) (captured_length order octets) (refusal_of (captured (captured_length order octets) octets))

-- what octets behind a header hold: the frames of the whole records up to the first fault, what stands behind the last of
-- these records, and what is wrong with the record that it begins with
pub record Contents : Type 0 where
  pub frames : List (List ℕ)
  pub rest : List ℕ
  pub fault : Option FrameRefusal

abbrev pub stopped : List ℕ → Option FrameRefusal → Contents
stopped octets fault = record { frames = []; rest = octets; fault = fault }

abbrev pub behind : List ℕ → Contents → Contents
behind frame contents = record contents { frames = frame ∷ contents.frames }

-- the contents of octets that begin in this way, where the rest behind a whole record has its own
abbrev pub contents_from : List ℕ → Beginning → (List ℕ → Contents) → Contents
contents_from octets Unfinished contents = stopped octets None
contents_from octets (Bad why) contents = stopped octets (Some why)
contents_from octets (Whole count) contents = behind (captured count octets) (contents (drop (16 + count) octets))

-- the contents of octets that hold at most so many records
unfoldable pub records : ℕ → Endian → List ℕ → Contents
records zero order octets = stopped octets None
records (suc most) order octets = contents_from octets (beginning order octets) (λ rest. records most order rest)

unfoldable pub contents : Endian → List ℕ → Contents
contents order octets = records (length octets) order octets

-- how far octets are a trace: the frames of the whole records up to the first fault; what stands behind the last of these
-- (or behind the header, or all of it where no header is whole); and whether that is within the header, behind it, or
-- behind a fault, where nothing counts any more
pub record Reading : Type 0 where
  pub frames : List (List ℕ)
  pub rest : List ℕ
  pub stage : Stage

-- a record's number, counted from 0, as a refusal tells it
abbrev pub index_of : ℕ → ℕ
index_of n = min n 18446744073709551615

-- the reading of records that stand behind so many others
abbrev pub reading_from : Endian → ℕ → Contents → Reading
reading_from order before contents = record {
  frames = contents.frames;
  rest = option_map_or (λ why. []) contents.fault contents.rest;
  stage = option_map_or (λ why. Failed (BadRecord (index_of (before + length contents.frames)) why)) contents.fault
      (Records order);
}

-- the reading of what stands behind a header
abbrev pub reading_behind : Result Endian TraceRefusal → List ℕ → Reading
reading_behind (Err fault) octets = record { frames = []; rest = []; stage = Failed fault }
reading_behind (Ok order) octets = reading_from order 0 (contents order octets)

-- 'Trace': what octets say, read from the beginning
unfoldable pub reading : List ℕ → Reading
reading octets =
    if nat_lt (length octets) 24 then record { frames = []; rest = octets; stage = Header }
    else reading_behind (header_of (take 24 octets)) (drop 24 octets)

-- what is wrong with a trace that ends here: its fault, or that it is cut inside its header or a record
abbrev pub ending : Stage → List ℕ → Option TraceRefusal
ending Header rest = Some Cut
ending (Records order) [] = None
ending (Records order) (octet ∷ rest) = Some Cut
ending (Failed fault) rest = Some fault

-- a whole trace: its frames, or what is wrong with it
abbrev pub whole_trace : List ℕ → Result (List (List ℕ)) TraceRefusal
whole_trace octets =
    let r = reading octets in
    option_map_or Err (ending r.stage r.rest) (Ok r.frames)
