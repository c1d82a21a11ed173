-- What leaves at the interfaces of a gateway, whose ports take the frames of a log in its own order: `before` and `after` are
-- what its reader has left, `old` and `new` what its writer took. A list of lines has the newest first, as one of batches has.
use Rattle.std.specs.Prelude.{◌≡◌, ◌⊎◌, ◌≤◌, ℕ, ◌==◌, nat_lt, Bool, true, if◌then◌else◌, List, [], ◌∷◌, ◌++◌, length, reverse}
use Rattle.std.specs.Prelude.{Option, Some, None, Ok, Err, codes}
use Rattle.std.specs.List.{flat_map}
use Rattle.std.specs.Io.KnownBytes.{Appends, Consumes, IsAtEnd}
use Rattle.gw_io.specs.Written.{WritesPart}
use Rattle.gw_log.specs.LogLines.{Entry, Reading, line_of}
use Rattle.gw_log.specs.LogTexts.{text_of}
use Rattle.gw_claims.specs.Claims.{is_local}
use Rattle.gw_policy.specs.Batches.{Pair}
use Rattle.gw_policy.specs.Allowed.{allowed_ports}
use Rattle.gw_judge.specs.declared.interfaces.NamedInterface.{NamedInterface}
use Rattle.gw_judge.specs.declared.fault.JudgeFault.{JudgeFault}
use Rattle.gw_judge.specs.declared.fault.JudgeFault.TheVariants as ends
use Rattle.gw_judge.specs.Interfaces.{port_named, taken}
use Rattle.gw_judge.specs.Judged.{log_lines}

-- the records that were heard at a port: those of the lines whose interface is named for it
abbrev pub heard_at : List NamedInterface → List (List ℕ) → ℕ → List (List ℕ)
heard_at names lines port = flat_map (λ line. taken (port_named names) port (line_of line)) lines

-- a time or an interface that is there, with a blank behind it
abbrev pub word_text : List ℕ → List ℕ
word_text word = if length word == 0 then [] else word ++ codes " "

-- a frame at an egress interface, as `candump -l` writes it: `(time) interface frame`
abbrev pub untimed_line : List ℕ → List ℕ → List ℕ
untimed_line octets interface = word_text interface ++ (text_of octets ++ codes "\n")

abbrev pub egress_line : Entry → List ℕ → List ℕ
egress_line entry interface = word_text entry.time ++ untimed_line entry.octets interface

-- a line for each interface that is named for a port
abbrev pub lines_at : List NamedInterface → Entry → ℕ → List ℕ
lines_at names entry port = flat_map (λ named. if named.port == port then egress_line entry named.name.now else []) names

-- the lines at the ports to which a frame is allowed that is taken at a port after these lines
abbrev pub egress_lines : List NamedInterface → List (List Pair) → List (List ℕ) → Entry → ℕ → List ℕ
egress_lines names batches lines entry own =
    flat_map (lines_at names entry)
    (allowed_ports 16 (is_local (heard_at names lines own) entry.octets) batches own entry.octets)

-- a gateway has at most 16 ports, and the frames of an interface that is named for none of them are not taken
abbrev pub taken_lines : List NamedInterface → List (List Pair) → List (List ℕ) → Entry → Option ℕ → List ℕ
taken_lines names batches lines entry None = []
taken_lines names batches lines entry (Some own) = if nat_lt own 16 then egress_lines names batches lines entry own else []

-- what leaves of a line after these lines
abbrev pub reading_lines : List NamedInterface → List (List Pair) → List (List ℕ) → Reading → List ℕ
reading_lines names batches lines (Err why) = []
reading_lines names batches lines (Ok None) = []
reading_lines names batches lines (Ok (Some entry)) =
    taken_lines names batches lines entry (port_named names entry.interface)

-- what leaves of lines: of the earlier ones, and then of the newest after these
unfoldable pub egress_text : List NamedInterface → List (List Pair) → List (List ℕ) → List ℕ
egress_text names batches [] = []
egress_text names batches (newest ∷ earlier) =
    egress_text names batches earlier ++ reading_lines names batches earlier (line_of newest)

-- the same of a log
abbrev pub log_egress : List NamedInterface → List (List Pair) → List ℕ → List ℕ
log_egress names batches log = egress_text names batches (reverse (log_lines log))

-- the reader gave a whole log, and what leaves was written
pub record WritesEgress (names : List NamedInterface) (batches : List (List Pair)) (before after old new : Option (List ℕ))
    : Type 0 where
  pub log : List ℕ
  pub consumed : Consumes before after log
  pub end : IsAtEnd after
  pub written : Appends old new (log_egress names batches log)

-- a read failed, or a log of 2^64 - 1 octets has no end; or a write failed
abbrev pub IsEgressFault : Bool → Bool → List ℕ → JudgeFault → Type 0
IsEgressFault read_failed write_failed log ends.ReadFault = (read_failed ≡ true) ⊎ (18446744073709551615 ≤ length log)
IsEgressFault read_failed write_failed log ends.WriteFault = write_failed ≡ true
IsEgressFault read_failed write_failed log (ends.Refused refused) = ⊥

-- the reader gave a part of a log, and a beginning of what leaves was written
pub record WritesPartOfEgress (names : List NamedInterface) (batches : List (List Pair))
    (before after old new : Option (List ℕ)) (read_failed write_failed : Bool) (why : JudgeFault) : Type 0 where
  pub log : List ℕ
  pub consumed : Consumes before after log
  pub written : WritesPart old new (log_egress names batches log)
  pub fault : IsEgressFault read_failed write_failed log why
