-- The answers of a script: each line is judged after the lines before it.
use Rattle.std.specs.Prelude.{◌≡◌, ◌≤◌, ℕ, ◌==◌, Bool, true, false, not, ◌&&◌, ◌||◌, is_err, nat_le, nat_lt, if◌then◌else◌}
use Rattle.std.specs.Prelude.{List, [], ◌∷◌, ◌++◌}
use Rattle.std.specs.Prelude.{length, reverse, codes, Option, Some, None, Result, Ok, Err}
use Rattle.std.specs.List.{list_all}
use Rattle.std.specs.Option.{option_map_or}
use Rattle.gw_ledger.specs.Bounds.{Bounds}
use Rattle.gw_replay.specs.declared.fault.Fault.{Fault}
use Rattle.gw_replay.specs.declared.fault.Fault.TheVariants as fault
use Rattle.gw_replay.specs.Faults.{line_of}
use Rattle.gw_input.specs.Bounds.{most_octets}
use Rattle.gw_input.specs.Lines.{lines_of}
use Rattle.gw_policy.specs.Filter.{Filter}
use Rattle.gw_core.specs.declared.event.Event.TheVariants as event
use Rattle.gw_input.specs.Refused.{refused_line}
use Rattle.gw_replay.specs.Requests.{Request, limits_of, program_of, table_of, publish_all, take_at, step_at, send_to, ledger_of}
use Rattle.gw_replay.specs.Requests.{request_of}
use Rattle.gw_replay.specs.Telling.{TellsProgram, table_told, record_told}
use Rattle.gw_replay.specs.Replies.{SessionState, Reply, after_event, after_joining, after_publishing, joined_line, ledger_said}

-- what a line says by itself: nothing, no command, or a command
pub data Meaning : Type 0 where
  silent : Meaning
  wrong : Fault → Meaning
  asks : Request → Meaning

-- an empty line and one that begins with `#` have no answer
abbrev pub is_silent : List ℕ → Bool
is_silent [] = true
is_silent (c ∷ cs) = c == 35

-- no octet is above 127
abbrev pub is_ascii : List ℕ → Bool
is_ascii line = list_all (λ c. nat_lt c 128) line

-- what a line says
abbrev pub meaning_of : List ℕ → Meaning
meaning_of line =
    if is_silent line then silent
    else if nat_lt most_octets (length line) then wrong fault.LongLine
    else if not (is_ascii line) then wrong fault.NoAscii
    else option_map_or asks (request_of line) (wrong fault.NoCommand)

-- the answer of a line, the gateway that stands afterwards, if limits were accepted, and whether the line is refused; of lines,
-- whether one is
pub record Told : Type 0 where
  pub text : List ℕ
  pub session : Option SessionState
  pub refused : Bool

-- from one number to another
abbrev pub is_within : ℕ → ℕ → ℕ → Bool
is_within low high n = nat_le low n && nat_le n high

-- 2 to 16 ports, lanes of 1 to 1024 copies, 1 to 65535 versions, and 1 to 4294967295 frames
abbrev pub limits_fit : Bounds → Bool
limits_fit limits =
    (is_within 2 16 limits.ports && is_within 1 1024 limits.lane)
    && (is_within 1 65535 limits.versions && is_within 1 4294967295 limits.frames)

-- a new gateway
abbrev pub new_session : Bounds → SessionState
new_session limits = record { limits = limits; batch = []; history = [] }

-- a line while there is no gateway
abbrev pub told_without : Result (List ℕ) Fault → Told
told_without said = record { text = line_of said; session = None; refused = is_err said }

-- limits make a gateway where they are within their ranges
abbrev pub after_limits : Bounds → Told
after_limits limits =
    if limits_fit limits then record { text = codes "limits\n"; session = Some (new_session limits); refused = false }
    else told_without (Err (fault.BadLimits))

-- before limits were accepted no other command is
abbrev pub first_told : Request → Told
first_told (limits_of ports lane versions frames) =
    after_limits (record { ports = ports; lane = lane; versions = versions; frames = frames })
first_told _ = told_without (Err fault.NoLimits)

-- what a script tells of a reply
abbrev pub told_of : Reply → Told
told_of reply = record { text = line_of reply.said; session = Some reply.session; refused = is_err reply.said }

-- of a policy's text: the policy joins the open batch, or the line says why there is none
abbrev pub told_joining : SessionState → List ℕ → ℕ → Result Filter (List ℕ) → Told
told_joining s line port (Ok filter) = told_of (after_joining s line port (Ok filter))
told_joining s line port (Err text) = record { text = text; session = Some s; refused = true }

-- of a record's text: the frame is taken, or the line has the number of its refusal
abbrev pub told_taking : SessionState → ℕ → Result (List ℕ) ℕ → Told
told_taking s port (Ok octets) = told_of (after_event s (event.Take port octets))
told_taking s port (Err number) = record { text = refused_line number []; session = Some s; refused = true }

-- the answer of a command once limits were accepted, and what stands afterwards
abbrev pub Tells : SessionState → Request → Told → Type 0
Tells s (limits_of ports lane versions frames) told = told ≡ told_of (record { said = Err fault.SecondLimits; session = s })
Tells s (program_of port listing) told =
    (read : Result Filter (List ℕ)) × TellsProgram listing read
    × (told ≡ told_joining s (joined_line (codes "program ") port) port read)
Tells s (table_of port hex) told = told ≡ told_joining s (joined_line (codes "table ") port) port (table_told hex)
Tells s publish_all told = told ≡ told_of (after_publishing s)
Tells s (take_at port hex) told = told ≡ told_taking s port (record_told hex)
Tells s (step_at port) told = told ≡ told_of (after_event s (event.Step port))
Tells s (send_to to from) told = told ≡ told_of (after_event s (event.Send to from))
Tells s (ledger_of port) told = told ≡ told_of (record { said = ledger_said s port; session = s })

-- the answer of a command, and what stands afterwards
abbrev pub Obeys : Option SessionState → Request → Told → Type 0
Obeys None request told = told ≡ first_told request
Obeys (Some s) request told = Tells s request told

-- the answer of a line by its meaning
abbrev pub Answers : Option SessionState → Meaning → Told → Type 0
Answers s silent told = told ≡ record { text = []; session = s; refused = false }
Answers s (wrong fault) told = told ≡ record { text = line_of (Err fault); session = s; refused = true }
Answers s (asks request) told = Obeys s request told

-- the answers of lines, of which the last stands first here, the gateway that stands after them, and whether one is refused
abbrev pub AreAnswers : List (List ℕ) → Told → Type 0
AreAnswers [] told = told ≡ record { text = []; session = None; refused = false }
AreAnswers (line ∷ before) told =
    (earlier : Told) × (one : Told) × AreAnswers before earlier × Answers earlier.session (meaning_of line) one
    × (told ≡ record {
      text = earlier.text ++ one.text;
      session = one.session;
      refused = earlier.refused || one.refused;
    })

-- the answers of a script, and whether one of its lines is refused
pub record IsAnswer (script text : List ℕ) (refused : Bool) : Type 0 where
  pub session : Option SessionState
  pub answers : AreAnswers (reverse (lines_of script)) (record { text = text; session = session; refused = refused })

-- the answers of a script's first lines
pub record BeginsAnswer (script text : List ℕ) : Type 0 where
  pub first : List (List ℕ)
  pub later : List (List ℕ)
  pub lines : lines_of script ≡ first ++ later
  pub session : Option SessionState
  pub refused : Bool
  pub answers : AreAnswers (reverse first) (record { text = text; session = session; refused = refused })

-- the answers of the lines that a line feed ends in a script: what stands behind the last line feed has none
pub record AnswersEnded (script text : List ℕ) : Type 0 where
  pub ended : List (List ℕ)
  pub unfinished : List ℕ
  pub lines : lines_of script ≡ ended ++ unfinished ∷ []
  pub session : Option SessionState
  pub refused : Bool
  pub answers : AreAnswers (reverse ended) (record { text = text; session = session; refused = refused })

-- the answers of a script's first lines: of all that a line feed ends before its last 65536 octets, and maybe of more
pub record AnswersMost (script text : List ℕ) : Type 0 where
  pub front : List ℕ
  pub piece : List ℕ
  pub cut : script ≡ front ++ piece
  pub short : length piece ≤ 65536
  pub early : List ℕ
  pub late : List ℕ
  pub ended : AnswersEnded front early
  pub whole : text ≡ early ++ late
  pub begins : BeginsAnswer script text
