-- What the command `claims` tells of a log: who holds which address at each interface. `before` and `after` are what its reader
-- has left, `old` and `new` what its writer took.
use Rattle.std.specs.Prelude.{◌≡◌, ◌⊎◌, ℕ, Bool, false, not, List, [], ◌∷◌, ◌++◌, map, reverse, All}
use Rattle.std.specs.Prelude.{Option, Result, Err, MatchResult}
use Rattle.std.specs.List.{filter, flat_map, range_with_len}
use Rattle.std.specs.Option.{option_map_or}
use Rattle.std.specs.Str.{bytes_eq}
use Rattle.gw_claims.specs.Holders.{holder_of, HoldsAfter}
use Rattle.gw_log.specs.LogLines.{Entry}
use Rattle.gw_judge.specs.declared.listener.ListenFault.TheVariants as listening
use Rattle.gw_judge.specs.declared.tally.Tally.{Tally}
use Rattle.gw_judge.specs.Heard.{IsHeard, IsPartlyHeard}
use Rattle.gw_answers.specs.declared.answer.Answer.{Answer}
use Rattle.gw_answers.specs.declared.answer.Answer.TheVariants.{Text}
use Rattle.gw_answers.specs.declared.refusal.Refusal.{Refusal}
use Rattle.gw_answers.specs.declared.refusal.Refusal.TheVariants.{ReadFault, OutOfMemory}
use Rattle.gw_answers.specs.Responses.{Writes}
use Rattle.gw_commands.specs.ClaimLines.{holder_line}

-- each name once, in the order in which they first come
abbrev pub distinct : List (List ℕ) → List (List ℕ)
distinct [] = []
distinct (name ∷ names) = name ∷ filter (λ other. not (bytes_eq name other)) (distinct names)

-- the interfaces of a log, in the order of their first frames; all frames without an interface stand at the one without a name
unfoldable pub interfaces_of : List Entry → List (List ℕ)
interfaces_of entries = distinct (map (λ said. said.interface) entries)

-- the frames at an interface, newest first
unfoldable pub records_at : List ℕ → List Entry → List (List ℕ)
records_at interface entries =
    reverse (map (λ said. said.octets) (filter (λ said. bytes_eq said.interface interface) entries))

-- an interface, and the NAME that holds each address there
pub record Segment : Type 0 where
  pub interface : List ℕ
  pub table : List (Option ℕ)

-- the segments of a log: one for each interface, with the claims of just its frames
pub record AreSegments (entries : List Entry) (segments : List Segment) : Type 0 where
  pub interfaces : map (λ segment. segment.interface) segments ≡ interfaces_of entries
  pub each : All (λ segment. HoldsAfter segment.table (records_at segment.interface entries)) segments

-- what stands in front of the lines of an interface: its name and a space; where it has no name, nothing
abbrev pub interface_front : List ℕ → List ℕ
interface_front [] = []
interface_front (c ∷ cs) = (c ∷ cs) ++ 32 ∷ []

-- the lines of the addresses that are held at an interface, in ascending order
abbrev pub line_of : Segment → ℕ → List ℕ
line_of segment address =
    option_map_or (λ name. interface_front segment.interface ++ holder_line address name) (holder_of segment.table address) []

unfoldable pub segment_lines : Segment → List ℕ
segment_lines segment = flat_map (line_of segment) (range_with_len 0 254)

-- those of all interfaces, in order
unfoldable pub segments_lines : List Segment → List ℕ
segments_lines segments = flat_map segment_lines segments

-- the reader gave a whole log, and these are the lines of its holders
pub record IsHeldInLog (before after : Option (List ℕ)) (read_failed : Bool) (lines : List ℕ) : Type 0 where
  pub segments : List Segment
  pub tally : Tally
  pub heard : IsHeard (λ entries. AreSegments entries segments) before after tally
  pub whole : read_failed ≡ false
  pub all : lines ≡ segments_lines segments

abbrev pub AnswersLog : Option (List ℕ) → Option (List ℕ) → Bool → Answer → Type 0
AnswersLog before after read_failed (Text lines) = IsHeldInLog before after read_failed lines.items
AnswersLog before after read_failed _ = ⊥

-- a read failed, or the log has no end; or memory was wanting
abbrev pub RefusesLog : Option (List ℕ) → Option (List ℕ) → Bool → Refusal → Type 0
RefusesLog before after read_failed ReadFault = IsPartlyHeard before after read_failed listening.ReadFault
RefusesLog before after read_failed OutOfMemory = Unit {0}
RefusesLog before after read_failed _ = ⊥

-- the holders of a log were told, or its refusal
pub record TellsHolders (before after : Option (List ℕ)) (read_failed : Bool) (old new : Option (List ℕ)) (failed : Bool)
    (status : ℕ) : Type 0 where
  pub found : Result Answer Refusal
  pub is_found : MatchResult found (AnswersLog before after read_failed) (RefusesLog before after read_failed)
  pub written : Writes found status old new failed

-- the same of a file, whatever it gives; or it could not be opened
abbrev pub TellsHoldersNamed : Option (List ℕ) → Option (List ℕ) → Bool → ℕ → Type 0
TellsHoldersNamed old new failed status =
    ((before : Option (List ℕ)) × (after : Option (List ℕ)) × (read_failed : Bool)
    × TellsHolders before after read_failed old new failed status)
    ⊎ Writes (Err ReadFault) status old new failed
