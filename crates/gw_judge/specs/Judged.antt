-- What judging a log writes and counts: `before` and `after` are what its reader has left, `old` and `new` what its writer took.
use Rattle.std.specs.Prelude.{◌≡◌, ◌⊎◌, ◌≤◌, ℕ, ◌+◌, Bool, true, false, if◌then◌else◌, List, [], ◌∷◌, ◌++◌, length, map, All}
use Rattle.std.specs.Prelude.{Option, Some, None, codes}
use Rattle.std.specs.List.{flat_map, slice_split}
use Rattle.std.specs.Io.KnownBytes.{Appends, Consumes, IsAtEnd}
use Rattle.gw_io.specs.Written.{WritesPart}
use Rattle.gw_input.specs.Lines.{is_line_feed}
use Rattle.gw_input.specs.RuleLines.{rule_name}
use Rattle.gw_log.specs.LogFrames.{refusal_number}
use Rattle.gw_table.specs.declared.table.Part.{Part}
use Rattle.gw_table.specs.declared.table.Part.TheVariants.{Rule, Default, Other}
use Rattle.gw_judge.specs.declared.fate.Fate.{Fate}
use Rattle.gw_judge.specs.declared.fate.Fate.TheVariants.{Passed, Blocked, Silent, Refused}
use Rattle.gw_judge.specs.declared.report.Wanted.{Wanted}
use Rattle.gw_judge.specs.declared.report.Wanted.TheVariants as wanted
use Rattle.gw_judge.specs.declared.tally.Tally.{Tally}
use Rattle.gw_judge.specs.declared.fault.RefusedLine.{RefusedLine}
use Rattle.gw_judge.specs.declared.fault.JudgeFault.{JudgeFault}
use Rattle.gw_judge.specs.declared.fault.JudgeFault.TheVariants as ends
use Rattle.gw_judge.specs.Fates.{is_passed, is_blocked, is_refused}
use Rattle.gw_judge.specs.Tallies.{up_to_most, IsTally}

-- lines with their line feeds, but the last, which has none; an empty last line is none
abbrev pub last_line : List ℕ → List (List ℕ)
last_line [] = []
last_line (c ∷ cs) = (c ∷ cs) ∷ []

abbrev pub with_ends : List (List ℕ) → List (List ℕ)
with_ends [] = []
with_ends (last ∷ []) = last_line last
with_ends (line ∷ next ∷ more) = (line ++ 10 ∷ []) ∷ with_ends (next ∷ more)

-- the lines of a log with their ends; together they are the log
unfoldable pub log_lines : List ℕ → List (List ℕ)
log_lines log = with_ends (slice_split is_line_feed log)

-- what decides a frame, in words: a rule by its number and the line at which it stands, `default` or `other`; a program has no
-- parts
abbrev pub part_text : List ℕ → Option Part → List ℕ
part_text lines (Some (Rule number)) = rule_name lines number ++ codes " "
part_text lines (Some Default) = codes "default "
part_text lines (Some Other) = codes "other "
part_text lines None = []

abbrev pub front_line : List ℕ → List ℕ → Option Part → List ℕ
front_line verdict lines part = verdict ++ codes " " ++ part_text lines part

-- the verdict on a frame, and what decides it; no other line is written
abbrev pub verdict_front : List ℕ → Fate → Option (List ℕ)
verdict_front lines (Passed frame) = Some (front_line (codes "pass") lines frame.part)
verdict_front lines (Blocked frame) = Some (front_line (codes "block") lines frame.part)
verdict_front lines Silent = None
verdict_front lines (Refused why) = None

-- nothing stands in front of the lines that pass or are blocked, and no other line is written; or of each frame the verdict
abbrev pub wanted_front : List ℕ → Wanted → Fate → Option (List ℕ)
wanted_front lines wanted.Passed fate = if is_passed fate then Some [] else None
wanted_front lines wanted.Blocked fate = if is_blocked fate then Some [] else None
wanted_front lines wanted.Each fate = verdict_front lines fate
wanted_front lines wanted.Nothing fate = None

-- what is written of a line: it stands unchanged behind its front; a line that is refused, or has no front, is not written
abbrev pub behind_front : Option (List ℕ) → List ℕ → List ℕ
behind_front None line = []
behind_front (Some front) line = front ++ line

abbrev pub line_text : (Fate → Option (List ℕ)) → Fate → List ℕ → List ℕ
line_text front (Passed frame) line = behind_front (front (Passed frame)) line
line_text front (Blocked frame) line = behind_front (front (Blocked frame)) line
line_text front Silent line = behind_front (front Silent) line
line_text front (Refused why) line = []

-- what is written of lines, in order
unfoldable pub written_of : (List ℕ → Fate) → (Fate → Option (List ℕ)) → List (List ℕ) → List ℕ
written_of fate front lines = flat_map (λ line. line_text front (fate line) line) lines

-- none of the lines is refused
abbrev pub AreFine : (List ℕ → Fate) → List (List ℕ) → Type 0
AreFine fate lines = All (λ line. is_refused (fate line) ≡ false) lines

-- the reader gave a whole log, what its lines ask for was written, and they were counted; strictly none of them is refused
pub record IsJudged (fate : List ℕ → Fate) (front : Fate → Option (List ℕ)) (strict : Bool)
    (before after old new : Option (List ℕ)) (tally : Tally) : Type 0 where
  pub log : List ℕ
  pub consumed : Consumes before after log
  pub end : IsAtEnd after
  pub written : Appends old new (written_of fate front (log_lines log))
  pub tallied : IsTally (map fate (log_lines log)) tally
  pub fine : strict ≡ true → AreFine fate (log_lines log)

-- the first line of a log that is refused, and what is written of the lines before it
pub record IsFirstRefused (fate : List ℕ → Fate) (front : Fate → Option (List ℕ)) (log text : List ℕ) (refused : RefusedLine)
    : Type 0 where
  pub lines : List (List ℕ)
  pub line : List ℕ
  pub more : List (List ℕ)
  pub split : log_lines log ≡ lines ++ line ∷ more
  pub fine : AreFine fate lines
  pub why : fate line ≡ Refused refused.why
  pub number : refused.line ≡ up_to_most (length lines + 1)
  pub written : text ≡ written_of fate front lines

-- a read failed, or a log of 2^64 - 1 octets has no end; or a write failed; or, strictly, a line is refused and all that the
-- lines before it ask for was written
abbrev pub IsJudgeFault : (List ℕ → Fate) → (Fate → Option (List ℕ)) → Bool → Bool → Bool → List ℕ → Option (List ℕ)
    → Option (List ℕ) → JudgeFault → Type 0
IsJudgeFault fate front strict read_failed write_failed log old new ends.ReadFault =
    (read_failed ≡ true) ⊎ (18446744073709551615 ≤ length log)
IsJudgeFault fate front strict read_failed write_failed log old new ends.WriteFault = write_failed ≡ true
IsJudgeFault fate front strict read_failed write_failed log old new (ends.Refused refused) =
    (strict ≡ true) × ((text : List ℕ) × Appends old new text × IsFirstRefused fate front log text refused)

-- the reader gave a part of a log, and a beginning of what its lines ask for was written
pub record IsPartlyJudged (fate : List ℕ → Fate) (front : Fate → Option (List ℕ)) (strict : Bool)
    (before after old new : Option (List ℕ)) (read_failed write_failed : Bool) (why : JudgeFault) : Type 0 where
  pub log : List ℕ
  pub consumed : Consumes before after log
  pub written : WritesPart old new (written_of fate front (log_lines log))
  pub fault : IsJudgeFault fate front strict read_failed write_failed log old new why

-- the number by which a fault is told
abbrev pub fault_number : JudgeFault → ℕ
fault_number ends.ReadFault = 96
fault_number ends.WriteFault = 99
fault_number (ends.Refused refused) = refusal_number refused.why
