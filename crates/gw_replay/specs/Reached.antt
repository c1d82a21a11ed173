-- How far a script was read and answered.
use Rattle.std.specs.Prelude.{◌≡◌, ◌+◌, ℕ, Bool, true, false, ◌||◌, List, [], ◌∷◌, ◌++◌, map, reverse, take, All}
use Rattle.std.specs.Prelude.{Option, Some, None, Result, Ok, Err}
use Rattle.std.specs.Borrow.{Bor}
use Rattle.std.specs.List.{flat_map}
use Rattle.std.specs.Io.KnownBytes.{Appends, Consumes}
use Rattle.gw_replay.specs.declared.script_reader.ScriptReader.{ScriptReader}
use Rattle.gw_replay.specs.declared.whole.ReplayFault.{ReplayFault}
use Rattle.gw_replay.specs.declared.whole.ReplayFault.TheVariants.{ReadFault, WriteFault, OutOfMemory}
use Rattle.gw_input.specs.Bounds.{most_octets}
use Rattle.gw_input.specs.Lines.{is_line_feed, without_return}
use Rattle.gw_replay.specs.Replies.{SessionState}
use Rattle.gw_replay.specs.Scripts.{meaning_of, Answers, AreAnswers, BeginsAnswer, IsAnswer}
use Rattle.gw_replay.specs.Standing.{StandsIn}
use Rattle.gw_io.specs.Written.{WritesPart}

-- how many octets of an unfinished line are kept
abbrev pub most_kept : ℕ
most_kept = most_octets + 2

-- lines, each with a line feed behind it
abbrev pub joined : List (List ℕ) → List ℕ
joined lines = flat_map (λ line. line ++ 10 ∷ []) lines

-- no line feed
abbrev pub HasNoEnd : List ℕ → Type 0
HasNoEnd line = All (λ c. is_line_feed c ≡ false) line

-- the lines that were ended are answered with this text, and the unfinished line is kept
pub record HasReached (octets : List ℕ) (p : ScriptReader) (text : List ℕ) : Type 0 where
  pub lines : List (List ℕ)
  pub rest : List ℕ
  pub cut : octets ≡ joined lines ++ rest
  pub whole : All HasNoEnd lines
  pub endless : HasNoEnd rest
  pub kept : p.kept.items ≡ take most_kept rest
  pub session : Option SessionState
  pub answers : AreAnswers (reverse (map without_return lines)) (record { text = text; session = session; refused = p.refused })
  pub stands : StandsIn p.script.session session

-- one line was answered
pub record AnswersKept (s : Option SessionState) (line : List ℕ) (old new : ScriptReader) : Type 0 where
  pub text : List ℕ
  pub session : Option SessionState
  pub refused : Bool
  pub answers : Answers s (meaning_of line) (record { text = text; session = session; refused = refused })
  pub stands : StandsIn new.script.session session
  pub told : new.refused ≡ (old.refused || refused)
  pub appended : new.answers.items ≡ old.answers.items ++ text

-- a text up to the end of its first line was read, and this stands behind it
pub record Passes (octets piece before behind : List ℕ) (new : ScriptReader) : Type 0 where
  pub head : List ℕ
  pub cut : piece ≡ head ++ behind
  pub reached : HasReached (octets ++ head) new (before ++ new.answers.items)

-- the same, or a text without a line feed was kept, or memory was refused
abbrev pub FeedsLine : {E : Type 0} → List ℕ → List ℕ → List ℕ → Result (Option (Bor (List ℕ))) E → ScriptReader → Type 0
FeedsLine octets piece before (Ok None) new = HasReached (octets ++ piece) new (before ++ new.answers.items)
FeedsLine octets piece before (Ok (Some behind)) new = Passes octets piece before behind.now new
FeedsLine octets piece before (Err e) new = BeginsAnswer (octets ++ piece) (before ++ new.answers.items)

-- a piece was read up to what is left of it
abbrev pub FedSo : List ℕ → List ℕ → List ℕ → Option (List ℕ) → ScriptReader → Type 0
FedSo octets piece text (Some behind) new =
    (done : List ℕ) × (piece ≡ done ++ behind) × HasReached (octets ++ done) new (text ++ new.answers.items)
FedSo octets piece text None new = HasReached (octets ++ piece) new (text ++ new.answers.items)

-- a piece was read
abbrev pub HasFed : {A E : Type 0} → List ℕ → List ℕ → List ℕ → Result A E → ScriptReader → Type 0
HasFed octets piece text (Ok done) new = HasReached (octets ++ piece) new (text ++ new.answers.items)
HasFed octets piece text (Err e) new = BeginsAnswer (octets ++ piece) (text ++ new.answers.items)

-- the script's last answers were written
abbrev pub EndsWith : List ℕ → List ℕ → Option (List ℕ) → Option (List ℕ) → Result Bool ReplayFault → Type 0
EndsWith octets text old new (Ok refused) = (all : List ℕ) × IsAnswer octets (text ++ all) refused × Appends old new all
EndsWith octets text old new (Err OutOfMemory) = (all : List ℕ) × BeginsAnswer octets (text ++ all) × Appends old new all
EndsWith octets text old new (Err e) = (all : List ℕ) × BeginsAnswer octets (text ++ all) × WritesPart old new all

-- what may end it then
abbrev pub IsEndFault : Bool → ReplayFault → Type 0
IsEndFault failed ReadFault = ⊥
IsEndFault failed WriteFault = failed ≡ true
IsEndFault failed OutOfMemory = Unit {0}

-- the reader gave octets, of which the answers so far were written; none is left to be written
pub record IsUnderWay (before after old new : Option (List ℕ)) (p : ScriptReader) : Type 0 where
  pub octets : List ℕ
  pub text : List ℕ
  pub consumed : Consumes before after octets
  pub written : Appends old new text
  pub empty : p.answers.items ≡ []
  pub reached : HasReached octets p text
