-- What replaying reads and writes: `before` and `after` are what its reader has left, `old` and `new` what its writer took.
use Rattle.std.specs.Prelude.{◌≡◌, ◌≤◌, ◌⊎◌, ℕ, Bool, true, false, List, Option, Result, OnOk, OnErr, IfOk, IfErr}
use Rattle.std.specs.Io.KnownBytes.{Appends, IsAtEnd, Consumes}
use Rattle.gw_io.specs.Pieces.{most_reads, GivesAtLeast}
use Rattle.gw_io.specs.Written.{WritesPart}
use Rattle.gw_replay.specs.declared.whole.ReplayFault.{ReplayFault}
use Rattle.gw_replay.specs.declared.whole.ReplayFault.TheVariants.{ReadFault, WriteFault, OutOfMemory}
use Rattle.gw_replay.specs.Scripts.{IsAnswer, AnswersEnded, AnswersMost}

-- the reader gave a whole script and has no more, and the script's answers were written; one of its lines was refused, or none
pub record IsReplayed (before after old new : Option (List ℕ)) (refused : Bool) : Type 0 where
  pub script : List ℕ
  pub consumed : Consumes before after script
  pub end : IsAtEnd after
  pub text : List ℕ
  pub answers : IsAnswer script text refused
  pub written : Appends old new text

-- the reader gave a part of a script, and these are the answers of its first lines, but for some that end in what was read last
pub record IsPartlyRead (before after : Option (List ℕ)) (text : List ℕ) : Type 0 where
  pub script : List ℕ
  pub consumed : Consumes before after script
  pub answers : AnswersMost script text

-- a beginning of the answers was written
pub record IsPartlyReplayed (before after old new : Option (List ℕ)) : Type 0 where
  pub text : List ℕ
  pub read : IsPartlyRead before after text
  pub written : WritesPart old new text

-- all of them were written
pub record IsBrokenOff (before after old new : Option (List ℕ)) : Type 0 where
  pub text : List ℕ
  pub read : IsPartlyRead before after text
  pub written : Appends old new text

-- the reader failed, or gave 16777216 octets at least. All lines that a line feed ended in what it gave were answered, and the
-- one behind them, which is cut, was not.
pub record IsCutOff (read_failed : Bool) (before after old new : Option (List ℕ)) : Type 0 where
  pub script : List ℕ
  pub consumed : Consumes before after script
  pub unread : (read_failed ≡ true) ⊎ GivesAtLeast before after most_reads
  pub text : List ℕ
  pub answers : AnswersEnded script text
  pub written : Appends old new text

-- what was read and written where this ended it early
abbrev pub IsHalted : Bool → Option (List ℕ) → Option (List ℕ) → Option (List ℕ) → Option (List ℕ) → ReplayFault → Type 0
IsHalted read_failed before after old new ReadFault = IsCutOff read_failed before after old new
IsHalted read_failed before after old new WriteFault = IsPartlyReplayed before after old new
IsHalted read_failed before after old new OutOfMemory = IsBrokenOff before after old new

-- why it ended early: a read failed or there were too many; a write failed
abbrev pub IsReplayFault : Bool → ℕ → Bool → ReplayFault → Type 0
IsReplayFault read_failed reads write_failed ReadFault = (read_failed ≡ true) ⊎ (reads ≡ most_reads)
IsReplayFault read_failed reads write_failed WriteFault = write_failed ≡ true
IsReplayFault read_failed reads write_failed OutOfMemory = Unit {0}

-- what replaying answers, of a reader that was read so often and a writer
pub record HasReplayed (before after old new : Option (List ℕ)) (read_failed : Bool) (reads : ℕ)
    (write_failed : Bool) (result : Result Bool ReplayFault) : Type 0 where
  pub replayed : IfOk result (IsReplayed before after old new)
  pub part : OnErr result (IsPartlyReplayed before after old new)
  pub halted : IfErr result (IsHalted read_failed before after old new)
  pub fault : IfErr result (IsReplayFault read_failed reads write_failed)
  pub read : OnOk result (read_failed ≡ false)
  pub written : OnOk result (write_failed ≡ false)
  pub bounded : reads ≤ most_reads

-- the number by which a fault is told
abbrev pub fault_number : ReplayFault → ℕ
fault_number ReadFault = 96
fault_number WriteFault = 99
fault_number OutOfMemory = 100
