-- What is heard of a log: `before` and `after` are what its reader has left.
use Rattle.std.specs.Prelude.{◌≡◌, ◌⊎◌, ◌≤◌, ℕ, Bool, true, List, length, map, Option, None, Ok, Err}
use Rattle.std.specs.List.{filter_map}
use Rattle.std.specs.Io.KnownBytes.{Consumes, IsAtEnd}
use Rattle.gw_log.specs.LogLines.{Entry, Reading, line_of}
use Rattle.gw_judge.specs.declared.fate.Fate.{Fate}
use Rattle.gw_judge.specs.declared.fate.Fate.TheVariants.{Silent}
use Rattle.gw_judge.specs.declared.listener.ListenFault.{ListenFault}
use Rattle.gw_judge.specs.declared.listener.ListenFault.TheVariants.{ReadFault, OutOfMemory}
use Rattle.gw_judge.specs.declared.tally.Tally.{Tally}
use Rattle.gw_judge.specs.Fates.{fate_of}
use Rattle.gw_judge.specs.Judged.{log_lines}
use Rattle.gw_judge.specs.Tallies.{IsTally}

-- what a line says, where it says a frame
abbrev pub said_entry : Reading → Option Entry
said_entry (Err why) = None
said_entry (Ok said) = said

unfoldable pub entry_on : List ℕ → Option Entry
entry_on line = said_entry (line_of line)

-- what lines say, in order
abbrev pub entries_on : List (List ℕ) → List Entry
entries_on lines = filter_map entry_on lines

-- what a log says
abbrev pub entries_of : List ℕ → List Entry
entries_of log = entries_on (log_lines log)

-- no frame is judged: of the lines those alone are told that say none
abbrev pub unjudged : List ℕ → Fate
unjudged = fate_of (λ octets. Silent)

-- the reader gave a whole log, what it says was heard, and its lines were counted
pub record IsHeard (Heard : List Entry → Type 0) (before after : Option (List ℕ)) (tally : Tally) : Type 0 where
  pub log : List ℕ
  pub consumed : Consumes before after log
  pub end : IsAtEnd after
  pub entries : Heard (entries_of log)
  pub tallied : IsTally (map unjudged (log_lines log)) tally

-- a read failed, or a log of 2^64 - 1 octets has no end; or memory was wanting
abbrev pub IsListenFault : Bool → List ℕ → ListenFault → Type 0
IsListenFault read_failed log ReadFault = (read_failed ≡ true) ⊎ (18446744073709551615 ≤ length log)
IsListenFault read_failed log OutOfMemory = Unit {0}

-- the reader gave a part of a log
pub record IsPartlyHeard (before after : Option (List ℕ)) (read_failed : Bool) (why : ListenFault) : Type 0 where
  pub log : List ℕ
  pub consumed : Consumes before after log
  pub fault : IsListenFault read_failed log why

-- the number by which a fault is told
abbrev pub listen_number : ListenFault → ℕ
listen_number ReadFault = 96
listen_number OutOfMemory = 100
