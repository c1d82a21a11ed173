-- How far a log was heard.
use Rattle.std.specs.Prelude.{◌≡◌, ◌≤◌, ℕ, List, ◌++◌, length, map, take, Option}
use Rattle.std.specs.Io.KnownBytes.{Consumes}
use Rattle.gw_log.specs.LogLines.{Entry}
use Rattle.gw_judge.specs.declared.listening.Listening.{Listening}
use Rattle.gw_judge.specs.declared.tally.Tally.{Tally}
use Rattle.gw_judge.specs.Heard.{entries_on, unjudged}
use Rattle.gw_judge.specs.Judged.{log_lines}
use Rattle.gw_judge.specs.LineParts.{IsEndless}
use Rattle.gw_judge.specs.Tallies.{IsTally}

-- these lines were heard and counted
pub record AreHeard (Heard : List Entry → Type 0) (lines : List (List ℕ)) (tally : Tally) : Type 0 where
  pub entries : Heard (entries_on lines)
  pub tallied : IsTally (map unjudged lines) tally

-- the lines that were ended were heard, and the unfinished one is kept
pub record HasHeard (Heard : List Entry → Type 0) (octets : List ℕ) (p : Listening) : Type 0 where
  pub lines : List (List ℕ)
  pub rest : List ℕ
  pub split : (later : List ℕ) → log_lines (octets ++ later) ≡ lines ++ log_lines (rest ++ later)
  pub endless : IsEndless rest
  pub kept : p.kept.items ≡ take 65537 rest
  pub heard : AreHeard Heard lines p.tally

-- the reader gave octets and what is left of its last piece; the octets were heard
pub record IsListening (Heard : List Entry → Type 0) (before after : Option (List ℕ)) (rest : List ℕ) (p : Listening) (parts : ℕ)
    : Type 0 where
  pub octets : List ℕ
  pub consumed : Consumes before after (octets ++ rest)
  pub heard : HasHeard Heard octets p
  pub some : parts ≤ length octets
