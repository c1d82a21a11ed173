-- How far a log was judged: `old` and `new` are what its writer took, before a call and after it.
use Rattle.std.specs.Prelude.{◌≡◌, ◌≤◌, ℕ, Bool, true, false, List, [], ◌++◌, length, map, take, Option, Result, Ok, Err}
use Rattle.std.specs.Io.KnownBytes.{Appends, Consumes}
use Rattle.gw_io.specs.Written.{WritesPart}
use Rattle.gw_judge.specs.declared.fate.Fate.{Fate}
use Rattle.gw_judge.specs.declared.tally.Tally.{Tally}
use Rattle.gw_judge.specs.declared.fault.RefusedLine.{RefusedLine}
use Rattle.gw_judge.specs.declared.fault.JudgeFault.{JudgeFault}
use Rattle.gw_judge.specs.declared.fault.JudgeFault.TheVariants.{ReadFault, WriteFault, Refused}
use Rattle.gw_judge.specs.declared.fate.Fate.TheVariants as fates
use Rattle.gw_judge.specs.declared.judging.Judging.{Judging}
use Rattle.gw_judge.specs.Fates.{is_refused}
use Rattle.gw_judge.specs.Tallies.{IsTally}
use Rattle.gw_judge.specs.Judged.{log_lines, written_of, AreFine, IsFirstRefused}
use Rattle.gw_judge.specs.LineParts.{IsEndless}

-- a text was put behind what is held, of which a beginning was written; or a write failed
abbrev pub Puts : {A : Type 0} → Option (List ℕ) → Option (List ℕ) → Bool → List ℕ → List ℕ → Result A JudgeFault → List ℕ
    → Type 0
Puts old new failed held text (Ok done) now =
    (failed ≡ false) × ((more : List ℕ) × Appends old new more × (held ++ text ≡ more ++ now))
Puts old new failed held text (Err WriteFault) now = (failed ≡ true) × WritesPart old new (held ++ text)
Puts old new failed held text (Err ReadFault) now = ⊥
Puts old new failed held text (Err (Refused refused)) now = ⊥

-- a line of this fate was judged, for which this is written; strictly, one that is refused is told once what is held was
-- written
abbrev pub Judges : {A : Type 0} → Fate → List ℕ → Bool → ℕ → Option (List ℕ) → Option (List ℕ) → Bool → List ℕ
    → Result A JudgeFault → List ℕ → Type 0
Judges fate text strict number old new failed held (Ok done) now =
    (strict ≡ true → is_refused fate ≡ false) × Puts old new failed held text (Ok done) now
Judges fate text strict number old new failed held (Err WriteFault) now = (failed ≡ true) × WritesPart old new (held ++ text)
Judges fate text strict number old new failed held (Err ReadFault) now = ⊥
Judges fate text strict number old new failed held (Err (Refused refused)) now =
    (strict ≡ true) × (fate ≡ fates.Refused refused.why) × (refused.line ≡ number) × Appends old new held

-- strictly, a refused line ends judging once what is held was written
abbrev pub Refuses : {A : Type 0} → Bool → RefusedLine → Option (List ℕ) → Option (List ℕ) → Bool → List ℕ → Result A JudgeFault
    → List ℕ → Type 0
Refuses strict line old new failed held (Ok done) now = (strict ≡ false) × Puts old new failed held [] (Ok done) now
Refuses strict line old new failed held (Err WriteFault) now = (failed ≡ true) × WritesPart old new (held ++ [])
Refuses strict line old new failed held (Err ReadFault) now = ⊥
Refuses strict line old new failed held (Err (Refused refused)) now =
    (strict ≡ true) × (refused ≡ line) × Appends old new held

-- these lines were judged: of what they ask for the text was written, and the rest is held
pub record AreJudged (fate : List ℕ → Fate) (front : Fate → Option (List ℕ)) (strict : Bool) (lines : List (List ℕ))
    (tally : Tally) (text held : List ℕ) : Type 0 where
  pub tallied : IsTally (map fate lines) tally
  pub written : text ++ held ≡ written_of fate front lines
  pub fine : strict ≡ true → AreFine fate lines

-- the lines that were ended were judged, and the unfinished one is kept
pub record HasJudged (fate : List ℕ → Fate) (front : Fate → Option (List ℕ)) (strict : Bool) (octets : List ℕ) (p : Judging)
    (text : List ℕ) : Type 0 where
  pub lines : List (List ℕ)
  pub rest : List ℕ
  pub split : (later : List ℕ) → log_lines (octets ++ later) ≡ lines ++ log_lines (rest ++ later)
  pub endless : IsEndless rest
  pub kept : p.kept.items ≡ take 65537 rest
  pub judged : AreJudged fate front strict lines p.tally text p.gathered.held.items

-- this text stands in front of what is written of a log
pub record Begins (fate : List ℕ → Fate) (front : Fate → Option (List ℕ)) (log text : List ℕ) : Type 0 where
  pub tail : List ℕ
  pub whole : written_of fate front (log_lines log) ≡ text ++ tail

-- a write failed; or, strictly, a line of the log is refused
abbrev pub Fails : (List ℕ → Fate) → (Fate → Option (List ℕ)) → Bool → List ℕ → List ℕ → Option (List ℕ) → Option (List ℕ)
    → Bool → JudgeFault → Type 0
Fails fate front strict log text old new failed WriteFault =
    (failed ≡ true) × ((more : List ℕ) × WritesPart old new more × Begins fate front log (text ++ more))
Fails fate front strict log text old new failed ReadFault = ⊥
Fails fate front strict log text old new failed (Refused refused) =
    (strict ≡ true) × ((more : List ℕ) × Appends old new more × IsFirstRefused fate front log (text ++ more) refused)

-- these octets were judged; or whatever follows them, judging ends
abbrev pub Reaches : {A : Type 0} → (List ℕ → Fate) → (Fate → Option (List ℕ)) → Bool → List ℕ → List ℕ → Option (List ℕ)
    → Option (List ℕ) → Bool → Result A JudgeFault → Judging → Type 0
Reaches fate front strict octets text old new failed (Ok done) p =
    (more : List ℕ) × Appends old new more × HasJudged fate front strict octets p (text ++ more)
Reaches fate front strict octets text old new failed (Err fault) p =
    (later : List ℕ) → Fails fate front strict (octets ++ later) text old new failed fault

-- the last line was judged, or judging ends there
abbrev pub Closes : {A : Type 0} → (List ℕ → Fate) → (Fate → Option (List ℕ)) → Bool → List ℕ → List ℕ → Option (List ℕ)
    → Option (List ℕ) → Bool → Result A JudgeFault → Judging → Type 0
Closes fate front strict octets text old new failed (Ok done) p =
    (more : List ℕ) × Appends old new more
    × AreJudged fate front strict (log_lines octets) p.tally (text ++ more) p.gathered.held.items
Closes fate front strict octets text old new failed (Err fault) p = Fails fate front strict octets text old new failed fault

abbrev pub Ends : (List ℕ → Fate) → (Fate → Option (List ℕ)) → Bool → List ℕ → List ℕ → Option (List ℕ) → Option (List ℕ)
    → Bool → Result Tally JudgeFault → Type 0
Ends fate front strict octets text old new failed (Ok tally) =
    (more : List ℕ) × Appends old new more × AreJudged fate front strict (log_lines octets) tally (text ++ more) []
Ends fate front strict octets text old new failed (Err fault) = Fails fate front strict octets text old new failed fault

-- the reader gave octets and what is left of its last piece; of the octets the text was written
pub record IsUnderWay (fate : List ℕ → Fate) (front : Fate → Option (List ℕ)) (strict : Bool)
    (before after old new : Option (List ℕ)) (rest : List ℕ) (p : Judging) (parts : ℕ) : Type 0 where
  pub octets : List ℕ
  pub text : List ℕ
  pub consumed : Consumes before after (octets ++ rest)
  pub written : Appends old new text
  pub judged : HasJudged fate front strict octets p text
  pub some : parts ≤ length octets
