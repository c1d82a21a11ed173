-- What the command `replay` reads and writes: `before` and `after` are what its reader has left, `old` and `new` what its writer
-- took.
use Rattle.std.specs.Prelude.{◌≡◌, ◌⊎◌, ℕ, Bool, false, ◌&&◌, if◌then◌else◌, List, [], Option}
use Rattle.std.specs.Io.KnownBytes.{Appends}
use Rattle.gw_replay.specs.declared.whole.ReplayFault.{ReplayFault}
use Rattle.gw_replay.specs.Written.{IsReplayed, IsPartlyReplayed, IsHalted, IsReplayFault, fault_number}
use Rattle.gw_io.specs.Written.{WritesPart}
use Rattle.gw_input.specs.Refused.{refused_line}

-- the line of what ends a script early
abbrev pub fault_line : ReplayFault → List ℕ
fault_line fault = refused_line (fault_number fault) []

-- the script ended early: behind the answers that the fault lets stand is the line that says why, or a beginning of it where a
-- write failed
pub record EndsEarly (before after : Option (List ℕ)) (read_failed : Bool) (reads : ℕ) (old new : Option (List ℕ))
    (write_failed : Bool) : Type 0 where
  pub fault : ReplayFault
  pub why : IsReplayFault read_failed reads write_failed fault
  pub middle : Option (List ℕ)
  pub answers : IsPartlyReplayed before after old middle
  pub halted : IsHalted read_failed before after old middle fault
  pub line : WritesPart middle new (fault_line fault)
  pub whole : write_failed ≡ false → Appends middle new (fault_line fault)

-- the status of a script that was replayed to its end: strictly it tells whether one of its lines was refused
abbrev pub replayed_status : Bool → Bool → ℕ
replayed_status strict refused = if strict && refused then 1 else 0

-- all of the script's answers and the status that tells of its lines, where no read and no write failed; or what was answered
-- before it ended early and status 1
abbrev pub Replays : Bool → Option (List ℕ) → Option (List ℕ) → Bool → ℕ → Option (List ℕ) → Option (List ℕ) → Bool → ℕ → Type 0
Replays strict before after read_failed reads old new write_failed status =
    ((refused : Bool) × (status ≡ replayed_status strict refused) × (read_failed ≡ false) × (write_failed ≡ false)
    × IsReplayed before after old new refused)
    ⊎ ((status ≡ 1) × EndsEarly before after read_failed reads old new write_failed)
