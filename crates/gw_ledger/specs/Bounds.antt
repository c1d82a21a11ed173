-- The limits of a gateway and their ranges.
use Rattle.std.specs.Prelude.{ℕ, ◌≤◌}

-- The numbers that a value of `Limits` shows: ports, copies that may wait in a lane, batches that may be published, and frames
-- that may be taken at a port. The name differs since a model's value is a type of its own.
pub record Bounds : Type 0 where
  pub ports : ℕ
  pub lane : ℕ
  pub versions : ℕ
  pub frames : ℕ

pub record IsWithinBounds (limits : Bounds) : Type 0 where
  pub least_ports : 2 ≤ limits.ports
  pub most_ports : limits.ports ≤ 16
  pub least_lane : 1 ≤ limits.lane
  pub most_lane : limits.lane ≤ 1024
  pub least_versions : 1 ≤ limits.versions
  pub most_versions : limits.versions ≤ 65535
  pub least_frames : 1 ≤ limits.frames
  pub most_frames : limits.frames ≤ 4294967295

-- the number by which a limit outside its range is told
abbrev pub bad_limit_number : ℕ
bad_limit_number = 70
