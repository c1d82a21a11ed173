-- What the texts that are read are bounded by.
use Rattle.std.specs.Prelude.{ℕ}

-- the most octets of an input, and of a line of a script: 2 to the 20th (docs/FORMATS.md)
abbrev pub most_octets : ℕ
most_octets = 1048576
