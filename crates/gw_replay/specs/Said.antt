-- The text of what a line is answered.
use Rattle.std.specs.Prelude.{ℕ, Bool, true, false, List, [], Ok, Err}
use Rattle.gw_replay.specs.declared.script.Said.{Said}
use Rattle.gw_replay.specs.declared.script.Said.TheVariants.{Nothing, Line, Refused}
use Rattle.gw_replay.specs.Faults.{line_of}

-- a line, that of a fault, or none
abbrev pub said_text : Said → List ℕ
said_text Nothing = []
said_text (Line line) = line_of (Ok line)
said_text (Refused fault) = line_of (Err fault)

-- whether the line is refused
abbrev pub is_refusal : Said → Bool
is_refusal Nothing = false
is_refusal (Line line) = false
is_refusal (Refused fault) = true
