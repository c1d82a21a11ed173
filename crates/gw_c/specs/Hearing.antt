-- What a handle answers to frames of a segment.
use Rattle.std.specs.Prelude.{ℕ, nat_lt, if◌then◌else◌, List, Option, Some, None}
use Rattle.gw_claims.specs.Claims.{is_local}
use Rattle.gw_c.specs.declared.can.CanFrame.{CanFrame}
use Rattle.gw_c.specs.Frames.{record_of}

-- 0: a frame is heard; 3: its length is above 8; 121: the handle holds no claims
abbrev pub hearing_answer : Option (List (Option ℕ)) → CanFrame → ℕ
hearing_answer None can = 121
hearing_answer (Some table) can = if nat_lt 8 can.len then 3 else 0

-- 1 for a frame that is local after the records heard, else 0; 3: its length is above 8
abbrev pub local_answer : List (List ℕ) → CanFrame → ℕ
local_answer heard can = if nat_lt 8 can.len then 3 else if is_local heard (record_of can) then 1 else 0
