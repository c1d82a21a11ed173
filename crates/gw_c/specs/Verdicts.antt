-- What a handle says of frames.
use Rattle.std.specs.Prelude.{ℕ, nat_lt, if◌then◌else◌, Option, Some, None}
use Rattle.gw_policy.specs.Filter.{Filter, filter_passes}
use Rattle.gw_c.specs.declared.can.CanFrame.{CanFrame}
use Rattle.gw_c.specs.Frames.{record_of}

-- 1 where a policy passes a frame that was taken at a port, 0 where it blocks it; 3: its length is above 8
abbrev pub judged : Filter → CanFrame → ℕ → ℕ
judged policy can port = if nat_lt 8 can.len then 3 else if filter_passes policy (record_of can) port then 1 else 0

-- the same of a handle; 121: it holds no policy
abbrev pub verdict_of : Option Filter → CanFrame → ℕ → ℕ
verdict_of None can port = 121
verdict_of (Some policy) can port = judged policy can port

-- what is answered for so many frames and room for so many verdicts; 123: the room is too small
abbrev pub answer_for : Option Filter → ℕ → ℕ → ℕ
answer_for None frames room = 121
answer_for (Some policy) frames room = if nat_lt room frames then 123 else 0
