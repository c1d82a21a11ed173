-- The program of a policy in a handle: its code, and its answers.
use Rattle.std.specs.Prelude.{ℕ, nat_lt, if◌then◌else◌, List, [], length, Option, Some, None}
use Rattle.gw_insn.specs.declared.insn.Insn.{Insn}
use Rattle.gw_insn.specs.Table.{raw_of}
use Rattle.gw_machine.specs.Answers.{answer_of}
use Rattle.gw_policy.specs.Filter.{Filter}
use Rattle.gw_c.specs.declared.can.CanFrame.{CanFrame}
use Rattle.gw_c.specs.declared.policies.SockFilter.{SockFilter}
use Rattle.gw_c.specs.Frames.{record_of}

-- what refuses the answer to a frame: 121, the handle holds no policy; 3, the frame's length is above 8; else 0
abbrev pub answer_refusal : Option Filter → CanFrame → ℕ
answer_refusal None can = 121
answer_refusal (Some policy) can = if nat_lt 8 can.len then 3 else 0

-- the answer of the program on the frame's record, which was taken at a port; where it is refused, what stood there
abbrev pub answer_by : Option Filter → CanFrame → ℕ → ℕ → ℕ
answer_by None can port old = old
answer_by (Some policy) can port old = if nat_lt 8 can.len then old else answer_of policy.code (record_of can) port

-- an instruction as Linux lays it out
abbrev pub filter_of : Insn → SockFilter
filter_of insn =
    record { code = (raw_of insn).code; jt = (raw_of insn).jt; jf = (raw_of insn).jf; k = (raw_of insn).k }

-- what refuses the code, where there is room for so many instructions: 121, the handle holds no policy; 123, the room is too
-- small; else 0
abbrev pub code_refusal : Option Filter → ℕ → ℕ
code_refusal None room = 121
code_refusal (Some policy) room = if nat_lt room (length policy.code) then 123 else 0

-- how many instructions the program has; of no policy, what stood there
abbrev pub length_in : Option Filter → ℕ → ℕ
length_in None old = old
length_in (Some policy) old = length policy.code

-- the code of the program; of no policy there is none
abbrev pub code_in : Option Filter → List Insn
code_in None = []
code_in (Some policy) = policy.code
