use Rattle.std.proofs.Common.{◌≡◌, ◌+◌, ◌≤◌, ◌++◌, length, vec_len, vec_capacity}
use Rattle.gw_trace.proofs.checked.Checked.append_to.Given as goal

abbrev pub invariant-all : goal.invariant-all
invariant-all l = record {
  items : l.frames.items ++ l.frame-iterator ≡ l.initial.frames.items ++ l.fn.self;
  room : vec_len l.frames + length l.frame-iterator ≤ vec_capacity l.frames;
}
