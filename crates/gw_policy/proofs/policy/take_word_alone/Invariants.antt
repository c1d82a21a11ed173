use Rattle.std.proofs.Common.{◌≡◌, ℕ, ◌<◌, true, slice_index_or}
use Rattle.gw_insn.specs.declared.insn.Insn.{Insn}
use Rattle.gw_insn.specs.Form.{form}
use Rattle.gw_policy.specs.Cached.{takes_word_alone}
use Rattle.gw_policy.proofs.policy.take_word_alone.Given as goal

abbrev pub invariant-loop-insn : goal.invariant-loop-insn
invariant-loop-insn l =
    (k : ℕ) (d : Insn) → k < l.insn-index → takes_word_alone (form (slice_index_or l.code k d)) ≡ true
