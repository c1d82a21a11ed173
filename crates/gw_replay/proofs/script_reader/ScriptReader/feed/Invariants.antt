use Rattle.std.proofs.Common.{ℕ, List, ◌++◌}
use Rattle.std.specs.Prelude.{option_copied}
use Rattle.gw_replay.specs.Reached.{HasReached, FedSo}
use Rattle.gw_input.specs.Lines.{left_behind}
use Rattle.gw_replay.proofs.script_reader.ScriptReader.feed.Given as goal

abbrev pub invariant-loop-rest : goal.invariant-loop-rest
invariant-loop-rest g l = (octets text : List ℕ) → HasReached octets l.fn.self (text ++ l.fn.self.answers.items)
    → FedSo octets l.piece text (option_copied l.rest) l.self

abbrev pub decreases-loop-rest : goal.decreases-loop-rest
decreases-loop-rest g l = left_behind (option_copied l.rest)
