-- Where an instruction leads, as the code tells it.
use Rattle.std.specs.Prelude.{ℕ, ◌+◌}
use Rattle.gw_insn.specs.Form.{Form, Jump, Branch, ReturnConstant, ReturnA}
use Rattle.gw_verify.specs.declared.next.Next.{Next}
use Rattle.gw_verify.specs.declared.next.Next.TheVariants.{Nowhere, Following, Past, Either}

abbrev pub next_of : Form → Next
next_of (ReturnConstant k) = Nowhere
next_of ReturnA = Nowhere
next_of (Jump k) = Past k
next_of (Branch comparison operand jt jf) = Either jt jf
next_of _ = Following

-- what is noted, with a change for each place that an instruction at place i leads to
abbrev pub at_next : {S : Type 0} → (ℕ → S → S) → ℕ → Next → S → S
at_next change i Nowhere noted = noted
at_next change i Following noted = change (i + 1) noted
at_next change i (Past k) noted = change (i + 1 + k) noted
at_next change i (Either jt jf) noted = change (i + 1 + jf) (change (i + 1 + jt) noted)
