use Rattle.std.proofs.Common.{ℕ, List, []}
use Rattle.std.specs.Borrow.{Bor}
use Rattle.gw_text.proofs.FormTable.{first_token}
use Rattle.gw_text.proofs.line.parse_instruction.Goals as goal

abbrev no_token : Bor (List ℕ)
no_token = record { ref_ptr = (0, 0); now = [] }

pub returns-in-len1-up-clause-faultless : goal.returns-in-len1-up-clause-faultless
returns-in-len1-up-clause-faultless c =
    rw (first_token c.args.tokens.now no_token c.in-len1-up.len_at_least) c.parse_operands.ensures.faultless

pub returns-in-len1-up-clause-written : goal.returns-in-len1-up-clause-written
returns-in-len1-up-clause-written c =
    rw (first_token c.args.tokens.now no_token c.in-len1-up.len_at_least) c.parse_operands.ensures.written

pub returns-in-len1-up-clause-refused : goal.returns-in-len1-up-clause-refused
returns-in-len1-up-clause-refused c =
    rw (first_token c.args.tokens.now no_token c.in-len1-up.len_at_least) c.parse_operands.ensures.refused
