-- What a policy passes, by its program.
use Rattle.std.proofs.Common.{◌≡◌, ℕ, ◌<◌, ◌==◌, ◌↔◌, Bool, false, not, List, Option, Some, None, refl, sym, ap, ◌∙◌, arith}
use Rattle.std.specs.Prelude.{MatchOption}
use Rattle.std.proofs.lemmas.Bool.Decides.{nat_tests}
use Rattle.gw_frame.specs.Record.{IsRecord}
use Rattle.gw_insn.specs.declared.insn.Insn.{Insn}
use Rattle.gw_machine.specs.Answers.{answer_of}
use Rattle.gw_table.specs.Table.{Meaning, table_passes}
use Rattle.gw_policy.specs.Filter.{Filter, IsFilter, Means, filter_passes}
use Rattle.gw_policy.specs.Batches.{PassAlike}

unless_zero : (passes : Bool) (answer : ℕ) → (answer ≡ 0) ↔ (passes ≡ false) → passes ≡ not (answer == 0)
unless_zero passes answer iff = grind (arith, nat_tests)

-- a table's program passes what it answers other than 0 on, as a program does
pub passes_by_answer : (code : List Insn) (table : Option Meaning) (octets : List ℕ) (port : ℕ) → IsRecord octets → port < 256
    → MatchOption table (Unit {0}) (Means code) → filter_passes (record { code = code; table = table }) octets port
    ≡ not (answer_of code octets port == 0)
passes_by_answer code None octets port is_record fits means = refl
passes_by_answer code (Some table) octets port is_record fits means =
    unless_zero (table_passes table octets port) (answer_of code octets port) (means octets port is_record fits)

-- policies of one program pass the same frames
pub pass_alike : (one other : Filter) → IsFilter one → IsFilter other → one.code ≡ other.code → PassAlike (Some one) (Some other)
pass_alike one other first second same octets port is_record fits =
    passes_by_answer one.code one.table octets port is_record fits first.means
    ∙ ap (λ code. not (answer_of code octets port == 0)) same
    ∙ sym (passes_by_answer other.code other.table octets port is_record fits second.means)
