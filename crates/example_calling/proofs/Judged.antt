-- What the set of the two policies says of a record.
use Rattle.std.proofs.Common.{◌≡◌, ℕ, ◌↔◌, Bool, not, ◌==◌, List, None, refl, ap, ◌∙◌}
use Rattle.std.specs.Option.{option_map_or}
use Rattle.j1939_gateway.specs.Record.{IsRecord}
use Rattle.j1939_gateway.specs.Insn.{Insn}
use Rattle.j1939_gateway.specs.Flow.{program_forms}
use Rattle.j1939_gateway.specs.Accepted.{IsAccepted}
use Rattle.j1939_gateway.specs.Runs.{Returns}
use Rattle.j1939_gateway.specs.Answers.{answer_of, steps_of}
use Rattle.j1939_gateway.specs.Table.{table_passes}
use Rattle.j1939_gateway.specs.Filter.{Filter, filter_passes}
use Rattle.j1939_gateway.specs.Batches.{PortPolicies, passes, policy_at}
use Rattle.example_calling.specs.Calls.{IsInForce, AreVerdicts}

-- what gw_machine's law says of accepted code
abbrev pub HasOneAnswer : Type 0
HasOneAnswer =
    (code : List Insn) (octets : List ℕ) (port answer n : ℕ) → IsAccepted (program_forms code)
    → Returns code octets port answer n ↔ ((answer ≡ answer_of code octets port) × (n ≡ steps_of code octets port))

-- a policy without a table passes by its program's answer
by_answer : (policy : Filter) (octets : List ℕ) → policy.table ≡ None
    → filter_passes policy octets 0 ≡ not (answer_of policy.code octets 0 == 0)
by_answer policy octets bare =
    ap (λ table. option_map_or (λ known. table_passes known octets 0) table (not (answer_of policy.code octets 0 == 0))) bare

-- the set's verdicts at the two ports are what the program answers and what the table passes
pub verdicts_are : (listing text octets frame : List ℕ) (set : PortPolicies) (by_program by_table : Bool) → HasOneAnswer
    → IsRecord octets × (frame ≡ octets) → IsInForce listing text set → by_program ≡ passes (policy_at 1 set) frame 0
    → by_table ≡ passes (policy_at 2 set) frame 0
    → AreVerdicts listing text octets (record { by_program = by_program; by_table = by_table })
verdicts_are listing text octets frame set by_program by_table one_answer read in_force at_program at_table =
    let code = in_force.by_program.code in
    record {
      is_record = read.0;
      by_program = in_force.by_program;
      listed = in_force.listed;
      answer = answer_of code octets 0;
      steps = steps_of code octets 0;
      returns =
          (one_answer code octets 0 (answer_of code octets 0) (steps_of code octets 0) in_force.listed.accepted).1 (refl, refl);
      passes = at_program ∙ ap (λ known. passes (policy_at 1 set) known 0) read.1
          ∙ ap (λ policy. passes policy octets 0) (in_force.stands.policies 1)
          ∙ by_answer in_force.by_program octets in_force.listed.bare;
      table = in_force.written.table;
      read = in_force.written.read;
      first_match = at_table ∙ ap (λ known. passes (policy_at 2 set) known 0) read.1
          ∙ ap (λ policy. passes policy octets 0) (in_force.stands.policies 2)
          ∙ ap (λ policy. filter_passes policy octets 0) in_force.written.compiled;
    }
