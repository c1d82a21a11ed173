use Rattle.std.proofs.Common.{◌≡◌, ◌↔◌, false, sym, ap, subst, ◌∙◌}
use Rattle.gw_verify.specs.Flow.{forms_of}
use Rattle.gw_verify.specs.Accepted.{IsAccepted}
use Rattle.gw_machine.specs.Answers.{answer_of}
use Rattle.gw_table.specs.Table.{table_passes}
use Rattle.gw_table.specs.Emission.{emission}
use Rattle.gw_table.proofs.Codes.{program_of, forms_of-map}
use Rattle.gw_table.proofs.Emitted.{refused_for_memory}
use Rattle.gw_table.proofs.FirstMatch.{emission_blocks}
use Rattle.gw_table.proofs.compiler.compile.Goals as goal

pub returns-in-Ok-clause-emitted : goal.returns-in-Ok-clause-emitted
returns-in-Ok-clause-emitted c =
    program_of c.in-Ok.program (emission c.args.table.now) c.in_ok-emitted.field-0.items c.in_ok-emitted.ensures.code
    c.in-Ok.ensures.decoded

pub returns-in-Ok-clause-means : goal.returns-in-Ok-clause-means
returns-in-Ok-clause-means c =
    let table = c.args.table.now in
    let same = program_of c.in-Ok.program (emission table) c.in_ok-emitted.field-0.items c.in_ok-emitted.ensures.code
    c.in-Ok.ensures.decoded in
    λ octets port is_record fits.
    subst (λ program. (answer_of program octets port ≡ 0) ↔ (table_passes table octets port ≡ false)) (sym same)
    (emission_blocks octets port table (λ answer n. c.one_answer.ensures.returns (emission table) octets port answer n
    c.in_ok-emitted.ensures.accepted) is_record fits)

pub unreachable-requires : goal.unreachable-requires
unreachable-requires c =
    let forms = ap forms_of c.in_ok-emitted.ensures.code ∙ forms_of-map (emission c.args.table.now) in
    let accepted = subst IsAccepted (sym forms) c.in_ok-emitted.ensures.accepted in
    c.in_default.not-OutOfMemory (refused_for_memory _ c.in-Err.refused.why c.in-Err.refused.place accepted
    c.in-Err.ensures.refused)
