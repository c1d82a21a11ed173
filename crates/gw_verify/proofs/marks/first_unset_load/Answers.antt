use Rattle.std.proofs.Common.{refl, arith}
use Rattle.gw_insn.specs.Form.{form}
use Rattle.gw_verify.specs.Flow.{forms_of, HasAt}
use Rattle.gw_verify.proofs.Decoding.{form_at}
use Rattle.gw_verify.proofs.Masks.{marks_start, marks_skip, marks_more, unset_skip, unset_found, unset_more, stays_short}
use Rattle.gw_verify.proofs.marks.first_unset_load.Goals as goal
use Rattle.gw_verify.proofs.marks.first_unset_load.Goals.{In-Some, in-Some+in_default-unset_load, in_default}

here : (c : In-Some) → HasAt (forms_of c.args.code.now) c.loop-place.place (form c.in-Some.insn)
here c = form_at c.args.code.now c.loop-place.place _ _ (omega arith) c.in-Some.ensures.table

pub loop-place-init : goal.loop-place-init
loop-place-init c = record {
  long = refl;
  marks = marks_start (forms_of c.args.code.now) 4095;
  none = λ word i h. absurd (omega arith);
}

pub unset_load-requires : goal.unset_load-requires
unset_load-requires c =
    let at = here (goal.at.unset_load-requires c).In-Some in
    c.requires.words c.loop-place.place (form c.in-Some.insn) at

pub left_unset-unset-requires : goal.left_unset-unset-requires
left_unset-unset-requires c =
    let at = here (goal.at.left_unset-unset-requires c).In-Some in
    c.requires.words c.loop-place.place (form c.in-Some.insn) at

pub carry-requires : goal.carry-requires
carry-requires c =
    let place = c.loop-place.place in
    let insn = form c.in-Some.insn in
    let at = here (goal.at.carry-requires c).In-Some in
    stays_short _ place insn c.requires.short (c.requires.stays place insn at)

pub returns-in-Some-unset_load-clause-some : goal.returns-in-Some-unset_load-clause-some
returns-in-Some-unset_load-clause-some c =
    let forms = forms_of c.args.code.now in
    let at = here (goal.at.returns-in-Some-unset_load-clause-some c).In-Some in
    let before = c.loop-place.invariant in
    let found = c.in-Some-unset_load.ensures.some in (
      unset_found forms c.requires c.loop-place.place (form c.in-Some.insn) at c.loop-place.marks before.marks
          c.in-Some-unset_load.word found.0 found.1,
      before.none,
    )

pub loop-place-preserved : goal.loop-place-preserved
loop-place-preserved c =
    let code = c.args.code.now in
    let forms = forms_of code in
    let i = c.loop-place.place in
    let marks = c.loop-place.marks in
    let before = c.loop-place.invariant in
    elim c.match-decode.branch [
      | in-Some+in_default-unset_load w ↦
          let insn = form w.in-Some.insn in
          let at = form_at code i _ _ (omega arith) w.in-Some.ensures.table in
          let left = w.left_unset-unset.ensures in
          let more = marks_more forms c.requires i insn at marks before.marks _ before.long left in
          let clean = w.in_default-unset_load.ensures.none in
          record {
            long = rw w.marks-is w.carry.array_long;
            marks = rw (w.marks-is, w.carry.ensures) more;
            none = unset_more forms c.requires i insn at marks before.marks clean before.none;
          }
      | in_default w ↦
          let at = form_at code i _ _ (omega arith) w.in_default.ensures.table in
          record {
            long = rw w.marks-is before.long;
            marks = rw w.marks-is (marks_skip forms i at marks before.marks);
            none = unset_skip forms i at before.none;
          }
    ]

pub returns-clause-none : goal.returns-clause-none
returns-clause-none c = λ word i l. c.loop-place.invariant.none word i (omega arith)
