use Rattle.std.proofs.Common.{◌≡◌, suc, ◌-◌, length, arith, ap, refl}
use Rattle.std.proofs.lemmas.Bool.{false≢true}
use Rattle.std.proofs.lemmas.List.{take_all}
use Rattle.gw_verify.specs.Flow.{forms_of, IsBarePath}
use Rattle.gw_verify.proofs.Paths.{front_more, bare_path_passes, refuted}
use Rattle.gw_verify.proofs.path.holds.Goals as goal
use Rattle.gw_verify.proofs.path.holds.Goals.{After-loop-i}

pub returns-then-not-passes_by-clause-path : goal.returns-then-not-passes_by-clause-path
returns-then-not-passes_by-clause-path c =
    let forms = forms_of c.args.code.now in
    let places = c.args.path.now.places.items in
    let i = c.loop-i.i in
    let same = c.as_slice-places.ensures.value in
    let long = ap length same in
    let next : suc (i - 1) ≡ i = omega arith in (
      λ e. absurd (false≢true e),
      λ b.
          let passes = bare_path_passes forms c.args.word places (i - 1) (omega arith) b in
          c.if-not-passes_by.ensures.1 (rw same (rw next at passes)),
    )

pub loop-i-preserved : goal.loop-i-preserved
loop-i-preserved c =
    let forms = forms_of c.args.code.now in
    let places = c.args.path.now.places.items in
    let same = c.as_slice-places.ensures.value in
    let long = ap length same in
    let passes = rw same at (c.if-not-passes_by.ensures.0 refl) in
    front_more forms c.args.word places c.loop-i.i (omega arith) passes c.loop-i.invariant

-- at the end of the loop
whole : (c : After-loop-i) → IsBarePath (forms_of c.args.code.now) c.args.path.now.places.items c.args.word
whole c =
    let long = ap length c.as_slice-places.ensures.value in
    let all = take_all c.loop-i.i c.args.path.now.places.items (omega arith) in
    record { last = _; to = rw all at c.loop-i.invariant }

pub returns-clause-refutes : goal.returns-clause-refutes
returns-clause-refutes c = λ e.
    let path = whole (goal.at.returns-clause-refutes c).After-loop-i in
    refuted (forms_of c.args.code.now) c.args.word c.args.path.now.places.items path
