use Rattle.std.proofs.Common.{◌≤◌, ℕ, List, [], sym, ap, subst, arith}
use Rattle.std.specs.Borrow.{Bor}
use Rattle.gw_text.specs.Assembly.{is_always}
use Rattle.gw_text.specs.Sources.{place_in}
use Rattle.gw_text.proofs.FirstFaults.{near_at, if_true_raw, if_false_raw, either_raw, always_raw}
use Rattle.gw_text.proofs.targets.raw.Goals as goal

abbrev no_name : Bor (List ℕ)
no_name = record { ref_ptr = (0, 0); now = [] }

pub overflow_cast-result-in-IfTrue-len1-up : goal.overflow_cast-result-in-IfTrue-len1-up
overflow_cast-result-in-IfTrue-len1-up c =
    let near : c.distance-in-IfTrue-len1-up.result ≤ 255 =
    subst (λ n. n ≤ 255) (sym c.distance-in-IfTrue-len1-up.ensures)
    (near_at (place_in c.args.places.now) c.args.place c.args.instruction.now c.as_slice.result.now 0 no_name
    c.as_slice.ensures.value c.requires.near
    (ap is_always c.in-IfTrue-len1-up.is-0) (omega (arith, c.in-IfTrue-len1-up.len_at_least))) in
    omega (arith, near)

pub overflow_cast-result-in-IfFalse-len1-up : goal.overflow_cast-result-in-IfFalse-len1-up
overflow_cast-result-in-IfFalse-len1-up c =
    let near : c.distance-in-IfFalse-len1-up.result ≤ 255 =
    subst (λ n. n ≤ 255) (sym c.distance-in-IfFalse-len1-up.ensures)
    (near_at (place_in c.args.places.now) c.args.place c.args.instruction.now c.as_slice.result.now 0 no_name
    c.as_slice.ensures.value c.requires.near
    (ap is_always c.in-IfFalse-len1-up.is-0) (omega (arith, c.in-IfFalse-len1-up.len_at_least))) in
    omega (arith, near)

pub overflow_cast-result-in-Either-len2-up : goal.overflow_cast-result-in-Either-len2-up
overflow_cast-result-in-Either-len2-up c =
    let near : c.distance-in-Either-len2-up.result ≤ 255 =
    subst (λ n. n ≤ 255) (sym c.distance-in-Either-len2-up.ensures)
    (near_at (place_in c.args.places.now) c.args.place c.args.instruction.now c.as_slice.result.now 0 no_name
    c.as_slice.ensures.value c.requires.near
    (ap is_always c.in-Either-len2-up.is-0) (omega (arith, c.in-Either-len2-up.len_at_least))) in
    omega (arith, near)

pub overflow_cast-result-in-Either-len2-up-2 : goal.overflow_cast-result-in-Either-len2-up-2
overflow_cast-result-in-Either-len2-up-2 c =
    let near : c.distance-in-Either-len2-up-2.result ≤ 255 =
    subst (λ n. n ≤ 255) (sym c.distance-in-Either-len2-up-2.ensures)
    (near_at (place_in c.args.places.now) c.args.place c.args.instruction.now c.as_slice.result.now 1 no_name
    c.as_slice.ensures.value c.requires.near
    (ap is_always c.in-Either-len2-up.is-0) (omega (arith, c.in-Either-len2-up.len_at_least))) in
    omega (arith, near)

pub returns-in-Always-len1-up : goal.returns-in-Always-len1-up
returns-in-Always-len1-up c =
    always_raw (place_in c.args.places.now) c.args.place c.args.instruction.now c.as_slice.result.now no_name c.distance.result
    c.as_slice.ensures.value
    c.in-Always-len1-up.is-0 c.in-Always-len1-up.len_at_least c.distance.ensures

pub returns-in-IfTrue-len1-up : goal.returns-in-IfTrue-len1-up
returns-in-IfTrue-len1-up c =
    if_true_raw (place_in c.args.places.now) c.args.place c.args.instruction.now c.as_slice.result.now no_name
    c.distance-in-IfTrue-len1-up.result c.as_slice.ensures.value
    c.in-IfTrue-len1-up.is-0 c.in-IfTrue-len1-up.len_at_least c.distance-in-IfTrue-len1-up.ensures

pub returns-in-IfFalse-len1-up : goal.returns-in-IfFalse-len1-up
returns-in-IfFalse-len1-up c =
    if_false_raw (place_in c.args.places.now) c.args.place c.args.instruction.now c.as_slice.result.now no_name
    c.distance-in-IfFalse-len1-up.result c.as_slice.ensures.value
    c.in-IfFalse-len1-up.is-0 c.in-IfFalse-len1-up.len_at_least c.distance-in-IfFalse-len1-up.ensures

pub returns-in-Either-len2-up : goal.returns-in-Either-len2-up
returns-in-Either-len2-up c =
    either_raw (place_in c.args.places.now) c.args.place c.args.instruction.now c.as_slice.result.now no_name no_name
    c.distance-in-Either-len2-up.result
    c.distance-in-Either-len2-up-2.result c.as_slice.ensures.value c.in-Either-len2-up.is-0 c.in-Either-len2-up.len_at_least
    c.distance-in-Either-len2-up.ensures
    c.distance-in-Either-len2-up-2.ensures
