use Rattle.std.proofs.Common.{◌≡◌, ◌≢◌, ◌<◌, arith, length, refl}
use Rattle.std.proofs.lemmas.Option.{slice_get_read}
use Rattle.gw_verify.specs.declared.arrival.Arrival.TheVariants.{Never}
use Rattle.gw_verify.specs.Arrivals.{IsArrival}
use Rattle.gw_verify.specs.Flow.{forms_of, IsBare, IsBarePathTo}
use Rattle.gw_verify.proofs.Bare.{bare_inside}
use Rattle.gw_verify.proofs.Arrivals.{from_before, bare_told, never_told}
use Rattle.gw_verify.proofs.Decoding.{length_forms}
use Rattle.gw_verify.proofs.path.explain.Goals as goal
use Rattle.gw_verify.proofs.path.explain.Goals.{After-index, In_ok-path}

pub returns-then-place-code-clause-none : goal.returns-then-place-code-clause-none
returns-then-place-code-clause-none c = λ bare.
    let inside = bare_inside (forms_of c.args.code.now) c.args.word c.args.place bare in
    omega (arith, length_forms c.args.code.now)

pub returns-then-place-code-clause-after_refusal : goal.returns-then-place-code-clause-after_refusal
returns-then-place-code-clause-after_refusal c = λ first.
    let inside = bare_inside (forms_of c.args.code.now) c.args.word c.args.place first.fault.1 in
    absurd (omega (arith, length_forms c.args.code.now))

-- what the arrival at the place says
told : (c : After-index) → IsArrival (forms_of c.args.code.now) c.args.word c.args.place c.index.result.now
told c =
    let place = c.args.place in
    let arrivals = c.in_ok-arrivals.arrivals.items in
    let inside : place < length arrivals = omega (arith, c.in_ok-arrivals.ensures.long) in
    let read = slice_get_read arrivals (length arrivals) place _ refl inside c.index.ensures in
    c.in_ok-arrivals.ensures.arrivals place _ read

not_bare : (c : After-index) → c.index.result.now ≡ Never
    → IsBare (forms_of c.args.code.now) c.args.place c.args.word → ⊥
not_bare c e = never_told (forms_of c.args.code.now) c.args.word _ c.args.place _ (told c) e

bare : (c : After-index) → c.index.result.now ≢ Never
    → IsBare (forms_of c.args.code.now) c.args.place c.args.word
bare c comes =
    let some = length_forms c.args.code.now in
    bare_told (forms_of c.args.code.now) c.args.word _ c.args.place _ (omega arith) (told c) comes

pub returns-then-not-comes-clause-none : goal.returns-then-not-comes-clause-none
returns-then-not-comes-clause-none c =
    not_bare (goal.at.returns-then-not-comes-clause-none c).After-index c.if-not-comes.ensures

pub returns-then-not-comes-clause-after_refusal : goal.returns-then-not-comes-clause-after_refusal
returns-then-not-comes-clause-after_refusal c = λ first.
    let at = (goal.at.returns-then-not-comes-clause-after_refusal c).After-index in
    absurd (not_bare at c.if-not-comes.ensures first.fault.1)

pub path_back-requires-clause-back : goal.path_back-requires-clause-back
path_back-requires-clause-back c =
    let noted = c.in_ok-arrivals.ensures.arrivals in
    rw c.deref.ensures.value
    (from_before (forms_of c.args.code.now) c.args.word c.in_ok-arrivals.arrivals.items noted)

found : (c : In_ok-path) → IsBare (forms_of c.args.code.now) c.args.place c.args.word
    → IsBarePathTo (forms_of c.args.code.now) c.in_ok-path.path.places.items c.args.place c.args.word
found c is_bare =
    let noted = c.in_ok-arrivals.ensures.arrivals in
    c.in_ok-path.ensures (forms_of c.args.code.now) c.args.word (rw c.deref.ensures.value noted) is_bare

pub returns-clause-found : goal.returns-clause-found
returns-clause-found c =
    let at = goal.at.returns-clause-found c in
    found at.In_ok-path (bare at.After-index c.if-not-comes.ensures)

pub returns-clause-holds : goal.returns-clause-holds
returns-clause-holds c =
    let at = goal.at.returns-clause-holds c in
    record { last = c.args.place; to = found at.In_ok-path (bare at.After-index c.if-not-comes.ensures) }
