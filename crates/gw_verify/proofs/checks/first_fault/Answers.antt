use Rattle.std.proofs.Common.{◌-◌, ◌<◌, ◌≤◌, length, arith}
use Rattle.std.proofs.lemmas.Bool.Decides.{nat_tests}
use Rattle.gw_verify.specs.Flow.{forms_of}
use Rattle.gw_verify.proofs.Decoding.{length_forms}
use Rattle.gw_verify.proofs.Faults.{first_own, first_no_return, first_unset, accepted, orderly}
use Rattle.gw_verify.proofs.checks.first_fault.Goals as goal
use Rattle.gw_verify.proofs.checks.first_fault.Goals.{After-first_own_fault}

some : (c : After-first_own_fault) → 0 < length (forms_of c.args.code.now)
some c =
    let len = length_forms c.args.code.now in
    let code : 0 < length c.args.code.now =
    grind (arith, nat_tests, c.is_empty.ensures, c.if-is_empty.false) in
    omega arith

short : (c : After-first_own_fault) → length (forms_of c.args.code.now) ≤ 4096
short c = omega (arith, length_forms c.args.code.now)

pub returns-in-Some-clause-some : goal.returns-in-Some-clause-some
returns-in-Some-clause-some c =
    let forms = forms_of c.args.code.now in
    let at = (goal.at.returns-in-Some-clause-some c).After-first_own_fault in
    let found = c.in-Some.ensures.some in
    first_own forms (some at) (short at) c.in-Some.found.0 c.in-Some.found.1 found.0 found.1

pub returns-then-not-ends_in_return-clause-some : goal.returns-then-not-ends_in_return-clause-some
returns-then-not-ends_in_return-clause-some c =
    let code = c.args.code.now in
    let at = (goal.at.returns-then-not-ends_in_return-clause-some c).After-first_own_fault in
    first_no_return (forms_of code) (some at) (short at) (rw (length_forms code) c.in_default.ensures.none)
    (length code - 1) c.if-not-ends_in_return.ensures

pub first_unset_load-requires : goal.first_unset_load-requires
first_unset_load-requires c =
    let code = c.args.code.now in
    let at = (goal.at.first_unset_load-requires c).After-first_own_fault in
    orderly (forms_of code) (some at) (short at) (rw (length_forms code) c.in_default.ensures.none)
    c.if-not-ends_in_return.ensures

pub returns-in-Some-first_unset_load-clause-some : goal.returns-in-Some-first_unset_load-clause-some
returns-in-Some-first_unset_load-clause-some c =
    let code = c.args.code.now in
    let at = (goal.at.returns-in-Some-first_unset_load-clause-some c).After-first_own_fault in
    let load = c.in-Some-first_unset_load in
    first_unset (forms_of code) (some at) (short at) (rw (length_forms code) c.in_default.ensures.none)
    c.if-not-ends_in_return.ensures load.word load.place load.ensures.some.0 load.ensures.some.1

pub returns-clause-none : goal.returns-clause-none
returns-clause-none c =
    let code = c.args.code.now in
    let at = (goal.at.returns-clause-none c).After-first_own_fault in
    let len = length_forms code in
    accepted (forms_of code) (some at) (short at) (rw len c.in_default.ensures.none)
    c.if-not-ends_in_return.ensures (rw len c.in_default-first_unset_load.ensures.none)
