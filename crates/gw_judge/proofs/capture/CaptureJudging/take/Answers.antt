use Rattle.std.proofs.Common.{◌≡◌, ◌<◌, [], ◌++◌, length, refl, sym, ap, ◌∙◌, subst, append_assoc, append-nil, arith}
use Rattle.std.proofs.lemmas.List.{nil_from_length}
use Rattle.std.proofs.lemmas.Bool.Decides.{nat_tests}
use Rattle.gw_judge.specs.CapturesUnderWay.{HasCounted, Refuses}
use Rattle.gw_judge.proofs.capture.CaptureJudging.take.Goals as goal

pub records-init : goal.records-init
records-init g c =
    let fate = g.D.Decider.fate_by c.args.decider.now c.args.from in
    record {
      read = λ octets h. (
        [],
        refl,
        subst (λ xs. HasCounted fate c.args.strict xs c.args.self.now) (sym (append-nil octets)) h,
      );
      grouping = refl;
    }

pub records-smaller : goal.records-smaller
records-smaller g c =
    let some : 0 < length c.records.rest.now = grind (arith, nat_tests) in
    c.in-Ok.ensures.shorter some

pub records-preserved : goal.records-preserved
records-preserved g c =
    let fate = g.D.Decider.fate_by c.args.decider.now c.args.from in
    record {
      read = λ octets h.
          let before = c.records.invariant.read octets h in
          let step = c.in-Ok.ensures.counted (octets ++ before.0) before.2 in (
            before.0 ++ step.0,
            before.1 ∙ ap (λ xs. before.0 ++ xs) step.1 ∙ sym (append_assoc before.0 step.0 c.in-Ok.others.now),
            subst (λ xs. HasCounted fate c.args.strict xs c.step.new.self) (append_assoc octets before.0 step.0) step.2,
          );
      grouping = c.in-Ok.ensures.grouping ∙ c.records.invariant.grouping;
    }

pub returns-in-Err-clause-counted : goal.returns-in-Err-clause-counted
returns-in-Err-clause-counted g c = λ octets h.
    let before = c.records.invariant.read octets h in
    subst (λ xs. Refuses c.args.strict xs c.in-Err.fault.judged c.in-Err.fault.why)
    (append_assoc octets before.0 c.records.rest.now ∙ ap (λ xs. octets ++ xs) (sym before.1))
    (c.in-Err.ensures.refused (octets ++ before.0) before.2)

pub returns-clause-counted : goal.returns-clause-counted
returns-clause-counted g c = λ octets h.
    let fate = g.D.Decider.fate_by c.args.decider.now c.args.from in
    let before = c.records.invariant.read octets h in
    let short : length c.records.rest.now ≡ 0 = grind (arith, nat_tests) in
    let none = nil_from_length c.records.rest.now short in
    subst (λ xs. HasCounted fate c.args.strict xs c.records.self)
    (ap (λ xs. octets ++ xs) (sym (before.1 ∙ ap (λ xs. before.0 ++ xs) none ∙ append-nil before.0))) before.2
