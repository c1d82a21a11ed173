use Rattle.std.proofs.Common.{refl, sym, subst, arith, length, Some, None}
use Rattle.std.proofs.lemmas.Fn.{says_at}
use Rattle.std.proofs.lemmas.List.Elements.{AllWithin-more, AllWithin-upto}
use Rattle.std.proofs.lemmas.Option.{slice_get_read, get_or_from_slice_get}
use Rattle.std.specs.Fn.{FnReturnsAt}
use Rattle.gw_table.proofs.faults.first_of.Goals as goal

pub returns-in-Some : goal.returns-in-Some
returns-in-Some g c =
    let rules = c.args.rules.now in
    let rule = c.index-rules-number.result in
    let here = slice_get_read rules _ c.loop-number.number rule refl c.loop-number-test.true c.index-rules-number.is in
    record {
      first = (
        c.loop-number-test.true,
        (λ d. subst (λ x. FnReturnsAt g.F.Fn c.args.wrong x (Some c.in-Some.why))
            (sym (get_or_from_slice_get rules c.loop-number.number rule d here)) (says_at g.F.Fn c.wrong.ensures c.in-Some.is)),
        c.loop-number.invariant,
      );
    }

pub loop-number-preserved : goal.loop-number-preserved
loop-number-preserved g c =
    let rules = c.args.rules.now in
    let rule = c.index-rules-number.result in
    let here = slice_get_read rules _ c.loop-number.number rule refl c.loop-number-test.true c.index-rules-number.is in
    AllWithin-more (λ rule. FnReturnsAt g.F.Fn c.args.wrong rule None) rules 0 c.loop-number.number c.loop-number.invariant
    (λ d. subst (λ x. FnReturnsAt g.F.Fn c.args.wrong x None)
    (sym (get_or_from_slice_get rules c.loop-number.number rule d here)) (says_at g.F.Fn c.wrong.ensures c.in_default.is))

pub returns : goal.returns
returns g c =
    record {
      first =
          AllWithin-upto (λ rule. FnReturnsAt g.F.Fn c.args.wrong rule None) c.args.rules.now 0 c.loop-number.number
          (length c.args.rules.now) (omega (arith, c.loop-number-test.false)) c.loop-number.invariant;
    }
