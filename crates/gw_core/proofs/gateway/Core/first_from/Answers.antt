use Rattle.std.proofs.Common.{sym, ◌∙◌, arith}
use Rattle.std.proofs.lemmas.Bool.{false≢true}
use Rattle.gw_core.specs.Start.{begun}
use Rattle.gw_core.specs.Events.{accepted}
use Rattle.gw_core.proofs.Circles.{none_more}
use Rattle.gw_core.proofs.gateway.Core.first_from.Goals as goal

pub returns-then-waits-clause-found : goal.returns-then-waits-clause-found
returns-then-waits-clause-found c = λ known history s. record {
  waits = (c.waits.ensures known history s).0 c.if-waits.true;
  within = (c.loop-from.auto.from, c.loop-from-test.true);
  none = c.loop-from.invariant known history s;
}

pub loop-from-preserved : goal.loop-from-preserved
loop-from-preserved c = λ known history s.
    none_more (begun c.args.self.now.limits known) (accepted
    (begun c.args.self.now.limits known) history) c.args.to c.args.begin c.loop-from.from
    (c.loop-from.invariant known history s) (λ waits. false≢true (sym c.if-waits.false ∙
    (c.waits.ensures known history s).1 waits))

pub returns-clause-found : goal.returns-clause-found
returns-clause-found c = λ known history s from least below waits.
    c.loop-from.invariant known history s from least (omega (arith, below, c.loop-from-test.false)) waits
