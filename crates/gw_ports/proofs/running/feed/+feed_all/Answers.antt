use Rattle.std.proofs.Common.{◌≡◌, ◌∙◌, [], rules, arith, ap, refl, subst}
use Rattle.std.proofs.lemmas.List.{nil_from_length}
use Rattle.gw_ports.specs.Running.{CanOffer, HasFed}
use Rattle.gw_ports.specs.declared.running.feed.Done.{Done}
use Rattle.gw_ports.specs.declared.running.feed.Feed.{Feed}
use Rattle.gw_ports.proofs.Runs.{all_last, pairwise_length, pairwise_none, pairwise_push}
use Rattle.gw_ports.proofs.running.feed.+feed_all.Goals as goal

pub returns-in-None-clause-done : goal.returns-in-None-clause-done
returns-in-None-clause-done g t c =
    let R : Feed g.row.I.Denot g.row.O.Denot → Done g.row.I.Denot g.row.O.Denot → Type 0 =
    HasFed g.I.Iterator.next_gives g.O.Sink.takes in
    let size = c.args.intake.feeds.ok.0 in
    let none : c.args.intake.feeds.items ≡ [] =
    nil_from_length c.args.intake.feeds.items (let count = c.in-None.ensures.cases.0 in omega arith) in (
      pairwise_none R c.args.intake.feeds.items c.args.intake.done.items none c.requires.ready.gathered.0,
      refl,
    )

-- What holds of all ports holds of the last, and of those before it.
pub spawn_with-requires-clause-runs : goal.spawn_with-requires-clause-runs
spawn_with-requires-clause-runs g t c = λ κs within. (
  (let P : Feed g.row.I.Denot g.row.O.Denot → Type 0 =
      CanOffer g.I.Iterator.can_next g.I.Iterator.remaining g.O.Sink.room in
      (all_last P c.pop.new.self.items c.args.intake.feeds.items c.in-Some.feed c.in-Some.ensures.items c.requires.ready.each).1),
  (search rules, search rules, search rules, search rules),
)

pub feed_all-others-requires-clause-ready : goal.feed_all-others-requires-clause-ready
feed_all-others-requires-clause-ready g t c κs within =
    let P : Feed g.row.I.Denot g.row.O.Denot → Type 0 =
    CanOffer g.I.Iterator.can_next g.I.Iterator.remaining g.O.Sink.room in
    let size = c.args.intake.feeds.ok.0 in
    let rest = c.pop.new.self.ok.0 in
    let less = c.in-Some.ensures.len in
    let asks = c.requires.ready in
    let enough = asks.gathered.1 in
    record {
      each = (all_last P c.pop.new.self.items c.args.intake.feeds.items c.in-Some.feed c.in-Some.ensures.items asks.each).0;
      gathered = (asks.gathered.0, omega arith);
      fronts = asks.fronts;
      enough = asks.enough;
    }

pub push_reserved-requires : goal.push_reserved-requires
push_reserved-requires g t c =
    let R : Feed g.row.I.Denot g.row.O.Denot → Done g.row.I.Denot g.row.O.Denot → Type 0 =
    HasFed g.I.Iterator.next_gives g.O.Sink.takes in
    let others = c.in_ok-done-in-Some.ensures.done in
    let many = pairwise_length R c.pop.new.self.items c.in_ok-done-in-Some.done.items others.0 in
    let room = others.1 in
    let size = c.in_ok-done-in-Some.done.ok.0 in
    let rest = c.pop.new.self.ok.0 in
    let less = c.in-Some.ensures.len in
    let enough = c.requires.ready.gathered.1 in
    omega arith

pub returns-in_ok-done-in-Some-clause-done : goal.returns-in_ok-done-in-Some-clause-done
returns-in_ok-done-in-Some-clause-done g t c =
    let R : Feed g.row.I.Denot g.row.O.Denot → Done g.row.I.Denot g.row.O.Denot → Type 0 =
    HasFed g.I.Iterator.next_gives g.O.Sink.takes in
    let others = c.in_ok-done-in-Some.ensures.done in
    let value = ap (λ p. p.0.value) c.in-Ok.ensures.ok ∙ c.of.ensures in
    let own : R c.in-Some.feed c.join-one.result =
    subst (λ (o : Feed g.row.I.Denot g.row.O.Denot). R o c.join-one.result) value c.join-one.ensures in (
      pairwise_push R c.pop.new.self.items c.args.intake.feeds.items c.in_ok-done-in-Some.done.items
          c.push_reserved.new.self.items c.in-Some.feed c.join-one.result c.in-Some.ensures.items
          c.push_reserved.ensures.items others.0 own,
      c.push_reserved.ensures.capacity ∙ others.1,
    )
