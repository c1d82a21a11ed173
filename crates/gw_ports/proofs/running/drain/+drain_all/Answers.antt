use Rattle.std.proofs.Common.{◌∙◌, ◌++◌, ◌∷◌, [], List, append_assoc, arith, ap, length-append, option_to_list, subst, sym}
use Rattle.gw_ports.specs.Running.{HasDrained, AllHaveDrained, Pairwise, drains_of}
use Rattle.gw_ports.specs.declared.running.drain.Drain.{Drain}
use Rattle.gw_ports.specs.declared.running.drain.Drains.{Drains}
use Rattle.gw_ports.proofs.Runs.{pairwise_append, pairwise_length}
use Rattle.gw_ports.proofs.running.drain.+drain_all.Goals as goal

pub drain_all-others-requires-clause-ready : goal.drain_all-others-requires-clause-ready
drain_all-others-requires-clause-ready g t c κs within =
    let asks = c.requires.ready in
    let without_last = c.in-Some.ensures.len in
    let without_both = c.pop-in-Some.ensures.len in
    let enough = asks.gathered.1 in
    record { feeds = asks.feeds; gathered = (asks.gathered.0, omega arith) }

pub push_to-requires : goal.push_to-requires
push_to-requires g t c =
    let R : Drain g.row.C.Denot → Drain g.row.C.Denot → Type 0 = HasDrained g.C.Sink.takes in
    let drains : Drains g.row.C.Denot = record { before = c.pop-in-Some.result; last = c.in-Some.last } in
    let value = ap (λ p. p.0.value) c.in-Ok.ensures.ok ∙ c.of.ensures in
    let own : AllHaveDrained g.C.Sink.takes drains c.join-own.result =
    subst (λ (o : Drains g.row.C.Denot). AllHaveDrained g.C.Sink.takes o c.join-own.result) value c.join-own.ensures in
    let others = c.in_ok-drained-in-Some.ensures.taken in
    let many = pairwise_length R c.pop-in-Some.new.self.items c.in_ok-drained-in-Some.drained.items others.0 in
    let these = pairwise_length R (drains_of drains) (drains_of c.join-own.result) own in
    let both = length-append (option_to_list c.pop-in-Some.result) (c.in-Some.last ∷ []) in
    let size = c.in_ok-drained-in-Some.drained.ok.0 in
    let rest = c.pop-in-Some.new.self.ok.0 in
    let without_last = c.in-Some.ensures.len in
    let without_both = c.pop-in-Some.ensures.len in
    let room = others.1 in
    let enough = c.requires.ready.gathered.1 in
    omega arith

pub returns-in_ok-drained-in-Some-clause-taken : goal.returns-in_ok-drained-in-Some-clause-taken
returns-in_ok-drained-in-Some-clause-taken g t c =
    let R : Drain g.row.C.Denot → Drain g.row.C.Denot → Type 0 = HasDrained g.C.Sink.takes in
    let drains : Drains g.row.C.Denot = record { before = c.pop-in-Some.result; last = c.in-Some.last } in
    let value = ap (λ p. p.0.value) c.in-Ok.ensures.ok ∙ c.of.ensures in
    let own : AllHaveDrained g.C.Sink.takes drains c.join-own.result =
    subst (λ (o : Drains g.row.C.Denot). AllHaveDrained g.C.Sink.takes o c.join-own.result) value c.join-own.ensures in
    let others = c.in_ok-drained-in-Some.ensures.taken in
    let rest = c.pop-in-Some.new.self.items in
    let all =
    c.in-Some.ensures.items ∙ ap (λ (l : List (Drain g.row.C.Denot)). l ++ c.in-Some.last ∷ []) c.pop-in-Some.ensures.items
    ∙ append_assoc rest (option_to_list c.pop-in-Some.result) (c.in-Some.last ∷ []) in (
      subst (λ (l : List (Drain g.row.C.Denot)). Pairwise R l c.push_to.new.drained.items) (sym all)
          (subst (λ (l : List (Drain g.row.C.Denot)). Pairwise R (rest ++ drains_of drains) l) (sym c.push_to.ensures.items)
          (pairwise_append R rest (drains_of drains) c.in_ok-drained-in-Some.drained.items (drains_of c.join-own.result) others.0
          own)),
      c.push_to.ensures.capacity ∙ others.1,
    )
