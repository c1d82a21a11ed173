use Rattle.std.proofs.Common.{◌≡◌, ◌∙◌, ◌<◌, ◌∷◌, [], List, arith, ap, get_or, length, refl, subst, sym}
use Rattle.std.proofs.lemmas.Bool.{cond_below}
use mathlib.Core.List.{IsPrefix}
use Rattle.gw_board.specs.Lists.{longer}
use Rattle.gw_policy.specs.Batches.{Pair}
use Rattle.gw_ports.specs.Ends.{Ingress}
use Rattle.gw_ports.proofs.SettlingAll.{Settles, one_more_settled}
use Rattle.gw_ports.proofs.running.opening.learn_all.Goals as goal

longer_nothing : (batches : List (List Pair)) → longer [] batches ≡ batches
longer_nothing [] = refl
longer_nothing (batch ∷ batches) = sym (cond_below 0 (length (batch ∷ batches)) (batch ∷ batches) [] (omega arith))

pub loop-index-init : goal.loop-index-init
loop-index-init c = record { size = refl; settled = λ k d below. absurd (omega arith); rest = λ k d above. refl }

pub learn-requires : goal.learn-requires
learn-requires c =
    let at = c.loop-index in
    let inside : at.index < length at.ports = let s = at.auto.ports in let t = c.loop-index-test.true in omega arith in
    let start = c.args.ports.now in
    let size = at.invariant.size in
    let old = c.index-ports-index.result in
    sym (ap (λ (i : Ingress). i.board) (at.invariant.rest at.index old (omega arith)) ∙ (c.requires at.index old (omega arith)).0)

pub loop-index-preserved : goal.loop-index-preserved
loop-index-preserved c =
    let at = c.loop-index in
    let told = c.args.told.now.batches in
    let inside : at.index < length at.ports = let s = at.auto.ports in let t = c.loop-index-test.true in omega arith in
    let start = c.args.ports.now in
    let size = at.invariant.size in
    let old = c.index-ports-index.result in
    let blank : (get_or at.ports at.index old).known ≡ [] =
    ap (λ (i : Ingress). i.known) (at.invariant.rest at.index old (omega arith)) ∙ (c.requires at.index old (omega arith)).1 in
    let renew : List (List Pair) → Ingress = λ l. record (get_or at.ports at.index old) { known = l } in
    let settles : Settles told (get_or at.ports at.index old) c.learn.new.self = (
      c.learn.ensures.value ∙ ap renew (ap (λ l. longer l told) blank ∙ longer_nothing told),
      subst (λ (l : List (List Pair)). IsPrefix l told) (sym blank) (told, refl),
    ) in
    one_more_settled at.index told start at.ports old c.learn.new.self at.invariant inside settles

pub returns-clause-told : goal.returns-clause-told
returns-clause-told c = λ k d below.
    (c.loop-index.invariant.settled k d (let s = c.loop-index.auto.ports in let t = c.loop-index-test.false in omega arith)).0
