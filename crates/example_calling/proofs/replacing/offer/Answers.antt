use Rattle.std.proofs.Common.{◌≡◌, ◌∙◌, List, sym, ap, subst}
use mathlib.Core.List.{IsPrefix}
use Rattle.j1939_gateway.specs.Lists.{longer}
use Rattle.j1939_gateway.specs.Holders.{HoldsAfter}
use Rattle.j1939_gateway.specs.Batches.{Pair}
use Rattle.j1939_gateway.specs.PortEnds.{Ingress}
use Rattle.j1939_gateway.specs.Offers.{Offered}
use Rattle.example_calling.specs.Replacing.{told_of}
use Rattle.example_calling.proofs.replacing.offer.Goals as goal

pub returns-in-Ok-clause-taken : goal.returns-in-Ok-clause-taken
returns-in-Ok-clause-taken c = λ heard holds.
    let old = c.args.port.now in
    let published = c.args.operator.now.published in
    let batches : c.tell-told.result.batches ≡ published = ap (λ t. t.batches) c.tell-told.ensures in
    let told : c.learn.new.self ≡ told_of published old =
    c.learn.ensures.value ∙ ap (λ b. told_of b old) batches in record {
      kept = subst (λ (i : Ingress). IsPrefix old.known i.known) told c.learn.ensures.kept;
      told =
          subst (λ (b : List (List Pair)). IsPrefix b (longer old.known published)) batches
          (subst (λ (i : Ingress). IsPrefix c.tell-told.result.batches i.known) told c.learn.ensures.told);
      offered =
          subst (λ (i : Ingress). Offered heard i c.args.frame c.in-Ok.outcome c.offer.new.self) told
          (c.in-Ok.ensures.offered heard (subst (λ (i : Ingress). HoldsAfter i.claims heard) (sym told) holds));
    }
