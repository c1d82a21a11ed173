use Rattle.std.proofs.Common.{◌≡◌, ◌∙◌, ◌++◌, ◌<◌, ◌∷◌, ℕ, [], List, arith, ap, drop, get_or, length, map, subst, sym, take}
use Rattle.std.specs.List.{All}
use Rattle.std.proofs.lemmas.List.{with_items_is}
use Rattle.gw_board.specs.Ends.{new_operator}
use Rattle.gw_policy.specs.Batches.{Pair}
use Rattle.gw_ports.specs.Ends.{Ingress, end_in, end_out}
use Rattle.gw_ports.specs.Making.{AreEnds}
use Rattle.gw_ports.specs.Running.{with_batches}
use Rattle.gw_ports.specs.Runs.{IsOpened}
use Rattle.gw_ports.proofs.OneGateway.{new_gateway}
use Rattle.gw_ports.proofs.Opening.{new_ends_know}
use Rattle.gw_ports.proofs.running.opening.open.Goals as goal

pub returns-clause-opened : goal.returns-clause-opened
returns-clause-opened g c =
    let parts = c.in-Ok.parts in
    let limits = c.args.limits in
    let first = c.args.first in
    let operator = c.replace.new.self in
    let old = parts.ins.items in
    let outs = parts.outs.items in
    let now = c.learn_all.new.ports in
    let told = c.tell-told.result.batches in
    let lent = c.deref_mut.ensures.value in
    let size : length now ≡ length old = c.learn_all.ensures.size ∙ ap length lent in
    let after : take parts.ins.len (now ++ drop (length now) old) ≡ now =
    with_items_is parts.ins now (size ∙ sym parts.ins.ok.0) in
    let new = c.in-Ok.ensures.operator in
    let published = c.in-Ok-replace.ensures.published.0 in
    let told_is : told ≡ first ∷ [] =
    ap (λ t. t.batches) c.tell-told.ensures ∙ ap (λ o. o.published) published ∙ ap (λ o. o.published ++ first ∷ []) new in
    let renew : Ingress → List (List Pair) → Ingress = λ i l. record i { known = l } in
    let raw = subst
    (λ (l : List Ingress). (k : ℕ) (d : Ingress) → k < length l → get_or now k d ≡ renew (get_or l k d) told) lent
    c.learn_all.ensures.told in
    let told_at : (k : ℕ) (d : Ingress) → k < length old → get_or now k d ≡ renew (get_or old k d) (first ∷ []) =
    λ k d below. raw k d below ∙ ap (λ b. renew (get_or old k d) b) told_is in
    let ends = new_ends_know limits.ports limits.frames limits.lane (first ∷ []) old now outs c.in-Ok.ensures.ends size told_at in
    let board = c.in-Ok-replace.ensures.board in
    let boards : All (λ (i : Ingress). i.board ≡ operator.board) now =
    λ k d below. ap (λ (i : Ingress). i.board) (told_at k d (omega arith)) ∙ (c.in-Ok.ensures.known k d (omega arith)).0
    ∙ sym board in
    subst (λ (l : List Ingress). IsOpened limits first operator l outs) (sym after) record {
      published =
          published ∙ ap (λ o. with_batches o (first ∷ [])) (new ∙ ap (λ b. new_operator b limits) (sym board));
      ends = ends;
      known = λ k d below. (boards k d below, ap (λ (i : Ingress). i.known) (told_at k d (omega arith)));
      one =
          subst (λ n. AreEnds operator.board n (map end_in now) (map end_out outs))
          (sym (c.in-Ok-replace.ensures.ports ∙ ap (λ o. o.ports) new))
          (new_gateway operator.board limits.ports limits.frames limits.lane now outs ends boards);
    }
