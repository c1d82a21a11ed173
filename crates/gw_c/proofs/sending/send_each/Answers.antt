use Rattle.std.proofs.Common.{arith, ◌+◌, ◌<◌, List, ◌∷◌, length, take, drop, None, subst, sym, ap, ◌∙◌}
use Rattle.std.proofs.lemmas.List.{take_more_set, drop-set-lt, drop-drop}
use Rattle.gw_core.specs.Circle.{FindsSource}
use Rattle.gw_core.specs.Gateway.{Gateway, Stands}
use Rattle.gw_core.specs.declared.event.Event.TheVariants.{Send}
use Rattle.gw_c.specs.declared.sending.CCopy.{CCopy}
use Rattle.gw_c.specs.Sendings.{SendsInTurn}
use Rattle.gw_c.proofs.InTurn.{one_more}
use Rattle.gw_c.proofs.sending.send_each.Goals as goal

-- none waits: the gateway stands as it did
pub returns-in_default : goal.returns-in_default
returns-in_default c = λ known history stands.
    let to = c.args.to in let told = take c.loop-count.count c.loop-count.copies in
    let so_far = c.loop-count.invariant.sends known history stands in
    let none = c.in_default.ensures.sends known so_far.after so_far.stands in
    record {
      many = record {
        after = so_far.after;
        room = so_far.room;
        sends = subst (λ (core : Gateway). SendsInTurn known to told c.args.core.now history core so_far.after) (sym none.0)
            so_far.sends;
        stands = subst (λ (core : Gateway). Stands core known so_far.after) (sym none.0) so_far.stands;
        limits = c.in_default.ensures.limits ∙ so_far.limits;
        left = so_far.left;
      };
      all = λ _. subst (λ (core : Gateway). FindsSource core known so_far.after to None) (sym none.0) none.1;
    }

-- one more is sent, and told behind the others
pub loop-count-preserved : goal.loop-count-preserved
loop-count-preserved c =
    let to = c.args.to in let old = c.args.core.now in let mid = c.loop-count.core in let new = c.send_next.new.core in
    let count = c.loop-count.count in let copies = c.loop-count.copies in let copy = c.in-Some.copy in
    let below : count < length copies = omega arith in
    record {
      limits = c.in-Some.ensures.limits ∙ c.loop-count.invariant.limits;
      sends = λ known history stands.
          let so_far = c.loop-count.invariant.sends known history stands in
          let one = c.in-Some.ensures.sends known so_far.after so_far.stands in
          record {
            after = Send to one.0 ∷ so_far.after;
            room = omega arith;
            sends = subst (λ (told : List CCopy). SendsInTurn known to told old history new (Send to one.0 ∷ so_far.after))
                (sym (take_more_set copies count copy below))
                (one_more known to one.0 (take count copies) copy old history mid so_far.after new so_far.sends one.1);
            stands = one.1.stands;
            limits = one.1.limits ∙ so_far.limits;
            left = drop-set-lt (count + 1) copies count copy (omega arith) ∙ sym (drop-drop 1 count copies)
                ∙ ap (λ rest. drop 1 rest) so_far.left ∙ drop-drop 1 count c.args.copies.now;
          };
    }
