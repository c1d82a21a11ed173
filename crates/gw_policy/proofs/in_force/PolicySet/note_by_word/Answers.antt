use Rattle.std.proofs.Common.{refl, sym, ap, ◌∙◌, subst}
use Rattle.gw_ledger.specs.Ports.{has_port}
use Rattle.gw_policy.specs.Cached.{AreByWord}
use Rattle.gw_policy.proofs.Recalling.{has_none, one_more_by_word}
use Rattle.gw_policy.proofs.in_force.PolicySet.note_by_word.Goals as goal
use Rattle.gw_policy.proofs.in_force.PolicySet.note_by_word.Goals.{then-is_by_word, else-is_by_word}

pub loop-port-init : goal.loop-port-init
loop-port-init c = record {
  same = refl;
  by_word = λ port has. absurd (has_none c.new-by_word.result c.new-by_word.ensures port has);
}

pub loop-port-preserved : goal.loop-port-preserved
loop-port-preserved c = record {
  same = c.loop-port.invariant.same;
  by_word = elim c.if-is_by_word.branch [
    | then-is_by_word w ↦ one_more_by_word c.args.self.now c.loop-port.port c.loop-port.by_word c.if-is_by_word.by_word
        c.loop-port.invariant.by_word (c.is_by_word.ensures w.if-is_by_word.true)
        (λ port. ap (has_port port) w.by_word-is ∙ w.add.ensures.members port)
    | else-is_by_word w ↦ subst (AreByWord c.args.self.now) (sym w.by_word-is) c.loop-port.invariant.by_word
  ];
}

pub invariant_of-self : goal.invariant_of-self
invariant_of-self c = (
  c.self-2.invariant.0,
  c.self-2.invariant.1,
  subst (λ set. AreByWord set c.loop-port.by_word) (sym c.self-2.view_is) c.loop-port.invariant.by_word,
)
