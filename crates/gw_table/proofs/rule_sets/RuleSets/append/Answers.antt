use Rattle.std.proofs.Common.{◌+◌, length, drop, ap, subst, ◌∙◌}
use Rattle.gw_table.specs.RuleSets.{IsSetOf}
use Rattle.gw_table.specs.Sections.{property_of}
use Rattle.gw_table.proofs.Listed.{followed_more}
use Rattle.gw_table.proofs.rule_sets.RuleSets.append.Goals as goal

pub loop-number-preserved : goal.loop-number-preserved
loop-number-preserved c =
    let now = c.loop-number.self.bits.items in
    let next = c.push.new.self.bits.items in
    let pushed = c.in_ok-push.ensures in
    record {
      words = pushed.words ∙ c.loop-number.invariant.words;
      follows = followed_more (property_of c.args.section) c.args.rules.now c.args.self.now.words c.args.self.now.bits.items
          now next c.loop-number.number c.loop-number.invariant.follows
          (pushed.grown ∙ ap (λ n. length now + n) c.loop-number.invariant.words) pushed.before
          (subst (λ p. IsSetOf p c.args.rules.now (drop (length now) next)) c.property.ensures pushed.set);
    }
