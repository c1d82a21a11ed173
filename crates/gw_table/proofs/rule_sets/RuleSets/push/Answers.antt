use Rattle.std.proofs.Common.{◌≡◌, refl, subst, arith}
use Rattle.gw_table.proofs.Listed.{IsBegun, begun_none, begun_more, set_made}
use Rattle.gw_table.proofs.rule_sets.RuleSets.push.Goals as goal

pub loop-word-init : goal.loop-word-init
loop-word-init c = record {
  words = refl;
  begun = begun_none c.args.property c.args.rules.now c.args.self.now.bits.items;
}

pub loop-word-preserved : goal.loop-word-preserved
loop-word-preserved c = record {
  words = c.loop-word.invariant.words;
  begun = begun_more c.args.property c.args.rules.now c.args.self.now.bits.items c.loop-word.self.bits.items _ c.loop-word.word _
      c.loop-word.invariant.begun c.word_of.ensures c.in_ok-push.ensures.items;
}

pub returns-clause-set : goal.returns-clause-set
returns-clause-set c =
    let old = c.args.self.now.bits.items in
    let new = c.loop-word.self.bits.items in
    let words = c.args.self.now.words in
    let all : c.loop-word.word ≡ words = omega arith in
    set_made c.args.property c.args.rules.now old new words c.requires.room
    (subst (IsBegun c.args.property c.args.rules.now old new) all c.loop-word.invariant.begun)
