use Rattle.std.proofs.Common.{◌==◌, w16, sym, ap, ◌∙◌, subst, arith}
use Rattle.std.specs.Int.{bit_at}
use Rattle.std.proofs.lemmas.Bool.{eq-eqb}
use Rattle.std.proofs.lemmas.Nat.Bits.{bit_at-trailing_zeros}
use Rattle.gw_ledger.specs.Ports.{IsPortSet, ports_below}
use Rattle.gw_ledger.specs.PortWord.{ports_of_word}
use Rattle.gw_ledger.proofs.PortBits.{set_bit}
use Rattle.gw_ledger.proofs.PortLists.{is_set}
use Rattle.gw_ledger.proofs.port_set.PortSet.first.Goals as goal

pub returns-then-self-eq0-clause-least : goal.returns-then-self-eq0-clause-least
unfolding ports_below
returns-then-self-eq0-clause-least c = sym c.self.view_is ∙ ap ports_of_word c.if-self-eq0.true

pub returns-then-self-eq0-clause-set : goal.returns-then-self-eq0-clause-set
returns-then-self-eq0-clause-set c = subst IsPortSet c.self.view_is (is_set (λ port. bit_at c.self.inside.word port == 1))

pub returns-clause-least : goal.returns-clause-least
returns-clause-least c =
    let word = c.self.inside.word in
    let (low, set, lower) = bit_at-trailing_zeros w16 word (omega (arith, c.if-self-eq0.false)) c.self.invariant.below in (
      low,
      sym (set_bit word c.args.self _ c.self.view_is low) ∙ eq-eqb _ 1 set,
      λ other less. sym (set_bit word c.args.self other c.self.view_is (omega (arith, low, less)))
          ∙ ap (λ b. b == 1) (lower other less),
    )

pub returns-clause-set : goal.returns-clause-set
returns-clause-set c = subst IsPortSet c.self.view_is (is_set (λ port. bit_at c.self.inside.word port == 1))
